-- `walking::in_order`: what is counted is what the components before this one find in their windows.
use Rattle.tables.specs.Lent.{components_in, properties_in}
use Rattle.walking.proofs.Counting.{Counted}
use Rattle.walking.proofs.in_order.Given as goal

abbrev pub invariant-loop-row : goal.invariant-loop-row
invariant-loop-row l = Counted (components_in l.components) (properties_in l.properties) l.found l.first l.row
