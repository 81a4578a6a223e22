-- `checking::broken_property`: the rows that were passed fit.
use Rattle.std.proofs.Common.{true}
use Rattle.tables.specs.Rows.{property_size, property_at}
use Rattle.tables.specs.TableRule.{property_fits}
use Rattle.checking.proofs.Passing.{Passed}
use Rattle.checking.proofs.broken_property.Given as goal

abbrev pub invariant-loop-row : goal.invariant-loop-row
invariant-loop-row l =
    Passed (λ seen. property_fits l.size l.components) (λ row seen p. seen) property_size property_at l.table l.components true l.row true
