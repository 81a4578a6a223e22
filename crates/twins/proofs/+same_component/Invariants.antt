-- `twins::same_component`, which calls itself for each pair of children, its level one less: what is left of the children of both compares as the two trees do.
use Prim.Native.Nat.{◌-◌}
use Rattle.tables.specs.Lent.{held}
use Rattle.twins.proofs.Pairs.{Paired}
use Rattle.twins.proofs.+same_component.Given as goal

abbrev pub decreases-same_component : goal.decreases-same_component
decreases-same_component g l = l.level

abbrev pub invariant-loop-one : goal.invariant-loop-one
invariant-loop-one g l = Paired g.V.Values.test (held l.walk.tables) l.level l.fn.first.row l.fn.second.row l.one_last l.other_last l.one l.other

abbrev pub decreases-loop-one : goal.decreases-loop-one
decreases-loop-one g l = l.one_last - l.one.row
