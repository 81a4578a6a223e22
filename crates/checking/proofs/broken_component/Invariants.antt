-- `checking::broken_component`: the rows that were passed fit, and the last of them and its ancestors are the first `depth` rows that stand there.
use Rattle.std.proofs.Common.{◌≤◌, length, take}
use Rattle.checking.proofs.Components.{Reached}
use Rattle.checking.proofs.broken_component.Given as goal

abbrev pub invariant-loop-row : goal.invariant-loop-row
invariant-loop-row l = (l.depth ≤ length l.rows.items) × Reached l.size l.table (take l.depth l.rows.items) l.row
