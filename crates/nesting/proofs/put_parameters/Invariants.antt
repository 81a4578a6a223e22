-- `nesting::put_parameters`: some rows are put, and the others are to come.
-- Assumes nothing.
use Rattle.std.proofs.Common.{◌-◌, length}
use Rattle.nesting.proofs.Parameters.{Putting}
use Rattle.nesting.proofs.put_parameters.Given as goal

abbrev pub invariant-loop-at : goal.invariant-loop-at
invariant-loop-at l = Putting l.property l.start l.line l.fn.from l.fn.first l.fn.table l.table l.at l.row

abbrev pub decreases-loop-at : goal.decreases-loop-at
decreases-loop-at l = length l.line - l.at
