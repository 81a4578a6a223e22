-- `nesting::pass`: what has been read, and what is to come.
-- Assumes nothing.
use Rattle.std.proofs.Common.{◌-◌, length}
use Rattle.nesting.specs.Steps.{State}
use Rattle.nesting.proofs.Passing.{Reached}
use Rattle.nesting.proofs.pass.Given as goal

abbrev pub invariant-loop-at : goal.invariant-loop-at
invariant-loop-at l =
    (s : State) × Reached l.text l.fn.components l.fn.properties l.fn.parameters s l.components l.properties l.parameters l.«open» l.counts l.at

abbrev pub decreases-loop-at : goal.decreases-loop-at
decreases-loop-at l = length l.text - l.at
