-- What is laid so far, and what is left of the value to come, are the text.
use Rattle.std.proofs.Common.{length}
use Rattle.escapes.proofs.Places.{Storing}
use Rattle.escapes.proofs.lay_units.Given as goal

abbrev pub invariant-loop-b : goal.invariant-loop-b
invariant-loop-b l = Storing l.mode l.initial.out l.value l.out l.rest l.at

abbrev pub decreases-loop-b : goal.decreases-loop-b
decreases-loop-b l = length l.rest
