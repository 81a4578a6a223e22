-- What is passed is fine, and what is left decides.
use Rattle.std.proofs.Common.{length}
use Rattle.escapes.proofs.Places.{Looked}
use Rattle.escapes.proofs.look_through.Given as goal

abbrev pub invariant-loop-more : goal.invariant-loop-more
invariant-loop-more l = Looked l.mode l.value l.rest l.count

abbrev pub decreases-loop-more : goal.decreases-loop-more
decreases-loop-more l = length l.rest
