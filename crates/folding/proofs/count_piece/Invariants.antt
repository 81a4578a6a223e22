-- What is counted so far, and what is to come, are the piece folded.
use Rattle.std.proofs.Common.{length, []}
use Rattle.folding.proofs.Strict.{Folding, ahead}
use Rattle.folding.proofs.count_piece.Given as goal

abbrev pub invariant-loop-left : goal.invariant-loop-left
invariant-loop-left l = Folding [] [] l.piece l.initial.left l.left l.rest l.length

abbrev pub decreases-loop-left : goal.decreases-loop-left
decreases-loop-left l = ahead (length l.rest) l.left
