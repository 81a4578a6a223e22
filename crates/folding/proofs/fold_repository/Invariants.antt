-- What is laid so far, and what is to come, are the line folded.
use Rattle.std.proofs.Common.{length}
use Rattle.folding.proofs.Repository.{Cutting}
use Rattle.folding.proofs.fold_repository.Given as goal

abbrev pub invariant-loop-rest : goal.invariant-loop-rest
invariant-loop-rest l = Cutting l.initial.out l.out l.line l.width l.rest l.length

abbrev pub decreases-loop-rest : goal.decreases-loop-rest
decreases-loop-rest l = length l.rest
