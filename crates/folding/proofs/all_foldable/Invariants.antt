-- Of the bytes passed it is known, and what is to come decides.
use Rattle.octets.proofs.Runs.{Tried}
use Rattle.folding.specs.Answers.{foldable}
use Rattle.folding.proofs.all_foldable.Given as goal

abbrev pub invariant-loop-b : goal.invariant-loop-b
invariant-loop-b l = Tried foldable l.line l.fine l.b-index
