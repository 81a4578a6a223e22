-- Of the bytes passed it is known, and what is to come decides.
use Rattle.octets.proofs.Runs.{Tried}
use Rattle.quoting.specs.Quoting.{plain}
use Rattle.quoting.proofs.all_plain.Given as goal

abbrev pub invariant-loop-b : goal.invariant-loop-b
invariant-loop-b l = Tried plain l.value l.fine l.b-index
