-- Of the bytes passed it is known, and what is to come decides.
use Rattle.characters.proofs.Quick.{Looks}
use Rattle.characters.proofs.is_common_text.Given as goal

abbrev pub invariant-loop-i : goal.invariant-loop-i
invariant-loop-i l = Looks l.line l.fine l.i
