-- `octets::same_word`: what is left of both words is the same where the words are.
use Rattle.std.proofs.Common.{◌≡◌, drop}
use Rattle.octets.specs.Words.{same_word}
use Rattle.octets.proofs.same_word.Given as goal

abbrev pub invariant-loop-i : goal.invariant-loop-i
invariant-loop-i l = same_word (drop l.i l.a) (drop l.i l.b) ≡ same_word l.a l.b
