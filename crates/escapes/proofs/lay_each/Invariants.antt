-- What is laid so far, and what is to come, are the value of the text.
use Rattle.escapes.proofs.Writing.{Spelling}
use Rattle.std.proofs.Common.{drop}
use Rattle.escapes.proofs.lay_each.Given as goal

abbrev pub invariant-loop-b : goal.invariant-loop-b
invariant-loop-b l = Spelling l.initial.out l.out l.text (drop l.b-index l.text) l.at
