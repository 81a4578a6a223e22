-- What is laid so far, and what is to come, are the value of the text.
use Rattle.std.proofs.Common.{◌≡◌}
use Rattle.std.specs.Slice.Iter.{chunks_rest, chunks_size}
use Rattle.escapes.proofs.Writing.{Spelling}
use Rattle.escapes.proofs.lay_value.Given as goal

abbrev pub invariant-loop-part : goal.invariant-loop-part
invariant-loop-part l = (chunks_size l.part-iterator ≡ 8) × Spelling l.initial.out l.out l.text (chunks_rest l.part-iterator) l.at
