-- What is counted so far, and what is to come, are the value of the text.
use Rattle.std.proofs.Common.{◌≡◌, ◌+◌, length}
use Rattle.std.specs.Slice.Iter.{chunks_rest, chunks_size}
use Rattle.escapes.specs.Text.{as_value}
use Rattle.escapes.proofs.value_length.Given as goal

abbrev pub invariant-loop-block : goal.invariant-loop-block
invariant-loop-block l =
    (chunks_size l.block-iterator ≡ 128) × (l.n + length (as_value (chunks_rest l.block-iterator)) ≡ length (as_value l.text))
