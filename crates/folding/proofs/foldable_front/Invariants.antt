-- The blocks that were passed are foldable.
use Rattle.std.proofs.Common.{◌≡◌, ◌<◌, drop}
use Rattle.std.specs.Slice.Iter.{chunks_rest, chunks_size}
use Rattle.octets.proofs.Runs.{Ran}
use Rattle.folding.specs.Answers.{foldable}
use Rattle.folding.proofs.foldable_front.Given as goal

abbrev pub invariant-loop-block : goal.invariant-loop-block
invariant-loop-block l =
    (0 < chunks_size l.block-iterator) × Ran foldable l.line l.seen × (chunks_rest l.block-iterator ≡ drop l.seen l.line)
