-- What is counted so far, and what is to come, are the value of the block.
use Rattle.std.proofs.Common.{◌≡◌, ◌+◌, ◌≤◌, length, drop}
use Rattle.escapes.specs.Text.{as_value}
use Rattle.escapes.proofs.block_length.Given as goal

abbrev pub invariant-loop-b : goal.invariant-loop-b
invariant-loop-b l =
    (l.more ≤ l.b-index) × (l.b-index + l.more + length (as_value (drop l.b-index l.block)) ≡ length (as_value l.block))
