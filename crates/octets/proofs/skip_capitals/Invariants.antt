use Rattle.std.proofs.Common.{◌≡◌, ◌+◌, length, drop}
use Rattle.octets.specs.Bytes.{key_byte}
use Rattle.octets.specs.Runs.{run}
use Rattle.octets.proofs.skip_capitals.Given as goal

abbrev pub invariant-loop-left : goal.invariant-loop-left
invariant-loop-left l = (l.i + l.left ≡ length l.line) × (l.i + run key_byte (drop l.i l.line) ≡ run key_byte l.line)

abbrev pub decreases-loop-left : goal.decreases-loop-left
decreases-loop-left l = l.left
