use Rattle.std.proofs.Common.{◌≡◌, ◌≤◌, ◌+◌, ◌-◌, length, drop}
use Rattle.octets.specs.Bytes.{other}
use Rattle.octets.specs.Runs.{run}
use Rattle.octets.proofs.find_byte.Given as goal

abbrev pub invariant-loop-i : goal.invariant-loop-i
invariant-loop-i l = (l.i ≤ length l.a) × (l.i + run (other l.b) (drop l.i l.a) ≡ l.from + run (other l.b) (drop l.from l.a))

abbrev pub decreases-loop-i : goal.decreases-loop-i
decreases-loop-i l = length l.a - l.i
