use Rattle.std.proofs.Common.{◌≡◌, ◌≤◌, ◌+◌, length, drop}
use Rattle.octets.specs.Bytes.{other}
use Rattle.octets.specs.Runs.{run}
use Rattle.octets.proofs.find_near.Given as goal

abbrev pub invariant-loop-left : goal.invariant-loop-left
invariant-loop-left l = (l.i + l.left ≤ length l.a) × (l.i + run (other l.b) (drop l.i l.a) ≡ l.from + run (other l.b) (drop l.from l.a))

abbrev pub decreases-loop-left : goal.decreases-loop-left
decreases-loop-left l = l.left
