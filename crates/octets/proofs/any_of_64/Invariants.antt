use Rattle.std.proofs.Common.{◌≡◌, drop, ltb}
use Rattle.octets.specs.Bytes.{other}
use Rattle.octets.specs.Runs.{run}
use mir.Val.{bool_byte}
use Rattle.octets.proofs.any_of_64.Given as goal

abbrev pub invariant-loop-x : goal.invariant-loop-x
invariant-loop-x l = l.hit ≡ bool_byte (ltb (run (other l.b) (drop l.at l.a)) l.x-index)
