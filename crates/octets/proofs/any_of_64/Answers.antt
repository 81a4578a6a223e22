use Rattle.std.proofs.Common.{◌≡◌, ◌+◌, ◌-◌, arith}
use Rattle.octets.proofs.Hits.{hit_more}
use Rattle.octets.proofs.any_of_64.Goals as goal

pub loop-x-preserved : goal.loop-x-preserved
loop-x-preserved c =
    let size : c.args.at + 64 - c.args.at ≡ 64 = omega arith in
    rw (c.from-hit.ensures, size) (hit_more c.args.b c.args.a.now c.args.at 64 c.loop-x.x-index (omega arith) (omega arith) c.loop-x.invariant)
