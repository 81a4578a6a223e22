-- The first two are tried behind none, and behind the last none may be asked for.
use Rattle.std.proofs.Common.{◌≡◌, ◌-◌, length, arith}
use Rattle.characters.proofs.Quick.{looks_start, looks_more, looks_all}
use Rattle.characters.proofs.is_common_text.Goals as goal

pub loop-i-init : goal.loop-i-init
loop-i-init c = rw (c.is_beside.ensures, c.is_beside-2.ensures) (looks_start c.args.line.now (omega arith))

pub loop-i-preserved : goal.loop-i-preserved
loop-i-preserved c = rw c.is_beside-fine.ensures (looks_more c.loop-i.invariant c.loop-i-test.true)

pub returns : goal.returns
returns c =
    let e = looks_all c.loop-i.invariant c.loop-i-test.false in
    let f : length c.args.line.now - 1 - 1 ≡ length c.args.line.now - 2 = omega arith in
    rw (c.is_asked.ensures, f) e
