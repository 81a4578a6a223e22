use Rattle.std.proofs.Common.{arith}
use Rattle.octets.proofs.Numbers.{passed_none, passed_all, passed_more, passed_some}
use Rattle.octets.proofs.all_of.Goals as goal

pub loop-i-init : goal.loop-i-init
loop-i-init g c = passed_none _ _ _ _

pub returns-then-marked-ne0 : goal.returns-then-marked-ne0
returns-then-marked-ne0 g c =
    let m = c.marks_outside-marked in
    passed_some _ _ _ _ c.loop-i.invariant (omega arith) m.result m.ensures c.if-marked-ne0.true c.loop-i-test.true c.first_mark.ensures

pub loop-i-preserved : goal.loop-i-preserved
loop-i-preserved g c =
    let m = c.marks_outside-marked in
    passed_more _ _ _ _ c.loop-i.invariant (omega arith) m.result m.ensures c.if-marked-ne0.false

pub returns : goal.returns
returns g c = passed_all _ _ _ _ c.loop-i.invariant c.loop-i-test.false
