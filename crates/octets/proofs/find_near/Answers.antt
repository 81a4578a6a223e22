use Rattle.std.proofs.Common.{arith}
use Rattle.octets.specs.Bytes.{other}
use Rattle.octets.proofs.Runs.{ended}
use Rattle.octets.proofs.Numbers.{at_most, ends_here, goes_on}
use Rattle.octets.proofs.find_near.Goals as goal

pub returns-then-a-from : goal.returns-then-a-from
returns-then-a-from c = omega (arith, ended (other c.args.b) c.args.a.now c.args.from (omega arith))

pub overflow_add-result : goal.overflow_add-result
overflow_add-result c =
    let m = c.marks_of-marked in
    omega (arith, c.first_mark.ensures, at_most (other c.args.b) c.args.a.now c.loop-left.i (omega arith) m.result m.ensures)

pub returns-then-marked-ne0 : goal.returns-then-marked-ne0
returns-then-marked-ne0 c =
    let m = c.marks_of-marked in
    omega (arith, c.first_mark.ensures, ends_here (other c.args.b) c.args.a.now c.loop-left.i (omega arith) m.result m.ensures c.if-marked-ne0.true)

pub loop-left-preserved : goal.loop-left-preserved
loop-left-preserved c =
    let m = c.marks_of-marked in
    (omega arith, omega (arith, goes_on (other c.args.b) c.args.a.now c.loop-left.i (omega arith) m.result m.ensures c.if-marked-ne0.false))
