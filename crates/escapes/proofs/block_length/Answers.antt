-- A byte more is one, or two.
use Rattle.std.proofs.Common.{[], refl, arith, length, ap}
use Rattle.std.proofs.Math.ListN.{drop_of_length-le}
use Rattle.escapes.proofs.Writing.{count_at, value_none}
use Rattle.escapes.proofs.block_length.Goals as goal

pub loop-b-preserved : goal.loop-b-preserved
loop-b-preserved c =
    let k = count_at c.args.block.now c.loop-b.b-index c.loop-b-test.true c.special.result c.special.ensures in
    (omega arith, omega arith)

pub returns : goal.returns
returns c =
    let block = c.args.block.now in
    let e = rw (drop_of_length-le block c.loop-b-test.false) at c.loop-b.invariant.1 in
    omega (arith, e, ap length (value_none [] refl))
