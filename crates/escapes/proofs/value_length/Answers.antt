-- A block more is counted.
use Rattle.std.proofs.Common.{length, arith, ap}
use Rattle.std.specs.Slice.Iter.{chunks_rest}
use Rattle.escapes.proofs.Writing.{part_length, value_length, value_none}
use Rattle.escapes.proofs.value_length.Goals as goal

pub overflow_add-n : goal.overflow_add-n
overflow_add-n c =
    let s = rw c.in-Some.is at c.next.ensures.steps in
    omega (arith, part_length c.in-Some.block.now (chunks_rest c.next.new.self) s.1.0, c.loop-block.invariant.1, value_length c.args.text.now)

pub loop-block-preserved : goal.loop-block-preserved
loop-block-preserved c =
    let s = rw c.in-Some.is at c.next.ensures.steps in
    (rw s.0 c.loop-block.invariant.0, omega (arith, part_length c.in-Some.block.now (chunks_rest c.next.new.self) s.1.0, c.loop-block.invariant.1))

pub returns : goal.returns
returns c =
    let s = rw c.in-None.is at c.next.ensures.steps in
    omega (arith, c.loop-block.invariant.1, ap length (value_none _ s.1.0))
