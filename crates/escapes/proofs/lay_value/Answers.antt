-- A part more is laid.
use Rattle.std.proofs.Common.{arith}
use Rattle.std.proofs.Math.ListN.{length-drop}
use Rattle.std.specs.Slice.Iter.{chunks_rest}
use Rattle.octets.proofs.Lists.{lent}
use Rattle.escapes.proofs.Writing.{finish, lent_room, turn_part}
use Rattle.escapes.proofs.lay_value.Goals as goal

pub lay_part-at-requires : goal.lay_part-at-requires
lay_part-at-requires c =
    let s = rw c.in-Some.is at c.next.ensures.steps in
    let r = lent_room c.loop-part.invariant.1 c.in-Some.part.now (chunks_rest c.next.new.self) s.1.0 in
    (omega (arith, s.1.1, c.loop-part.invariant.0), rw (lent c.loop-part.out c.loop-part.at, length-drop) (omega (arith, r)))

pub overflow_add-at : goal.overflow_add-at
overflow_add-at c =
    let s = rw c.in-Some.is at c.next.ensures.steps in
    let r = lent_room c.loop-part.invariant.1 c.in-Some.part.now (chunks_rest c.next.new.self) s.1.0 in
    omega (arith, r, c.lay_part-at.ensures.count)

pub loop-part-preserved : goal.loop-part-preserved
loop-part-preserved c =
    let s = rw c.in-Some.is at c.next.ensures.steps in
    (rw s.0 c.loop-part.invariant.0, turn_part c.loop-part.invariant.1 c.in-Some.part.now (chunks_rest c.next.new.self) s.1.0 c.lay_part-at.ensures)

pub returns : goal.returns
returns c =
    let s = rw c.in-None.is at c.next.ensures.steps in
    finish c.loop-part.invariant.1 s.1.0
