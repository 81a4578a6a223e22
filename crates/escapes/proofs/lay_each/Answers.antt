-- A byte more is laid, as it is or with a backslash.
use Rattle.std.proofs.Common.{rules, arith}
use Rattle.std.proofs.Math.ListN.{length-set, length-drop}
use Rattle.escapes.proofs.Writing.{finish, room_byte, turn_byte, room_escape, turn_escape}
use Rattle.escapes.proofs.lay_each.Goals as goal

pub bounds-out-at : goal.bounds-out-at
bounds-out-at c = room_byte c.loop-b.invariant c.loop-b-test.true (search rules)

pub loop-b-preserved-then-not-special : goal.loop-b-preserved-then-not-special
loop-b-preserved-then-not-special c = turn_byte c.loop-b.invariant c.loop-b-test.true (search rules)

pub bounds-out-at-in-loop-b : goal.bounds-out-at-in-loop-b
bounds-out-at-in-loop-b c = let r = room_escape c.loop-b.invariant c.loop-b-test.true (search rules) in omega arith

pub bounds-out-at-in-loop-b-2 : goal.bounds-out-at-in-loop-b-2
bounds-out-at-in-loop-b-2 c =
    let r = room_escape c.loop-b.invariant c.loop-b-test.true (search rules) in
    omega (arith, length-set c.loop-b.out c.loop-b.at 92)

pub loop-b-preserved : goal.loop-b-preserved
loop-b-preserved c = turn_escape c.loop-b.invariant c.loop-b-test.true (search rules) c.letter.ensures

pub returns : goal.returns
returns c = finish c.loop-b.invariant (omega (arith, length-drop c.loop-b.b-index c.args.text.now))
