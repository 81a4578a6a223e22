-- A physical line is filled, and what is left fits.
use Rattle.std.proofs.Common.{◌≡◌, ◌-◌, length, arith, ◌∙◌}
use Rattle.octets.proofs.Writing.{from_front}
use Rattle.folding.proofs.Strict.{fewer, same, within_line, moves, turn, finish}
use Rattle.folding.proofs.fold_piece.Goals as goal

pub split_at-requires : goal.split_at-requires
split_at-requires c = let w = within_line c.loop-left.left c.loop-left.rest.now in omega arith

pub loop-left-smaller : goal.loop-left-smaller
loop-left-smaller c =
    let left = c.loop-left.left in
    let rest = c.loop-left.rest.now in
    let e : length c.split_at.result.1.now ≡ length rest - c.start_within.result = omega arith in
    rw (e, c.start_within.ensures) (fewer _ _ _ c.loop-left-test.true (within_line left rest) (moves left rest c.loop-left-test.true))

pub loop-left-preserved : goal.loop-left-preserved
loop-left-preserved c =
    rw (c.split_at.ensures.back, c.start_within.ensures)
    (turn c.loop-left.invariant c.loop-left-test.true (omega arith) (rw (c.split_at.ensures.front, c.start_within.ensures) at c.lay_line-length.ensures))

pub returns-clause-value : goal.returns-clause-value
returns-clause-value c =
    let e = finish c.loop-left.invariant c.loop-left-test.false c.lay-length.ensures in
    same (c.new.ensures ∙ e.0) (from_front e.1)

pub returns-clause-out_after : goal.returns-clause-out_after
returns-clause-out_after c = (finish c.loop-left.invariant c.loop-left-test.false c.lay-length.ensures).1.is
