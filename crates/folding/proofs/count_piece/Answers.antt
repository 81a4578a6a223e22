-- A physical line is filled, and what is left fits.
use Rattle.std.proofs.Common.{arith, ◌∙◌, rules}
use lib.ListN.{length-drop}
use Rattle.octets.proofs.Lists.{lent}
use Rattle.folding.proofs.Strict.{fewer, same, within_line, moves, count_turn, count_finish}
use Rattle.folding.proofs.count_piece.Goals as goal

pub slice_bounds-rest-count : goal.slice_bounds-rest-count
slice_bounds-rest-count c = let w = within_line c.loop-left.left c.loop-left.rest.now in omega arith

pub slice_bounds-rest-start : goal.slice_bounds-rest-start
slice_bounds-rest-start c = let w = within_line c.loop-left.left c.loop-left.rest.now in search rules

pub loop-left-smaller : goal.loop-left-smaller
loop-left-smaller c =
    let left = c.loop-left.left in
    let rest = c.loop-left.rest.now in
    rw (lent rest c.start_within-taken.result, length-drop c.start_within-taken.result rest, c.start_within-taken.ensures)
    (fewer _ _ _ c.loop-left-test.true (within_line left rest) (moves left rest c.loop-left-test.true))

pub loop-left-preserved : goal.loop-left-preserved
loop-left-preserved c =
    rw (lent c.loop-left.rest.now c.start_within-taken.result, c.start_within-taken.ensures)
    (count_turn c.loop-left.invariant c.loop-left-test.true
    (rw (c.saturating_add.ensures, c.start_within-taken.ensures) at c.saturating_add-length.ensures))

pub returns : goal.returns
returns c =
    let e = count_finish c.loop-left.invariant c.loop-left-test.false c.saturating_add-2.ensures in
    same (c.new.ensures ∙ e.0) e.1
