-- `unfolding::next_fold`: a fold begins with an LF, and the last byte begins none.
-- Assumes nothing.
use Rattle.std.proofs.Common.{◌≤◌, length, drop, length-drop, sym, ◌∙◌, arith}
use Rattle.octets.specs.Bytes.{lf, other}
use Rattle.octets.proofs.Runs as runs
use Rattle.unfolding.proofs.Folds.{on, stop, at_last, to_break_holds}
use Rattle.unfolding.proofs.next_fold.Goals as goal

pub returns-then-last-end : goal.returns-then-last-end
returns-then-last-end c =
    let feed = c.args.feed.now in
    let i = c.loop-i.i in
    let end = c.find_near-end.result in
    let within : end ≤ length feed = omega (arith, c.find_near-end.ensures, runs.within (other lf) (drop i feed), length-drop i feed) in
    omega (arith, to_break_holds feed i end c.find_near-end.ensures, c.loop-i.invariant.1, length-drop end feed, at_last (drop end feed) (omega (arith, length-drop end feed)))

pub returns-then-is_fold : goal.returns-then-is_fold
returns-then-is_fold c =
    let feed = c.args.feed.now in
    let end = c.find_near-end.result in
    omega (arith, to_break_holds feed c.loop-i.i end c.find_near-end.ensures, c.loop-i.invariant.1, stop feed end (omega arith) (sym c.is_fold.ensures ∙ c.if-is_fold.true))

pub loop-i-preserved : goal.loop-i-preserved
loop-i-preserved c =
    let feed = c.args.feed.now in
    let end = c.find_near-end.result in (
      omega arith,
      omega (arith, to_break_holds feed c.loop-i.i end c.find_near-end.ensures, c.loop-i.invariant.1, on feed end (omega arith) (sym c.is_fold.ensures ∙ c.if-is_fold.false)),
    )

pub returns : goal.returns
returns c =
    let feed = c.args.feed.now in
    let i = c.loop-i.i in
    omega (arith, c.loop-i.invariant.1, length-drop i feed, at_last (drop i feed) (omega (arith, length-drop i feed)))
