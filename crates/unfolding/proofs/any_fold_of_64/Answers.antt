-- `unfolding::any_fold_of_64`: the first fold stands inside the block, or not.
-- Assumes nothing.
use Rattle.std.proofs.Common.{◌≤◌, drop, sym, ◌∙◌, arith}
use borrow.Author.Tests.{ltb-false, le-ltb}
use Rattle.octets.specs.Bytes.{lf, other}
use Rattle.octets.specs.Runs.{run}
use Rattle.unfolding.specs.Folds.{to_fold}
use Rattle.unfolding.proofs.Folds.{before_break, fold_more}
use Rattle.unfolding.proofs.any_fold_of_64.Goals as goal

pub returns-then-not-any_of_64 : goal.returns-then-not-any_of_64
returns-then-not-any_of_64 c =
    let rest = drop c.args.at c.args.feed.now in
    let none : 64 ≤ run (other lf) rest = ltb-false (run (other lf) rest) 64 (sym c.any_of_64.ensures ∙ c.if-not-any_of_64.true) in
    sym (le-ltb (to_fold rest) 64 (omega (arith, before_break rest)))

pub loop-j-preserved : goal.loop-j-preserved
loop-j-preserved c = rw (c.from-hit.ensures, c.is_fold.ensures) (fold_more c.args.feed.now c.args.at c.loop-j.j (omega arith) c.loop-j.invariant)
