-- `unfolding::skip_blocks`: the first fold is 64 bytes away, or more.
-- Assumes nothing.
use Rattle.std.proofs.Common.{◌≤◌, drop, sym, ◌∙◌, arith}
use borrow.Author.Tests.{ltb-false}
use Rattle.unfolding.specs.Folds.{to_fold}
use Rattle.unfolding.proofs.Folds.{passed}
use Rattle.unfolding.proofs.skip_blocks.Goals as goal

pub loop-i-preserved : goal.loop-i-preserved
loop-i-preserved c =
    let feed = c.args.feed.now in
    let far : 64 ≤ to_fold (drop c.loop-i.i feed) = ltb-false (to_fold (drop c.loop-i.i feed)) 64 (sym c.any_fold_of_64.ensures ∙ c.if-not-any_fold_of_64.true) in
    (omega arith, omega (arith, passed feed c.loop-i.i 64 far))
