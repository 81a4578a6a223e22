-- `unfolding::piece_at` finds a piece that stays: each answer is a law of Pieces.
-- Assumes nothing.
use Rattle.std.proofs.Common.{arith}
use Rattle.unfolding.proofs.Pieces.{at_end, behind, with_cr, without_cr}
use Rattle.unfolding.proofs.piece_at.Goals as goal
use Rattle.unfolding.proofs.piece_at.Goals.{else-i-fold-via-then-i-fold+else-feed-fold-eq13, else-i-fold-via-else-i-fold}

pub returns-then-fold-feed : goal.returns-then-fold-feed
returns-then-fold-feed c = at_end c.args.feed.now c.args.i _ c.requires c.next_fold-fold.ensures c.if-fold-feed.true

pub overflow_add-next : goal.overflow_add-next
overflow_add-next c = omega (arith, behind c.args.feed.now c.args.i c.next_fold-fold.result c.requires c.next_fold-fold.ensures c.if-fold-feed.false)

pub bounds-feed-fold : goal.bounds-feed-fold
bounds-feed-fold c = omega (arith, behind c.args.feed.now c.args.i c.next_fold-fold.result c.requires c.next_fold-fold.ensures c.if-fold-feed.false)

pub returns-then-feed-fold-eq13 : goal.returns-then-feed-fold-eq13
returns-then-feed-fold-eq13 c =
    with_cr c.args.feed.now c.args.i _ c.requires c.next_fold-fold.ensures c.if-fold-feed.false c.if-i-fold.true c.if-feed-fold-eq13.true

pub returns : goal.returns
returns c =
    without_cr c.args.feed.now c.args.i _ c.requires c.next_fold-fold.ensures c.if-fold-feed.false
    (elim c.else-i-fold.branch [
      | else-i-fold-via-then-i-fold+else-feed-fold-eq13 w ↦ λ k. w.if-feed-fold-eq13.false
      | else-i-fold-via-else-i-fold w ↦ λ k q. omega arith
    ])
