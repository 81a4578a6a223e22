-- `unfolding::skip_blocks`: what was passed holds no fold.
-- Assumes nothing.
use Rattle.std.proofs.Common.{◌≡◌, ◌+◌, ◌-◌, ◌≤◌, length, drop}
use Rattle.unfolding.specs.Folds.{to_fold}
use Rattle.unfolding.proofs.skip_blocks.Given as goal

abbrev pub invariant-loop-i : goal.invariant-loop-i
invariant-loop-i l = (l.i ≤ length l.feed) × (l.i + to_fold (drop l.i l.feed) ≡ l.from + to_fold (drop l.from l.feed))

abbrev pub decreases-loop-i : goal.decreases-loop-i
decreases-loop-i l = length l.feed - l.i
