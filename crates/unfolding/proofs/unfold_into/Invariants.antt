-- `unfolding::unfold_into`: what is laid, with what stays of the rest of the feed, is the unfolded feed.
-- Assumes nothing.
use Rattle.std.proofs.Common.{◌-◌, ◌≤◌, length, drop}
use Rattle.octets.proofs.Writing.{Writing}
use Rattle.unfolding.specs.Unfold.{unfolded}
use Rattle.unfolding.proofs.unfold_into.Given as goal

abbrev pub invariant-loop-i : goal.invariant-loop-i
invariant-loop-i l = (l.n ≤ l.i) × (l.i ≤ length l.feed) × Writing 0 l.fn.text (unfolded l.feed) l.text (unfolded (drop l.i l.feed)) l.n

abbrev pub decreases-loop-i : goal.decreases-loop-i
decreases-loop-i l = length l.feed - l.i
