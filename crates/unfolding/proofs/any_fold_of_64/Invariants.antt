-- `unfolding::any_fold_of_64`: a hit is a fold that stands before the byte that is reached.
-- Assumes nothing.
use Rattle.std.proofs.Common.{◌≡◌, drop, ltb}
use mir.Val.{bool_byte}
use Rattle.unfolding.specs.Folds.{to_fold}
use Rattle.unfolding.proofs.any_fold_of_64.Given as goal

abbrev pub invariant-loop-j : goal.invariant-loop-j
invariant-loop-j l = l.hit ≡ bool_byte (ltb (to_fold (drop l.at l.feed)) l.j)
