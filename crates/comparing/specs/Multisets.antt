-- When two lists are the same multiset: each element of either stands in both as often, in whatever order. A test tells which elements are the same.
-- Assumes nothing.
use Rattle.std.specs.Prelude.{ℕ, ◌+◌, Bool, true, ◌&&◌, List, [], ◌∷◌, eqb}
use Rattle.octets.specs.Choice.{pick}

module _ {A : Type 0} (same : A → A → Bool) where
  -- how many of a list are the same as x
  unfoldable pub many_of : A → List A → ℕ
  many_of x [] = 0
  many_of x (y ∷ ys) = pick (same x y) 1 0 + many_of x ys

  -- each of some elements stands in xs as often as in ys
  unfoldable pub as_often : List A → List A → List A → Bool
  as_often xs ys [] = true
  as_often xs ys (z ∷ zs) = eqb (many_of z xs) (many_of z ys) && as_often xs ys zs

  -- each of the one list does, and each of the other
  abbrev pub same_multiset : List A → List A → Bool
  same_multiset xs ys = as_often xs ys xs && as_often xs ys ys
