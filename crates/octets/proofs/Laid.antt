-- Laws of laying a list over the front of a buffer. Assumes nothing.
use mathlib.Core.Path.{◌≡◌, refl, ap}
use mathlib.Core.List.{List, [], ◌∷◌, ◌++◌}
use Prim.Native.Nat.{ℕ, ◌≤◌}
use native.Mathlib.Omega.{arith}
use lib.ListN.{length, take, drop, set, get_or, length-append, length-take, length-drop}
use lib.Seq.{take_all}
use Rattle.octets.specs.Laid.{laid}

-- what fits is laid whole
pub whole : (xs old : List ℕ) → length xs ≤ length old → laid xs old ≡ xs ++ drop (length xs) old
whole xs old h = rw (take_all (length old) xs h)

pub length_laid : (xs old : List ℕ) → length (laid xs old) ≡ length old
length_laid xs old = simp (set, get_or, length-append, length-take, length-drop) (omega arith)

-- nothing is laid
pub nothing : (old : List ℕ) → laid [] old ≡ old
nothing [] = refl
nothing (x ∷ old) = refl

-- xs first, and then ys over what is behind it: the same as both at once
pub then : (xs ys old : List ℕ) → laid (xs ++ ys) old ≡ take (length xs) (laid xs old) ++ laid ys (drop (length xs) (laid xs old))
then [] ys [] = refl
then [] ys (b ∷ old) = refl
then (x ∷ xs) ys [] = go ys
  where
    go : (ys : List ℕ) → [] ≡ laid ys []
    go [] = refl
    go (y ∷ ys) = refl
then (x ∷ xs) ys (b ∷ old) = ap (◌∷◌ x) (then xs ys old)
