-- Laws of how many rows are of a class. Assumes nothing.
use mathlib.Core.Path.{◌≡◌, refl, ap}
use mathlib.Core.Bool.{Bool, true, false}
use mathlib.Core.List.{List, [], ◌∷◌, ◌++◌}
use Prim.Native.Nat.{ℕ, zero, suc, ◌+◌, ◌≤◌, ◌<◌, zero-le, suc-le-suc}
use native.Mathlib.Nat.{not-suc-le-zero, le_of_suc-le-suc}
use native.Mathlib.Omega.{arith}
use lib.ListN.{length, get_or, take}
use Rattle.octets.specs.Choice.{pick}
use Rattle.tables.specs.Fronts.{front}
use Rattle.walking.specs.Walk.{tally}

module _ {A : Type 0} (class : A → Bool) where
  pub parts : (xs ys : List A) → tally class (xs ++ ys) ≡ tally class xs + tally class ys
  unfolding tally
  parts [] ys = omega arith
  parts (x ∷ xs) ys = go (class x) (parts xs ys)
    where
      go : (t : Bool) → tally class (xs ++ ys) ≡ tally class xs + tally class ys
          → pick t (suc (tally class (xs ++ ys))) (tally class (xs ++ ys)) ≡ pick t (suc (tally class xs)) (tally class xs) + tally class ys
      go true e = omega arith
      go false e = e

  pub at_most : (xs : List A) → tally class xs ≤ length xs
  unfolding tally
  at_most [] = zero-le
  at_most (x ∷ xs) = go (class x) (at_most xs)
    where
      go : (t : Bool) → tally class xs ≤ length xs → pick t (suc (tally class xs)) (tally class xs) ≤ suc (length xs)
      go true h = suc-le-suc h
      go false h = omega arith

  -- a row of the class is counted
  pub counted : (xs : List A) (i : ℕ) (d : A) → i < length xs → class (get_or xs i d) ≡ true → 0 < tally class xs
  unfolding tally
  counted [] i d h e = absurd (not-suc-le-zero h)
  counted (x ∷ xs) zero d h e = rw e (suc-le-suc zero-le)
  counted (x ∷ xs) (suc i) d h e = go (class x) (counted xs i d (le_of_suc-le-suc h) e)
    where
      go : (t : Bool) → 0 < tally class xs → 0 < pick t (suc (tally class xs)) (tally class xs)
      go true h = suc-le-suc zero-le
      go false h = h

  pub none : (xs : List A) → ((i : ℕ) (d : A) → i < length xs → class (get_or xs i d) ≡ false) → tally class xs ≡ 0
  unfolding tally
  none [] other = refl
  none (x ∷ xs) other = rw (other 0 x (suc-le-suc zero-le)) (none xs (λ i d h. other (suc i) d (suc-le-suc h)))

  pub all : (xs : List A) → ((i : ℕ) (d : A) → i < length xs → class (get_or xs i d) ≡ true) → tally class xs ≡ length xs
  unfolding tally
  all [] same = refl
  all (x ∷ xs) same = rw (same 0 x (suc-le-suc zero-le)) (ap suc (all xs (λ i d h. same (suc i) d (suc-le-suc h))))

-- of the rows of a class at the front of a list all are of the class
pub front_all : {A : Type 0} (class : A → Bool) (xs : List A) → tally class (take (front class xs) xs) ≡ front class xs
unfolding tally front
front_all class [] = refl
front_all class (x ∷ xs) = go (class x) refl (front_all class xs)
  where
    go : (t : Bool) → class x ≡ t → tally class (take (front class xs) xs) ≡ front class xs
        → tally class (take (pick t (suc (front class xs)) 0) (x ∷ xs)) ≡ pick t (suc (front class xs)) 0
    go true t e = rw (t, e)
    go false t e = refl

-- and none is of a class that has no row in common with it
pub front_none : {A : Type 0} (class other : A → Bool) → ((x : A) → class x ≡ true → other x ≡ false) → (xs : List A)
    → tally other (take (front class xs) xs) ≡ 0
unfolding tally front
front_none class other apart [] = refl
front_none class other apart (x ∷ xs) = go (class x) refl (front_none class other apart xs)
  where
    go : (t : Bool) → class x ≡ t → tally other (take (front class xs) xs) ≡ 0 → tally other (take (pick t (suc (front class xs)) 0) (x ∷ xs)) ≡ 0
    go true t e = rw (apart x t, e)
    go false t e = refl
