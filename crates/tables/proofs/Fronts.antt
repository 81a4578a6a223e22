-- Laws of the rows of a class at the front of a list. Assumes nothing.
use mathlib.Core.Path.{◌≡◌, refl}
use mathlib.Core.Bool.{Bool, true, false}
use mathlib.Core.List.{List, [], ◌∷◌, ◌++◌}
use Prim.Native.Nat.{ℕ, zero, suc, ◌+◌, ◌≤◌, ◌<◌, zero-le, suc-le-suc}
use native.Mathlib.Nat.{zero-add, le_refl, not-suc-le-zero, le_of_suc-le-suc}
use native.Mathlib.Omega.{arith}
use lib.ListN.{length, get_or, take, drop}
use Rattle.octets.specs.Choice.{pick}
use Rattle.tables.specs.Fronts.{front}

module _ {A : Type 0} (class : A → Bool) where
  -- one row: by its class the front goes on or ends
  pub on : (rows rest : List A) (x : A) → rows ≡ x ∷ rest → class x ≡ true → front class rows ≡ suc (front class rest)
  unfolding front
  on rows rest x e t = rw (e, t)

  pub stop : (rows rest : List A) (x : A) → rows ≡ x ∷ rest → class x ≡ false → front class rows ≡ 0
  unfolding front
  stop rows rest x e t = rw (e, t)

  pub ended : (rows : List A) → rows ≡ [] → front class rows ≡ 0
  unfolding front
  ended rows e = rw e

  -- the rows themselves
  pub run_on : (rows rest : List A) (x : A) → rows ≡ x ∷ rest → class x ≡ true → take (front class rows) rows ≡ x ∷ take (front class rest) rest
  run_on rows rest x e t = rw (on rows rest x e t, e)

  pub run_none : (rows : List A) → front class rows ≡ 0 → take (front class rows) rows ≡ []
  run_none rows e = rw e

  pub within : (xs : List A) → front class xs ≤ length xs
  unfolding front
  within [] = zero-le
  within (x ∷ xs) = go (class x) (within xs)
    where
      go : (t : Bool) → front class xs ≤ length xs → pick t (suc (front class xs)) 0 ≤ suc (length xs)
      go true h = suc-le-suc h
      go false h = zero-le

  -- every row of the front is of the class
  pub each : (xs : List A) (i : ℕ) (d : A) → i < front class xs → class (get_or xs i d) ≡ true
  unfolding front
  each [] i d h = absurd (not-suc-le-zero h)
  each (x ∷ xs) i d h = go (class x) refl i h (λ j. each xs j d)
    where
      go : (t : Bool) → class x ≡ t → (i : ℕ) → i < pick t (suc (front class xs)) 0 → ((j : ℕ) → j < front class xs → class (get_or xs j d) ≡ true)
          → class (get_or (x ∷ xs) i d) ≡ true
      go true e zero h rest = e
      go true e (suc i) h rest = rest i (le_of_suc-le-suc h)
      go false e i h rest = absurd (not-suc-le-zero h)

  -- behind a front that is not all there is stands a row of another class
  pub beyond : (xs : List A) (d : A) → front class xs < length xs → class (get_or xs (front class xs) d) ≡ false
  unfolding front
  beyond [] d h = absurd (not-suc-le-zero h)
  beyond (x ∷ xs) d h = go (class x) refl h (beyond xs d)
    where
      go : (t : Bool) → class x ≡ t → pick t (suc (front class xs)) 0 < suc (length xs) → (front class xs < length xs → class (get_or xs (front class xs) d) ≡ false)
          → class (get_or (x ∷ xs) (pick t (suc (front class xs)) 0) d) ≡ false
      go true e h rest = rest (le_of_suc-le-suc h)
      go false e h rest = e

  -- with more rows behind, the front is no shorter; and where all rows are in it, it goes on among those behind
  pub longer : (xs ys : List A) → front class xs ≤ front class (xs ++ ys)
  unfolding front
  longer [] ys = zero-le
  longer (x ∷ xs) ys = go (class x) (longer xs ys)
    where
      go : (t : Bool) → front class xs ≤ front class (xs ++ ys) → pick t (suc (front class xs)) 0 ≤ pick t (suc (front class (xs ++ ys))) 0
      go true h = suc-le-suc h
      go false h = zero-le

  pub through : (xs ys : List A) → length xs ≤ front class xs → length xs + front class ys ≡ front class (xs ++ ys)
  unfolding front
  through [] ys h = zero-add (front class ys)
  through (x ∷ xs) ys h = go (class x) h (through xs ys)
    where
      go : (t : Bool) → suc (length xs) ≤ pick t (suc (front class xs)) 0 → (length xs ≤ front class xs → length xs + front class ys ≡ front class (xs ++ ys))
          → suc (length xs) + front class ys ≡ pick t (suc (front class (xs ++ ys))) 0
      go true h rest = omega (arith, rest (le_of_suc-le-suc h))
      go false h rest = absurd (not-suc-le-zero h)

-- what is passed over within the front of a class stands in the front of a wider one
pub wider : {A : Type 0} (narrow wide : A → Bool) → ((x : A) → narrow x ≡ true → wide x ≡ true)
    → (n : ℕ) (xs : List A) → n ≤ front narrow xs → n + front wide (drop n xs) ≡ front wide xs
unfolding front
wider narrow wide sub zero xs h = zero-add (front wide xs)
wider narrow wide sub (suc n) [] h = absurd (not-suc-le-zero h)
wider narrow wide sub (suc n) (x ∷ xs) h = go (narrow x) refl h (wider narrow wide sub n xs)
  where
    go : (t : Bool) → narrow x ≡ t → suc n ≤ pick t (suc (front narrow xs)) 0 → (n ≤ front narrow xs → n + front wide (drop n xs) ≡ front wide xs)
        → suc n + front wide (drop n xs) ≡ pick (wide x) (suc (front wide xs)) 0
    go true e h rest = rw (sub x e) (omega (arith, rest (le_of_suc-le-suc h)))
    go false e h rest = absurd (not-suc-le-zero h)

-- and so it is with the front itself
pub passed : {A : Type 0} (class : A → Bool) (n : ℕ) (xs : List A) → n ≤ front class xs → n + front class (drop n xs) ≡ front class xs
passed class = wider class class (λ x e. e)

pub rises : {A : Type 0} (narrow wide : A → Bool) → ((x : A) → narrow x ≡ true → wide x ≡ true) → (xs : List A) → front narrow xs ≤ front wide xs
rises narrow wide sub xs = omega (arith, wider narrow wide sub (front narrow xs) xs (le_refl _))
