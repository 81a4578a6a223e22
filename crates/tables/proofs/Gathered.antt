-- Laws of gathering the rows that belong to an owner, one row at a time and over a table in two parts. Assumes nothing.
use mathlib.Core.Path.{◌≡◌, refl, sym, ap, ◌∙◌}
use mathlib.Core.List.{List, [], ◌∷◌, ◌++◌}
use Prim.Native.Nat.{ℕ, suc, ◌+◌, ◌<◌, zero-le, suc-le-suc}
use native.Mathlib.Nat.{add-zero}
use native.Mathlib.Omega.{arith}
use lib.ListN.{length, get_or}
use lib.Dec.{eqb}
use Rattle.octets.specs.Choice.{pick}
use borrow.Author.Tests.{eq-eqb, ne_eqb}
use Rattle.tables.specs.Trees.{gather}

module _ {A R : Type 0} (owner_of : A → ℕ) (before : ℕ → A → R → R) where
  pub taken : (end : R) (owner row : ℕ) (rows rest : List A) (x : A) → rows ≡ x ∷ rest → owner_of x ≡ owner
      → gather owner_of before end owner row rows ≡ before row x (gather owner_of before end owner (row + 1) rest)
  unfolding gather
  taken end owner row rows rest x e o = rw (e, eq-eqb (owner_of x) owner o)

  pub passed : (end : R) (owner row : ℕ) (rows rest : List A) (x : A) → rows ≡ x ∷ rest → (owner_of x ≡ owner → ⊥)
      → gather owner_of before end owner row rows ≡ gather owner_of before end owner (row + 1) rest
  unfolding gather
  passed end owner row rows rest x e o = rw (e, ne_eqb (owner_of x) owner o)

  pub over : (end : R) (owner row : ℕ) (rows : List A) → rows ≡ [] → gather owner_of before end owner row rows ≡ end
  unfolding gather
  over end owner row rows e = rw e

  -- the rows of the first part come before those of the second
  pub parts : (end : R) (owner row : ℕ) (xs ys : List A)
      → gather owner_of before end owner row (xs ++ ys) ≡ gather owner_of before (gather owner_of before end owner (row + length xs) ys) owner row xs
  unfolding gather
  parts end owner row [] ys = ap (λ (r : ℕ). gather owner_of before end owner r ys) (sym (add-zero row))
  parts end owner row (x ∷ xs) ys =
      let e : row + 1 + length xs ≡ row + length (x ∷ xs) = omega arith in
      let same = parts end owner (row + 1) xs ys
      ∙ ap (λ (r : ℕ). gather owner_of before (gather owner_of before end owner r ys) owner (row + 1) xs) e in
      ap (λ (made : R). pick (eqb (owner_of x) owner) (before row x made) made) same

  -- rows that belong to others make nothing
  pub strangers : (end : R) (owner row : ℕ) (xs : List A) → ((i : ℕ) (d : A) → i < length xs → owner_of (get_or xs i d) ≡ owner → ⊥)
      → gather owner_of before end owner row xs ≡ end
  strangers end owner row [] other = over end owner row [] refl
  strangers end owner row (x ∷ xs) other =
      passed end owner row (x ∷ xs) xs x refl (other 0 x (suc-le-suc zero-le))
      ∙ strangers end owner (row + 1) xs (λ i d h. other (suc i) d (suc-le-suc h))
