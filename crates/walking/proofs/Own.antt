-- The properties of a component, gathered from row to row in its window, and the parameters of each. Assumes nothing.
use mathlib.Core.Path.{◌≡◌, refl, sym, ◌∙◌}
use mathlib.Core.Bool.{Bool, true, false, not}
use mathlib.Core.List.{List, [], ◌∷◌}
use Prim.Native.Nat.{ℕ, zero, suc, ◌+◌, ◌-◌, ◌≤◌, ◌<◌}
use native.Mathlib.Nat.{add-zero, sub-zero}
use native.Mathlib.Omega.{arith}
use lib.ListN.{take, drop}
use lib.Seq.{take-nil, drop-drop}
use lib.Dec.{eqb}
use borrow.Author.Tests.{ltb-true, lt-ltb, eqb-true}
use Rattle.octets.specs.Choice.{pick}
use Rattle.tables.specs.Trees.{Property, gather, property_of, parameters_of}
use Rattle.tables.specs.Fronts.{front, belongs, own_parameters, own_property}
use Rattle.tables.specs.declared.PropertyRow.{PropertyRow}
use Rattle.tables.specs.declared.ParameterRow.{ParameterRow}
use Rattle.tables.proofs.Gathered.{taken, passed, over}
use Rattle.tables.proofs.Fronts.{wider, rises, passed as skipped}
use Rattle.walking.specs.Walk.{owned_by_other, held_before}
use Rattle.walking.specs.Places.{RisingParameters}
use Rattle.walking.proofs.Found.{run_is_all}

-- ---- the parameters of a property

module _ (parameters : List ParameterRow) (number : ℕ) {own from : ℕ} (h : from ≤ front (held_before number) parameters)
    (e : own ≡ from + front (held_before number) (drop from parameters)) where
  -- behind them stand those of later properties
  pub behind_own : own + front (belongs number) (drop own parameters) ≤ front (held_before (number + 1)) parameters
  behind_own =
      let f : own ≡ front (held_before number) parameters = e ∙ skipped (held_before number) from parameters h in
      omega (
        arith,
        wider (held_before number) (held_before (number + 1)) earlier own parameters (omega arith),
        rises (belongs number) (held_before (number + 1)) its (drop own parameters),
      )
    where
      earlier : (p : ParameterRow) → held_before number p ≡ true → held_before (number + 1) p ≡ true
      earlier p t = lt-ltb p.property (number + 1) (omega (arith, ltb-true p.property number t))

      its : (p : ParameterRow) → belongs number p ≡ true → held_before (number + 1) p ≡ true
      its p t = lt-ltb p.property (number + 1) (omega (arith, eqb-true p.property number t))

  -- and they are all that it has
  pub own_parameters_holds : (text : List ℕ) → RisingParameters parameters → own_parameters text number own parameters ≡ parameters_of text parameters number
  own_parameters_holds text r = run_is_all text parameters number own from 0 r.rise h e

  -- so that the row with them is the property that it stands for
  pub own_property_holds : (text : List ℕ) → RisingParameters parameters → (p : PropertyRow) → own_property text p number own parameters ≡ property_of text parameters number p
  own_property_holds text r p = rw (own_parameters_holds text r)

-- ---- rows of others, passed over

drop_take : {A : Type 0} (k n : ℕ) (xs : List A) → drop k (take n xs) ≡ take (n - k) (drop k xs)
drop_take zero n xs = rw sub-zero
drop_take (suc k) n [] = rw (take-nil, take-nil)
drop_take (suc k) zero (x ∷ xs) = let e : 0 - suc k ≡ 0 = omega arith in rw e
drop_take (suc k) (suc n) (x ∷ xs) = let e : suc n - suc k ≡ n - k = omega arith in rw e (drop_take k n xs)

module _ {A : Type 0} (owner_of : A → ℕ) where
  abbrev others : ℕ → List A → ℕ
  others owner = front (λ (x : A). not (eqb (owner_of x) owner))

  strangers_passed : {R : Type 0} (before : ℕ → A → R → R) (end : R) (owner row : ℕ) (xs : List A)
      → gather owner_of before end owner row xs ≡ gather owner_of before end owner (row + others owner xs) (drop (others owner xs) xs)
  unfolding front gather
  strangers_passed before end owner row [] = refl
  strangers_passed before end owner row (x ∷ xs) = go (eqb (owner_of x) owner) refl (strangers_passed before end owner (row + 1) xs)
    where
      go : (t : Bool) → eqb (owner_of x) owner ≡ t
          → gather owner_of before end owner (row + 1) xs ≡ gather owner_of before end owner (row + 1 + others owner xs) (drop (others owner xs) xs)
          → pick t (before row x (gather owner_of before end owner (row + 1) xs)) (gather owner_of before end owner (row + 1) xs)
          ≡ gather owner_of before end owner (row + pick (not t) (suc (others owner xs)) 0) (drop (pick (not t) (suc (others owner xs)) 0) (x ∷ xs))
      go true e rest = rw add-zero (sym (taken owner_of before end owner row (x ∷ xs) xs x refl (eqb-true (owner_of x) owner e)))
      go false e rest = let s : row + suc (others owner xs) ≡ row + 1 + others owner xs = omega arith in rw s rest

  first_own : (owner : ℕ) (xs rest : List A) (x : A) → drop (others owner xs) xs ≡ x ∷ rest → eqb (owner_of x) owner ≡ true
  unfolding front
  first_own owner [] rest x e = cc
  first_own owner (y ∷ ys) rest x e = go (eqb (owner_of y) owner) refl (first_own owner ys rest x) e
    where
      go : (t : Bool) → eqb (owner_of y) owner ≡ t → (drop (others owner ys) ys ≡ x ∷ rest → eqb (owner_of x) owner ≡ true)
          → drop (pick (not t) (suc (others owner ys)) 0) (y ∷ ys) ≡ x ∷ rest → eqb (owner_of x) owner ≡ true
      go true t on e = cc
      go false t on e = on e

-- ---- the properties of a component, those from row `number` on

module _ (text : List ℕ) (properties : List PropertyRow) (parameters : List ParameterRow) (row last : ℕ) where
  abbrev pub own_from : ℕ → List Property
  own_from number =
      gather (λ (p : PropertyRow). p.owner) (λ n p rest. property_of text parameters n p ∷ rest) [] row number (take (last - number) (drop number properties))

  module _ (number : ℕ) (p : PropertyRow) (here : drop number properties ≡ p ∷ drop (number + 1) properties) (h : number < last) where
    one : take (last - number) (drop number properties) ≡ p ∷ take (last - (number + 1)) (drop (number + 1) properties)
    one = let e : last - number ≡ suc (last - (number + 1)) = omega arith in rw (e, here)

    pub own_here : p.owner ≡ row → own_from number ≡ property_of text parameters number p ∷ own_from (number + 1)
    own_here o = taken (λ (p : PropertyRow). p.owner) (λ n p rest. property_of text parameters n p ∷ rest) [] row number _ _ p one o

    pub other_here : (p.owner ≡ row → ⊥) → own_from number ≡ own_from (number + 1)
    other_here o = passed (λ (p : PropertyRow). p.owner) (λ n p rest. property_of text parameters n p ∷ rest) [] row number _ _ p one o

  pub no_more : (number : ℕ) → last ≤ number → own_from number ≡ []
  no_more number h =
      let e : last - number ≡ 0 = omega arith in
      over (λ (p : PropertyRow). p.owner) (λ n p rest. property_of text parameters n p ∷ rest) [] row number (take (last - number) (drop number properties)) (rw e)

  -- ---- the search for the next own row

  module _ (from : ℕ) {to : ℕ} (e : to ≡ from + front (owned_by_other row) (take (last - from) (drop from properties))) where
    remain : drop (front (owned_by_other row) (take (last - from) (drop from properties))) (take (last - from) (drop from properties))
        ≡ take (last - to) (drop to properties)
    remain =
        let passed = front (owned_by_other row) (take (last - from) (drop from properties)) in
        let l : last - from - passed ≡ last - to = omega arith in
        drop_take passed (last - from) (drop from properties) ∙ rw (drop-drop, ← e, l)

    -- it passes over rows of others
    pub next_same : own_from to ≡ own_from from
    next_same =
        rw (← remain, e)
        (sym (strangers_passed (λ (p : PropertyRow). p.owner) (λ n p rest. property_of text parameters n p ∷ rest) [] row from (take (last - from) (drop from properties))))

    -- and ends at an own one, or with the window
    pub next_own : (p : PropertyRow) → drop to properties ≡ p ∷ drop (to + 1) properties → to < last → p.owner ≡ row
    next_own p here h =
        eqb-true p.owner row (first_own (λ (p : PropertyRow). p.owner) row (take (last - from) (drop from properties)) _ p (remain ∙ one to p here h))
