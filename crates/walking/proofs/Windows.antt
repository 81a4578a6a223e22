-- The windows of the components: where all properties are found in them none is missed, and the other way round. Assumes nothing.
use mathlib.Core.Path.{◌≡◌, refl, sym, ap, ◌∙◌}
use mathlib.Core.Bool.{Bool, true, false}
use mathlib.Core.List.{List, [], ◌∷◌}
use Prim.Native.Nat.{ℕ, zero, suc, ◌+◌, ◌-◌, ◌≤◌, ◌<◌, zero-le}
use native.Mathlib.Nat.{not-suc-le-zero, le_of_suc-le-suc, lt_of_not-le}
use native.Mathlib.Omega.{arith}
use lib.ListN.{length, get_or, take, drop, take-append-drop, length-drop}
use lib.Seq.{drop-drop, get_or-take, get_or-drop, length-take-le}
use lib.Dec.{eqb, ltb}
use borrow.Author.Tests.{ltb-true, ltb-false, eqb-true, eqb-false, lt-ltb, le-ltb, le-leb, eq-eqb, ne_eqb}
use Rattle.octets.specs.Choice.{pick}
use Rattle.tables.specs.declared.ComponentRow.{ComponentRow}
use Rattle.tables.specs.declared.PropertyRow.{PropertyRow}
use Rattle.tables.proofs.Fronts.{within, each, beyond}
use Rattle.walking.specs.Walk.{end_of, owned_before, owned_within, owned_by, window_first, window_count, window_rows, InWindow, tally, found_below, in_order}
use Rattle.walking.proofs.Tallies.{parts, at_most, counted, none, all}

-- the properties of the components before the next one are those before this one, and its own
one_more : (n : ℕ) (ps : List PropertyRow) → tally (owned_before (suc n)) ps ≡ tally (owned_before n) ps + tally (owned_by n) ps
unfolding tally
one_more n [] = refl
one_more n (p ∷ ps) = go p.owner (ltb p.owner n) refl (eqb p.owner n) refl _ _ _ (one_more n ps)
  where
    go : (o : ℕ) (t : Bool) → ltb o n ≡ t → (u : Bool) → eqb o n ≡ u → (a b c : ℕ) → a ≡ b + c
        → pick (ltb o (suc n)) (suc a) a ≡ pick t (suc b) b + pick u (suc c) c
    go o true e true f a b c h = absurd (omega (arith, ltb-true o n e, eqb-true o n f))
    go o true e false f a b c h = rw (lt-ltb o (suc n) (omega (arith, ltb-true o n e))) (omega arith)
    go o false e true f a b c h = rw (lt-ltb o (suc n) (omega (arith, eqb-true o n f))) (omega arith)
    go o false e false f a b c h = rw (le-ltb o (suc n) (omega (arith, ltb-false o n e, eqb-false o n f))) h

module _ (components : List ComponentRow) (properties : List PropertyRow) where
  abbrev window_last : ℕ → ℕ
  window_last row = window_first properties row + window_count components properties row

  pub window_inside : (row : ℕ) → window_last row ≤ length properties
  window_inside row =
      let rest = drop (window_first properties row) properties in
      omega (arith, within (owned_before row) properties, within (owned_within row (end_of components row)) rest, length-drop (window_first properties row) properties)

  -- the rows before the window, in it and behind it
  pub three : (class : PropertyRow → Bool) (row : ℕ) → tally class properties
      ≡ tally class (take (window_first properties row) properties) + (tally class (window_rows components properties row) + tally class (drop (window_last row) properties))
  three class row =
      let f = window_first properties row in
      let n = window_count components properties row in
      let a = parts class (take f properties) (drop f properties) in
      let b = parts class (take n (drop f properties)) (drop n (drop f properties)) in
      let p = ap (tally class) (take-append-drop f properties) in
      let q = ap (tally class) (take-append-drop n (drop f properties)) in
      let r = ap (tally class) (drop-drop n f properties) in
      omega arith

  share : (row : ℕ) → tally (owned_by row) (window_rows components properties row) ≤ tally (owned_by row) properties
  share row = omega (arith, three (owned_by row) row)

  found_fits : (n : ℕ) → found_below components properties n ≤ tally (owned_before n) properties
  unfolding found_below
  found_fits zero = zero-le
  found_fits (suc n) = omega (arith, found_fits n, share n, one_more n properties)

  pub few_found : (n : ℕ) → found_below components properties n ≤ length properties
  few_found n = omega (arith, found_fits n, at_most (owned_before n) properties)

  -- equal sums of numbers that are no greater are equal number by number
  termwise : (n : ℕ) → found_below components properties n ≡ tally (owned_before n) properties → (row : ℕ) → row < n
      → tally (owned_by row) (window_rows components properties row) ≡ tally (owned_by row) properties
  unfolding found_below
  termwise zero e row h = absurd (not-suc-le-zero h)
  termwise (suc n) e row h = go (eqb row n) refl (termwise n (omega (arith, found_fits n, share n, one_more n properties)) row)
    where
      go : (t : Bool) → eqb row n ≡ t
          → (row < n → tally (owned_by row) (window_rows components properties row) ≡ tally (owned_by row) properties)
          → tally (owned_by row) (window_rows components properties row) ≡ tally (owned_by row) properties
      go true f rest = rw (eqb-true row n f) (omega (arith, found_fits n, share n, one_more n properties))
      go false f rest = rest (omega (arith, eqb-false row n f))

  -- no property before its window is one of a component's own
  pub earlier : (row i : ℕ) (d : PropertyRow) → i < window_first properties row → (get_or properties i d).owner ≡ row → ⊥
  earlier row i d h e = omega (arith, ltb-true (get_or properties i d).owner row (each (owned_before row) properties i d h))

  -- behind its window there is none, where all of them are counted in it
  later : (row i : ℕ) (d : PropertyRow) → tally (owned_by row) (window_rows components properties row) ≡ tally (owned_by row) properties
      → window_last row ≤ i → i < length properties → (get_or properties i d).owner ≡ row → ⊥
  later row i d same h l e =
      let rest = drop (window_last row) properties in
      let there : window_last row + (i - window_last row) ≡ i = omega arith in
      let mine : owned_by row (get_or rest (i - window_last row) d) ≡ true =
      rw (get_or-drop (window_last row) properties (i - window_last row) d, there) (eq-eqb (get_or properties i d).owner row e)
      in
      let inside : i - window_last row < length rest = rw length-drop (omega arith) in
      omega (arith, three (owned_by row) row, counted (owned_by row) rest (i - window_last row) d inside mine)

  -- in tables that are in order every property stands in the window of its owner
  pub complete : in_order components properties ≡ true → (row i : ℕ) (d : PropertyRow)
      → row < length components → i < length properties → (get_or properties i d).owner ≡ row → InWindow components properties row i
  unfolding in_order
  complete ordered row i d r h e =
      let n = length components in
      let sum = eqb-true (found_below components properties n) (length properties) ordered in
      let same = termwise n (omega (arith, found_fits n, at_most (owned_before n) properties)) row r in
      record {
        first = le_of_suc-le-suc (lt_of_not-le (λ l. earlier row i d l e));
        last = lt_of_not-le (λ l. later row i d same l h e);
      }

  -- it stands there, if from each property of that row or a later one up to it all are of the subtree
  pub stands : (row i : ℕ) (d : PropertyRow) → i < length properties → (get_or properties i d).owner ≡ row
      → ((k j : ℕ) → k ≤ j → j ≤ i → row ≤ (get_or properties k d).owner → (row ≤ (get_or properties j d).owner) × ((get_or properties j d).owner < end_of components row))
      → InWindow components properties row i
  stands row i d h e kept =
      let f = window_first properties row in
      let first : f ≤ i = le_of_suc-le-suc (lt_of_not-le (λ l. earlier row i d l e)) in
      let from : row ≤ (get_or properties f d).owner =
      ltb-false (get_or properties f d).owner row (beyond (owned_before row) properties d (omega arith))
      in
      record { first = first; last = lt_of_not-le (λ l. outside (kept f (window_last row) (omega arith) l from) (omega arith)) }
    where
      outside : (row ≤ (get_or properties (window_last row) d).owner) × ((get_or properties (window_last row) d).owner < end_of components row)
          → window_last row < length properties → ⊥
      outside w l =
          let rest = drop (window_first properties row) properties in
          let n = window_count components properties row in
          let o = (get_or properties (window_last row) d).owner in
          let other = rw get_or-drop at (beyond (owned_within row (end_of components row)) rest d (omega (arith, length-drop (window_first properties row) properties))) in
          let z : true ≡ false = rw (le-leb row o w.0, lt-ltb o (end_of components row) w.1) at other in
          let z' : ◌≡◌ {A = ℕ} 0 1 = cc in
          omega arith

  -- where they all stand there they are counted there
  all_counted : (row : ℕ) → ((i : ℕ) (d : PropertyRow) → i < length properties → (get_or properties i d).owner ≡ row → InWindow components properties row i)
      → tally (owned_by row) (window_rows components properties row) ≡ tally (owned_by row) properties
  all_counted row standing =
      let f = window_first properties row in
      let size = length-take-le f properties (within (owned_before row) properties) in
      let before = none (owned_by row) (take f properties)
      (λ i d h. ne_eqb (get_or (take f properties) i d).owner row
      (λ e. let l : i < f = omega arith in earlier row i d l (rw (get_or-take f properties i d l) at e)))
      in
      let behind = none (owned_by row) (drop (window_last row) properties)
      (λ i d h. ne_eqb (get_or (drop (window_last row) properties) i d).owner row
      (λ e. omega (arith, (standing (window_last row + i) d (omega (arith, length-drop (window_last row) properties)) (rw get_or-drop at e)).last)))
      in
      omega (arith, three (owned_by row) row)

  summed : (n : ℕ) → ((row : ℕ) → row < n → tally (owned_by row) (window_rows components properties row) ≡ tally (owned_by row) properties)
      → found_below components properties n ≡ tally (owned_before n) properties
  unfolding found_below
  summed zero same = sym (none (owned_before 0) properties (λ i d h. le-ltb (get_or properties i d).owner 0 zero-le))
  summed (suc n) same = omega (arith, summed n (λ row h. same row (omega arith)), same n (omega arith), one_more n properties)

  -- and where every property does, the tables are in order
  pub in_order_if : ((i : ℕ) (d : PropertyRow) → i < length properties → (get_or properties i d).owner < length components)
      → ((row i : ℕ) (d : PropertyRow) → row < length components → i < length properties → (get_or properties i d).owner ≡ row → InWindow components properties row i)
      → in_order components properties ≡ true
  unfolding in_order
  in_order_if owned standing =
      eq-eqb (found_below components properties (length components)) (length properties)
      (summed (length components) (λ row h. all_counted row (λ i d. standing row i d h))
      ∙ all (owned_before (length components)) properties (λ i d h. lt-ltb (get_or properties i d).owner (length components) (owned i d h)))
