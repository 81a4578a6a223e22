-- Laws of a shelf: the search by halving, where parameters land, and a row put on it. Assumes nothing.
use mathlib.Core.Path.{◌≡◌, refl, sym, ap, ◌∙◌}
use mathlib.Core.Bool.{Bool, true, false, ◌&&◌}
use mathlib.Core.List.{List, [], ◌∷◌, ◌++◌}
use Prim.Native.Nat.{ℕ, zero, suc, ◌+◌, ◌/◌, ◌≤◌, ◌<◌}
use native.Mathlib.Omega.{arith}
use lib.ListN.{length, get_or, set, length-set, get_or-append}
use lib.Seq.{get_or-set_same, get_or-set_other}
use lib.Dec.{eqb, ltb}
use Rattle.std.specs.Prelude.{Option, Some, None}
use Rattle.std.proofs.lemmas.List.{get_or_push, length_push}
use borrow.Author.Tests.{eqb-true, eqb-false, ltb-true, ltb-false, lt-ltb, le-ltb}
use Rattle.octets.specs.Choice.{pick}
use Rattle.octets.proofs.Bools.{both}
use Rattle.tables.specs.Trees.{Parameter}
use Rattle.comparing.specs.Pieces.{same_parameter}
use Rattle.comparing.proofs.Multisets.{as_same}
use Rattle.comparing.proofs.Pieces.{of_parameter}
use Rattle.sifting.specs.Orders.{precedes}
use Rattle.sifting.specs.Shelves.{Stand, halve, shelved, looked_for, landing}
use Rattle.sifting.proofs.Orders.{same_place}

-- ---- the search

-- between lo and hi lies what the search from the start leads to
pub record Sought (below : ℕ → Bool) (lo hi whole : ℕ) : Type 0 where
  pub fuel : ℕ
  pub enough : hi ≤ lo + fuel
  pub is : halve below fuel lo hi ≡ whole

module _ (below : ℕ → Bool) where
  pub sought_all : (n : ℕ) → Sought below 0 n (halve below n 0 n)
  sought_all n = record { fuel = n; enough = omega arith; is = refl }

  module _ {lo hi whole : ℕ} (l : lo < hi) where
    pub sought_right : below ((lo + hi) / 2) ≡ true → Sought below lo hi whole → Sought below ((lo + hi) / 2 + 1) hi whole
    unfolding halve
    sought_right t s = go s.fuel s.enough s.is
      where
        go : (fuel : ℕ) → hi ≤ lo + fuel → halve below fuel lo hi ≡ whole → Sought below ((lo + hi) / 2 + 1) hi whole
        go zero h e = absurd (omega (arith, h, l))
        go (suc fuel) h e = record { fuel = fuel; enough = omega (arith, h, l); is = rw (lt-ltb lo hi l, t) at e }

    pub sought_left : below ((lo + hi) / 2) ≡ false → Sought below lo hi whole → Sought below lo ((lo + hi) / 2) whole
    unfolding halve
    sought_left t s = go s.fuel s.enough s.is
      where
        go : (fuel : ℕ) → hi ≤ lo + fuel → halve below fuel lo hi ≡ whole → Sought below lo ((lo + hi) / 2) whole
        go zero h e = absurd (omega (arith, h, l))
        go (suc fuel) h e = record { fuel = fuel; enough = omega (arith, h, l); is = rw (lt-ltb lo hi l, t) at e }

  pub sought_end : {lo hi whole : ℕ} → hi ≤ lo → Sought below lo hi whole → lo ≡ whole
  unfolding halve
  sought_end {lo} {hi} {whole} h s = go s.fuel s.is
    where
      go : (fuel : ℕ) → halve below fuel lo hi ≡ whole → lo ≡ whole
      go zero e = e
      go (suc fuel) e = rw (le-ltb lo hi h) at e

-- searches that ask the same lead to the same place
halve_same : (f g : ℕ → Bool) → ((j : ℕ) → f j ≡ g j) → (fuel lo hi : ℕ) → halve f fuel lo hi ≡ halve g fuel lo hi
unfolding halve
halve_same f g h zero lo hi = refl
halve_same f g h (suc fuel) lo hi =
    rw (h ((lo + hi) / 2), halve_same f g h fuel ((lo + hi) / 2 + 1) hi, halve_same f g h fuel lo ((lo + hi) / 2))

-- ---- where a parameter lands

-- the choice between a place and none, by what stands there
module _ (n : ℕ) (there : ℕ → Bool) where
  abbrev choice : ℕ → Option ℕ
  choice m = pick (ltb m n && there m) (Some m) None

  chosen : (s m : ℕ) → s ≡ m → s < n → there s ≡ true → Some s ≡ choice m
  chosen s m e h t = rw (← e, lt-ltb s n h, t)

  not_chosen : (s m : ℕ) → s ≡ m → s < n → there s ≡ false → None ≡ choice m
  not_chosen s m e h t = rw (← e, lt-ltb s n h, t)

  was_chosen : (m j : ℕ) → choice m ≡ Some j → (m ≡ j) × (there m ≡ true)
  was_chosen m j h = go (ltb m n && there m) refl h
    where
      go : (t : Bool) → ltb m n && there m ≡ t → pick t (Some m) None ≡ Some j → (m ≡ j) × (there m ≡ true)
      go true e h = (cc, (both (ltb m n) (there m) e).1)
      go false e h = cc

choice_same : (n s m : ℕ) (t u : Bool) → s ≡ m → t ≡ u → pick {A = Option ℕ} (ltb s n && t) (Some s) None ≡ pick (ltb m n && u) (Some m) None
choice_same n s m t u e f = rw (e, f)

module _ (text table shelf : List ℕ) where
  abbrev at : ℕ → Parameter
  at = shelved text table shelf

  abbrev place : Parameter → ℕ
  place = looked_for text table shelf

  abbrev lands : Parameter → Option ℕ
  lands = landing text table shelf

  module _ (p : Parameter) where
    abbrev there : ℕ → Bool
    there s = same_parameter (at s) p

    pub lands_past : {s : ℕ} → s ≡ place p → length shelf ≤ s → None ≡ lands p
    lands_past {s} e h = rw (← e, le-ltb s (length shelf) h)

    pub lands_there : {s : ℕ} → s ≡ place p → s < length shelf → there s ≡ true → Some s ≡ lands p
    lands_there {s} e h t = chosen (length shelf) there s (place p) e h t

    pub lands_not : {s : ℕ} → s ≡ place p → s < length shelf → there s ≡ false → None ≡ lands p
    lands_not {s} e h t = not_chosen (length shelf) there s (place p) e h t

    landed_there : {j : ℕ} → lands p ≡ Some j → (place p ≡ j) × (there (place p) ≡ true)
    landed_there {j} h = was_chosen (length shelf) there (place p) j h

  place_same : (x y : Parameter) → same_parameter x y ≡ true → place x ≡ place y
  place_same x y e = halve_same (λ j. precedes (at j) x) (λ j. precedes (at j) y) (λ j. same_place (at j) x y e) (length shelf) 0 (length shelf)

  -- parameters that are the same land on the same place
  pub lands_same : (x y : Parameter) → same_parameter x y ≡ true → lands x ≡ lands y
  lands_same x y e =
      let s = place_same x y e in
      choice_same (length shelf) (place x) (place y) (there x (place x)) (there y (place y)) s
      (ap (there x) s ∙ as_same of_parameter x y e (at (place y)))

  -- and only those do
  pub lands_apart : (x y : Parameter) (j : ℕ) → lands x ≡ Some j → lands y ≡ Some j → same_parameter x y ≡ true
  lands_apart x y j e f =
      let p = landed_there x e in
      let q = landed_there y f in
      of_parameter.joined x (at (place x)) y (of_parameter.turned (at (place x)) x p.1) (ap (λ (m : ℕ). there y m) (p.0 ∙ sym q.0) ∙ q.1)

-- ---- a row put on it

-- what stands in each place after a store
pub stored : (l : List ℕ) (i a j : ℕ) → i < length l → get_or (set l i a) j 0 ≡ pick (eqb i j) a (get_or l j 0)
stored l i a j h = go (eqb i j) refl
  where
    go : (t : Bool) → eqb i j ≡ t → get_or (set l i a) j 0 ≡ pick t a (get_or l j 0)
    go true e = rw (← eqb-true i j e) (get_or-set_same l i a 0 h)
    go false e = get_or-set_other l i j a 0 (λ f. eqb-false i j e (sym f))

-- a row in the place of another
pub stand_set : (rows : ℕ) (shelf : List ℕ) (i row : ℕ) → i < length shelf → row < rows → Stand rows shelf → Stand rows (set shelf i row)
stand_set rows shelf i row h l s j k = rw (stored shelf i row j h) (go (eqb i j))
  where
    go : (t : Bool) → pick t row (get_or shelf j 0) < rows
    go true = l
    go false = s j (rw length-set at k)

-- a row behind the others
pub stand_push : (rows : ℕ) (shelf : List ℕ) (row : ℕ) → row < rows → Stand rows shelf → Stand rows (shelf ++ row ∷ [])
stand_push rows shelf row l s j k = go (ltb j (length shelf)) refl
  where
    go : (t : Bool) → ltb j (length shelf) ≡ t → get_or (shelf ++ row ∷ []) j 0 < rows
    go true e = let b : j < length shelf = ltb-true j (length shelf) e in rw (get_or-append shelf (row ∷ []) 0 j b) (s j b)
    go false e = rw (get_or_push shelf row 0 j (omega (arith, ltb-false j (length shelf) e, k, length_push shelf row))) l
