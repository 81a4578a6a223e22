-- Laws of tallies: one of a list counted or taken off, and what lands on a place counted as what is the same. Assumes nothing.
use mathlib.Core.Path.{◌≡◌, refl, sym, ap, ◌∙◌}
use mathlib.Core.Bool.{Bool, true, false, false≢true}
use mathlib.Core.List.{List, [], ◌∷◌, ◌++◌}
use Prim.Native.Nat.{ℕ, zero, suc, ◌+◌, ◌-◌, ◌≤◌, ◌<◌, zero-le}
use native.Mathlib.Omega.{arith}
use lib.ListN.{length, get_or, set, replicate, get_or-replicate, length-replicate}
use lib.Dec.{eqb, ltb}
use Rattle.std.proofs.lemmas.List.{get_or_past}
use Rattle.std.specs.Prelude.{Option, Some, None}
use borrow.Author.Tests.{eqb-true, eq-eqb, ne_eqb, ltb-true, ltb-false}
use Rattle.octets.specs.Choice.{pick}
use Rattle.comparing.specs.Multisets.{many_of, same_multiset}
use Rattle.comparing.proofs.Equivalences.{Equivalence}
use Rattle.comparing.proofs.Multisets.{told_apart}
use Rattle.sifting.specs.Tallies.{Empty, lands_on, landed, Balanced, Even}
use Rattle.sifting.proofs.Shelves.{stored}

-- tallies that are all 0
pub none_counted : (n : ℕ) → Empty (replicate n 0)
none_counted n j = go (ltb j n) refl
  where
    go : (t : Bool) → ltb j n ≡ t → get_or {A = ℕ} (replicate n 0) j 0 ≡ 0
    go true e = get_or-replicate {A = ℕ} n j 0 0 (ltb-true j n e)
    go false e = get_or_past (replicate {A = ℕ} n 0) j 0 (rw length-replicate (ltb-false j n e))

-- what a landing on a place is
lands_on_is : (o : Option ℕ) (j : ℕ) → lands_on o j ≡ true → o ≡ Some j
lands_on_is None j e = absurd (false≢true e)
lands_on_is (Some i) j e = ap Some (eqb-true i j e)

on_it : (o : Option ℕ) (j : ℕ) → o ≡ Some j → lands_on o j ≡ true
on_it o j e = rw e (eq-eqb j j refl)

not_on : (o : Option ℕ) (j : ℕ) → (o ≡ Some j → ⊥) → lands_on o j ≡ false
not_on None j h = refl
not_on (Some i) j h = ne_eqb i j (λ e. h (ap Some e))

module _ {A : Type 0} (f : A → Option ℕ) where
  pub landed_append : (j : ℕ) (xs ys : List A) → landed f j (xs ++ ys) ≡ landed f j xs + landed f j ys
  unfolding landed
  landed_append j [] ys = omega arith
  landed_append j (x ∷ xs) ys = omega (arith, landed_append j xs ys)

  -- with one more at the end
  landed_more : (j : ℕ) (xs : List A) (x : A) → landed f j (xs ++ x ∷ []) ≡ landed f j xs + pick (lands_on (f x) j) 1 0
  unfolding landed
  landed_more j xs x = omega (arith, landed_append j xs (x ∷ []))

  pub landed_few : (j : ℕ) (xs : List A) → landed f j xs ≤ length xs
  unfolding landed
  landed_few j [] = zero-le
  landed_few j (x ∷ xs) = go (landed_few j xs) (lands_on (f x) j)
    where
      go : landed f j xs ≤ length xs → (t : Bool) → pick t 1 0 + landed f j xs ≤ suc (length xs)
      go h true = omega (arith, h)
      go h false = omega (arith, h)

  pub none_landed : (j : ℕ) → landed f j [] ≡ 0
  unfolding landed
  none_landed j = refl

  -- if some do, there is one that does
  one_lands : (j : ℕ) (xs : List A) → 0 < landed f j xs → (x : A) × (f x ≡ Some j)
  unfolding landed
  one_lands j [] h = absurd (omega (arith, h))
  one_lands j (x ∷ xs) h = go (one_lands j xs) (lands_on (f x) j) refl h
    where
      go : (0 < landed f j xs → (y : A) × (f y ≡ Some j)) → (t : Bool) → lands_on (f x) j ≡ t → 0 < pick t 1 0 + landed f j xs → (y : A) × (f y ≡ Some j)
      go rest true e h = (x, lands_on_is (f x) j e)
      go rest false e h = rest (omega (arith, h))

  -- ---- one counted, or taken off

  module _ (tally : List ℕ) (less all : List A) (h : Balanced f tally less all) (x : A) where
    module _ {p : ℕ} (e : Some p ≡ f x) where
      at_place : (j : ℕ) → pick {A = ℕ} (lands_on (f x) j) 1 0 ≡ pick (eqb p j) 1 0
      at_place j = rw (← e)

      pub held_up : p < length tally → Balanced f (set tally p (get_or tally p 0 + 1)) less (all ++ x ∷ [])
      held_up l j = go (eqb p j) refl (stored tally p (get_or tally p 0 + 1) j l) (at_place j)
        where
          new : ℕ
          new = get_or (set tally p (get_or tally p 0 + 1)) j 0

          go : (t : Bool) → eqb p j ≡ t → new ≡ pick t (get_or tally p 0 + 1) (get_or tally j 0) → pick {A = ℕ} (lands_on (f x) j) 1 0 ≡ pick t 1 0
              → new + landed f j less ≡ landed f j (all ++ x ∷ [])
          go true q s o = omega (arith, s, o, h j, landed_more j all x, ap (λ (i : ℕ). get_or tally i 0) (eqb-true p j q))
          go false q s o = omega (arith, s, o, h j, landed_more j all x)

      pub held_down : p < length tally → (get_or tally p 0 ≡ 0 → ⊥) → Balanced f (set tally p (get_or tally p 0 - 1)) (less ++ x ∷ []) all
      held_down l some j = go (eqb p j) refl (stored tally p (get_or tally p 0 - 1) j l) (at_place j)
        where
          new : ℕ
          new = get_or (set tally p (get_or tally p 0 - 1)) j 0

          go : (t : Bool) → eqb p j ≡ t → new ≡ pick t (get_or tally p 0 - 1) (get_or tally j 0) → pick {A = ℕ} (lands_on (f x) j) 1 0 ≡ pick t 1 0
              → new + landed f j (less ++ x ∷ []) ≡ landed f j all
          go true q s o = omega (arith, s, o, some, h j, landed_more j less x, ap (λ (i : ℕ). get_or tally i 0) (eqb-true p j q))
          go false q s o = omega (arith, s, o, h j, landed_more j less x)

      -- nothing is left to take it off: more of the one list land there
      pub more_land : get_or tally p 0 ≡ 0 → landed f p all < landed f p (less ++ x ∷ [])
      more_land z = omega (arith, z, h p, landed_more p less x, one)
        where
          one : pick {A = ℕ} (lands_on (f x) p) 1 0 ≡ 1
          one = rw (on_it (f x) p (sym e))

    -- one that lands on no place
    module _ (e : None ≡ f x) where
      nowhere : (j : ℕ) → pick {A = ℕ} (lands_on (f x) j) 1 0 ≡ 0
      nowhere j = rw (← e)

      pub held_past : Balanced f tally less (all ++ x ∷ [])
      held_past j = omega (arith, nowhere j, h j, landed_more j all x)

      pub held_pass : Balanced f tally (less ++ x ∷ []) all
      held_pass j = omega (arith, nowhere j, h j, landed_more j less x)

  -- ---- what lands on a place is the same

  module _ {same : A → A → Bool} (s : Equivalence same)
      (alike : (x y : A) → same x y ≡ true → f x ≡ f y)
      (apart : (x y : A) (j : ℕ) → f x ≡ Some j → f y ≡ Some j → same x y ≡ true)
    where
      -- an element that lands is counted as what lands there
      pub landed_many : (x : A) (j : ℕ) → f x ≡ Some j → (ys : List A) → landed f j ys ≡ many_of same x ys
      unfolding landed many_of
      landed_many x j h [] = refl
      landed_many x j h (y ∷ ys) = go (landed_many x j h ys) (same x y) refl
        where
          go : landed f j ys ≡ many_of same x ys → (t : Bool) → same x y ≡ t → pick (lands_on (f y) j) 1 0 + landed f j ys ≡ pick t 1 0 + many_of same x ys
          go rest true e = rw (on_it (f y) j (sym (alike x y e) ∙ h), rest)
          go rest false e = rw (not_on (f y) j (λ q. false≢true (sym e ∙ apart x y j h q)), rest)

      -- where not as many of both land on a place, the lists are told apart
      pub uneven : (xs ys : List A) (j : ℕ) → (landed f j xs ≡ landed f j ys → ⊥) → same_multiset same xs ys ≡ false
      uneven xs ys j u = go (landed f j xs) refl
        where
          by : (x : A) × (f x ≡ Some j) → same_multiset same xs ys ≡ false
          by (x, e) = told_apart s x xs ys (λ q. u (landed_many x j e xs ∙ (q ∙ sym (landed_many x j e ys))))

          go : (m : ℕ) → landed f j xs ≡ m → same_multiset same xs ys ≡ false
          go zero e = by (one_lands j ys (omega (arith, e, u)))
          go (suc m) e = by (one_lands j xs (omega (arith, e)))

      -- where as many of both do on each, an element that lands stands in both as often
      pub even_many : (xs ys : List A) → Even f xs ys → (x : A) (j : ℕ) → f x ≡ Some j → many_of same x xs ≡ many_of same x ys
      even_many xs ys h x j e = sym (landed_many x j e xs) ∙ (h j ∙ landed_many x j e ys)
