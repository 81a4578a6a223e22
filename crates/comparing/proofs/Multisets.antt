-- Laws of lists that are the same multiset: what the test means, that it is an equivalence, and what can be left out of both. Assumes nothing.
use mathlib.Core.Path.{◌≡◌, refl, sym, ap, ◌∙◌}
use mathlib.Core.Bool.{Bool, true, false}
use mathlib.Core.List.{List, [], ◌∷◌, ◌++◌}
use mathlib.Core.Logic.{◌↔◌}
use Prim.Native.Nat.{ℕ, zero, suc, ◌+◌, ◌≤◌, ◌<◌, zero-le}
use native.Mathlib.Omega.{arith}
use lib.ListN.{length}
use lib.Dec.{eqb}
use borrow.Author.Tests.{eqb-true, eq-eqb}
use Rattle.octets.specs.Choice.{pick}
use Rattle.octets.proofs.Bools.{both}
use Rattle.comparing.specs.Multisets.{many_of, as_often, same_multiset}
use Rattle.comparing.proofs.Equivalences.{Equivalence, and_both}

-- ---- counting in lists that are put together

pub many_append : {A : Type 0} (same : A → A → Bool) (z : A) (xs ys : List A) → many_of same z (xs ++ ys) ≡ many_of same z xs + many_of same z ys
unfolding many_of
many_append same z [] ys = omega arith
many_append same z (x ∷ xs) ys = omega (arith, many_append same z xs ys)

-- ---- what the test means

-- tests that pass together are equal
together : (a b : Bool) → (a ≡ true → b ≡ true) → (b ≡ true → a ≡ true) → a ≡ b
together true b f g = sym (f refl)
together false true f g = g refl
together false false f g = refl

-- a test that cannot pass fails
fails : (t : Bool) → (t ≡ true → ⊥) → t ≡ false
fails true h = absurd (h refl)
fails false h = refl

module _ {A : Type 0} {same : A → A → Bool} (s : Equivalence same) where
  -- of two that are the same, each is the same as a third or neither is
  same_as : (x y : A) → same x y ≡ true → (z : A) → same x z ≡ same y z
  same_as x y e z = together (same x z) (same y z) (s.joined y x z (s.turned x y e)) (s.joined x y z e)

  pub as_same : (x y : A) → same x y ≡ true → (z : A) → same z x ≡ same z y
  as_same x y e z = together (same z x) (same z y) (λ f. s.joined z x y f e) (λ f. s.joined z y x f (s.turned x y e))

  -- an element counts as those that are the same as it
  many_same : (x y : A) → same x y ≡ true → (zs : List A) → many_of same x zs ≡ many_of same y zs
  unfolding many_of
  many_same x y e [] = refl
  many_same x y e (z ∷ zs) = rw (same_as x y e z, many_same x y e zs)

  -- an element that is found among some that each stand in both as often stands in both as often itself
  found_often : (z : A) (xs ys zs : List A) → as_often same xs ys zs ≡ true → 0 < many_of same z zs → many_of same z xs ≡ many_of same z ys
  unfolding many_of as_often
  found_often z xs ys [] e h = absurd (omega (arith, h))
  found_often z xs ys (w ∷ ws) e h =
      let p = both (eqb (many_of same w xs) (many_of same w ys)) (as_often same xs ys ws) e in
      go (eqb-true (many_of same w xs) (many_of same w ys) p.0) (found_often z xs ys ws p.1) (same z w) refl h
    where
      go : many_of same w xs ≡ many_of same w ys → (0 < many_of same z ws → many_of same z xs ≡ many_of same z ys)
          → (t : Bool) → same z w ≡ t → 0 < pick t 1 0 + many_of same z ws → many_of same z xs ≡ many_of same z ys
      go one rest true f h = many_same z w f xs ∙ (one ∙ sym (many_same z w f ys))
      go one rest false f h = rest (omega (arith, h))

  -- where each element there is stands in both as often, each of some does
  all_often : (xs ys : List A) → ((z : A) → many_of same z xs ≡ many_of same z ys) → (zs : List A) → as_often same xs ys zs ≡ true
  unfolding as_often
  all_often xs ys h [] = refl
  all_often xs ys h (z ∷ zs) = rw (eq-eqb (many_of same z xs) (many_of same z ys) (h z)) (all_often xs ys h zs)

  of_counts : (xs ys : List A) → ((z : A) → many_of same z xs ≡ many_of same z ys) → same_multiset same xs ys ≡ true
  of_counts xs ys h = and_both (as_often same xs ys xs) (as_often same xs ys ys) (all_often xs ys h xs) (all_often xs ys h ys)

  -- an element that is found in neither stands in both not at all
  counts_of : (xs ys : List A) → same_multiset same xs ys ≡ true → (z : A) → many_of same z xs ≡ many_of same z ys
  counts_of xs ys e z = go (many_of same z xs) (many_of same z ys) refl refl
    where
      p : (as_often same xs ys xs ≡ true) × (as_often same xs ys ys ≡ true)
      p = both (as_often same xs ys xs) (as_often same xs ys ys) e

      go : (m n : ℕ) → many_of same z xs ≡ m → many_of same z ys ≡ n → many_of same z xs ≡ many_of same z ys
      go zero zero f g = f ∙ sym g
      go zero (suc n) f g = found_often z xs ys ys p.1 (omega (arith, g))
      go (suc m) n f g = found_often z xs ys xs p.0 (omega (arith, f))

  -- two lists are the same multiset exactly if each element there is stands in both as often
  pub as_often_exactly : (xs ys : List A) → (same_multiset same xs ys ≡ true) ↔ ((z : A) → many_of same z xs ≡ many_of same z ys)
  as_often_exactly xs ys = (counts_of xs ys, of_counts xs ys)

  -- so it is an equivalence
  pub of_multisets : Equivalence (same_multiset same)
  of_multisets =
      record {
        itself = λ xs. of_counts xs xs (λ z. refl);
        turned = λ xs ys e. of_counts ys xs (λ z. sym (counts_of xs ys e z));
        joined = λ xs ys zs e f. of_counts xs zs (λ z. counts_of xs ys e z ∙ counts_of ys zs f z);
      }

  -- an element that stands more often in one tells them apart
  pub told_apart : (z : A) (xs ys : List A) → (many_of same z xs ≡ many_of same z ys → ⊥) → same_multiset same xs ys ≡ false
  told_apart z xs ys h = fails (same_multiset same xs ys) (λ e. h (counts_of xs ys e z))

  -- ---- what can be left out of both

  -- lists whose counts agree exactly where those of two others do are compared as these are
  compared_as : (xs ys vs ws : List A)
      → ((z : A) → many_of same z xs ≡ many_of same z ys → many_of same z vs ≡ many_of same z ws)
      → ((z : A) → many_of same z vs ≡ many_of same z ws → many_of same z xs ≡ many_of same z ys)
      → same_multiset same xs ys ≡ same_multiset same vs ws
  compared_as xs ys vs ws f g =
      together (same_multiset same xs ys) (same_multiset same vs ws)
      (λ e. of_counts vs ws (λ z. f z (counts_of xs ys e z)))
      (λ e. of_counts xs ys (λ z. g z (counts_of vs ws e z)))

  -- two firsts that are the same can be left out, and so can two lasts
  pub without_first : (x y : A) → same x y ≡ true → (xs ys : List A) → same_multiset same (x ∷ xs) (y ∷ ys) ≡ same_multiset same xs ys
  unfolding many_of
  without_first x y e xs ys =
      compared_as (x ∷ xs) (y ∷ ys) xs ys (λ z h. omega (arith, first z, h)) (λ z h. omega (arith, first z, h))
    where
      first : (z : A) → pick {A = ℕ} (same z x) 1 0 ≡ pick (same z y) 1 0
      first z = rw (as_same x y e z)

  pub without_last : (x y : A) → same x y ≡ true → (xs ys : List A) → same_multiset same (xs ++ x ∷ []) (ys ++ y ∷ []) ≡ same_multiset same xs ys
  unfolding many_of
  without_last x y e xs ys =
      compared_as (xs ++ x ∷ []) (ys ++ y ∷ []) xs ys
      (λ z h. omega (arith, last z, many_append same z xs (x ∷ []), many_append same z ys (y ∷ []), h))
      (λ z h. omega (arith, last z, many_append same z xs (x ∷ []), many_append same z ys (y ∷ []), h))
    where
      last : (z : A) → many_of same z (x ∷ []) ≡ many_of same z (y ∷ [])
      last z = rw (as_same x y e z)

  -- ---- one within another, and how long they are

  -- a list without the first that is the same as x
  unfoldable without : A → List A → List A
  without x [] = []
  without x (y ∷ ys) = pick (same x y) ys (y ∷ without x ys)

  -- if there is one, the list is longer by it
  without_length : (x : A) (ys : List A) → 0 < many_of same x ys → suc (length (without x ys)) ≡ length ys
  unfolding many_of without
  without_length x [] h = absurd (omega (arith, h))
  without_length x (y ∷ ys) h = go (without_length x ys) (same x y) h
    where
      go : (0 < many_of same x ys → suc (length (without x ys)) ≡ length ys)
          → (t : Bool) → 0 < pick t 1 0 + many_of same x ys → suc (length (pick t ys (y ∷ without x ys))) ≡ suc (length ys)
      go rest true h = refl
      go rest false h = ap suc (rest (omega (arith, h)))

  -- and each element stands in it as often as in x and what is left
  without_many : (x : A) (ys : List A) → 0 < many_of same x ys → (z : A) → pick (same z x) 1 0 + many_of same z (without x ys) ≡ many_of same z ys
  unfolding many_of without
  without_many x [] h z = absurd (omega (arith, h))
  without_many x (y ∷ ys) h z = go (λ k. without_many x ys k z) (same x y) refl h
    where
      go : (0 < many_of same x ys → pick (same z x) 1 0 + many_of same z (without x ys) ≡ many_of same z ys)
          → (t : Bool) → same x y ≡ t → 0 < pick t 1 0 + many_of same x ys
          → pick (same z x) 1 0 + many_of same z (pick t ys (y ∷ without x ys)) ≡ pick (same z y) 1 0 + many_of same z ys
      go rest true e h = rw (as_same x y e z)
      go rest false e h = omega (arith, rest (omega (arith, h)))

  -- a list that begins with x is within ys: then x stands there, and the rest is within what is left without it
  module _ (x : A) (xs ys : List A) (h : (z : A) → many_of same z (x ∷ xs) ≤ many_of same z ys) where
    stands : 0 < many_of same x ys
    unfolding many_of
    stands = omega (arith, own, h x)
      where
        own : pick {A = ℕ} (same x x) 1 0 ≡ 1
        own = rw (s.itself x)

    rest_within : (z : A) → many_of same z xs ≤ many_of same z (without x ys)
    unfolding many_of
    rest_within z = omega (arith, h z, without_many x ys stands z)

  within_length : (xs ys : List A) → ((z : A) → many_of same z xs ≤ many_of same z ys) → length xs ≤ length ys
  within_length [] ys h = zero-le
  within_length (x ∷ xs) ys h =
      omega (arith, within_length xs (without x ys) (rest_within x xs ys h), without_length x ys (stands x xs ys h))

  -- a list within another stays so with x behind it, if the other has more of x
  pub within_more : (x : A) (xs ys : List A) → ((z : A) → many_of same z xs ≤ many_of same z ys) → many_of same x xs < many_of same x ys
      → (z : A) → many_of same z (xs ++ x ∷ []) ≤ many_of same z ys
  unfolding many_of
  within_more x xs ys h l z = go (same z x) refl
    where
      go : (t : Bool) → same z x ≡ t → many_of same z (xs ++ x ∷ []) ≤ many_of same z ys
      go true e =
          let one : pick {A = ℕ} (same z x) 1 0 ≡ 1 = rw e in
          omega (arith, many_append same z xs (x ∷ []), one, many_same z x e xs, many_same z x e ys, l)
      go false e =
          let none : pick {A = ℕ} (same z x) 1 0 ≡ 0 = rw e in
          omega (arith, many_append same z xs (x ∷ []), none, h z)

  -- a list within another that is as long is the same multiset
  pub within_all : (xs ys : List A) → length xs ≡ length ys → ((z : A) → many_of same z xs ≤ many_of same z ys)
      → (z : A) → many_of same z xs ≡ many_of same z ys
  unfolding many_of
  within_all [] [] e h z = refl
  within_all [] (y ∷ ys) e h z = absurd (omega (arith, e))
  within_all (x ∷ xs) ys e h z =
      let there = stands x xs ys h in
      let left : length xs ≡ length (without x ys) = omega (arith, e, without_length x ys there) in
      omega (arith, within_all xs (without x ys) left (rest_within x xs ys h) z, without_many x ys there z)

  -- multisets that are the same have equally many elements
  pub as_long : (xs ys : List A) → same_multiset same xs ys ≡ true → length xs ≡ length ys
  as_long xs ys e =
      omega (
        arith,
        within_length xs ys (λ z. omega (arith, counts_of xs ys e z)),
        within_length ys xs (λ z. omega (arith, counts_of xs ys e z)),
      )

  pub other_length : (xs ys : List A) → (length xs ≡ length ys → ⊥) → same_multiset same xs ys ≡ false
  other_length xs ys h = fails (same_multiset same xs ys) (λ e. h (as_long xs ys e))
