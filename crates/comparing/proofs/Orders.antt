-- Further wordings of multisets: some order of the second is as the first, one by one; or forms of both are the same in some order. Assumes nothing.
use mathlib.Core.Path.{◌≡◌, refl, sym, ap, ◌∙◌}
use mathlib.Core.Bool.{Bool, true, false}
use mathlib.Core.List.{List, [], ◌∷◌, ◌++◌, map, map-append}
use mathlib.Core.Logic.{◌↔◌}
use Prim.Native.Nat.{ℕ, ◌+◌, ◌<◌}
use native.Mathlib.Omega.{arith}
use Rattle.octets.specs.Choice.{pick}
use Rattle.comparing.specs.Multisets.{many_of, same_multiset}
use Rattle.comparing.specs.Orders.{Reordered, none_left, put, OneByOne, both_end, each}
use Rattle.comparing.proofs.Equivalences.{Equivalence}
use Rattle.comparing.proofs.Multisets.{many_append, as_same, as_often_exactly}

-- where one that is the same as x stands
record Stands {A : Type 0} (same : A → A → Bool) (x : A) (ys : List A) : Type 0 where
  front : List A
  it : A
  back : List A
  passes : same x it ≡ true
  split : ys ≡ front ++ it ∷ back

reordered_as : {A : Type 0} {xs ys zs : List A} → ys ≡ zs → Reordered xs zs → Reordered xs ys
reordered_as e r = rw e r

-- lists in another order are so too when each element is changed alike
pub reordered_map : {A B : Type 0} (f : A → B) {xs ys : List A} → Reordered xs ys → Reordered (map f xs) (map f ys)
reordered_map f none_left = none_left
reordered_map f (put x ys zs r) =
    reordered_as (map-append f ys (x ∷ zs)) (put (f x) (map f ys) (map f zs) (reordered_as (sym (map-append f ys zs)) (reordered_map f r)))

-- an element in the midst counts as if it stood first
many_midst : {A : Type 0} (same : A → A → Bool) (z x : A) (ys zs : List A) → many_of same z (ys ++ x ∷ zs) ≡ many_of same z (x ∷ (ys ++ zs))
unfolding many_of
many_midst same z x ys zs = omega (arith, many_append same z ys (x ∷ zs), many_append same z ys zs)

-- another order changes no count
many_reordered : {A : Type 0} (same : A → A → Bool) (z : A) {xs ys : List A} → Reordered xs ys → many_of same z xs ≡ many_of same z ys
unfolding many_of
many_reordered same z none_left = refl
many_reordered same z (put x ys zs r) = omega (arith, many_midst same z x ys zs, many_reordered same z r)

module _ {A : Type 0} (same : A → A → Bool) (x : A) where
  behind : (y : A) (ys : List A) → Stands same x ys → Stands same x (y ∷ ys)
  behind y ys r = record { front = y ∷ r.front; it = r.it; back = r.back; passes = r.passes; split = ap (λ (l : List A). y ∷ l) r.split }

  -- an element that is counted stands somewhere
  where_stands : (ys : List A) → 0 < many_of same x ys → Stands same x ys
  unfolding many_of
  where_stands [] h = absurd (omega (arith, h))
  where_stands (y ∷ ys) h = go (where_stands ys) (same x y) refl h
    where
      go : (0 < many_of same x ys → Stands same x ys) → (t : Bool) → same x y ≡ t → 0 < pick t 1 0 + many_of same x ys → Stands same x (y ∷ ys)
      go rest true e h = record { front = []; it = y; back = ys; passes = e; split = refl }
      go rest false e h = behind y ys (rest (omega (arith, h)))

module _ {A : Type 0} {same : A → A → Bool} (s : Equivalence same) where
  abbrev Same : A → A → Type 0
  Same x y = same x y ≡ true

  -- nor do others that are the same
  many_one_by_one : (z : A) {xs ys : List A} → OneByOne Same xs ys → many_of same z xs ≡ many_of same z ys
  unfolding many_of
  many_one_by_one z both_end = refl
  many_one_by_one z (each {x} {y} e r) = rw (as_same s x y e z, many_one_by_one z r)

  -- an element is the same as itself, so a list that begins with it has one
  own : (x : A) (xs : List A) → 0 < many_of same x (x ∷ xs)
  unfolding many_of
  own x xs = let one : pick {A = ℕ} (same x x) 1 0 ≡ 1 = rw (s.itself x) in omega (arith, one)

  -- the first of one list stands in the other: it is put there, and the rest of the one goes with what is left of the other
  module _ (x : A) (xs ys : List A) (f : Stands same x ys) where
    left : ((z : A) → many_of same z (x ∷ xs) ≡ many_of same z ys) → (z : A) → many_of same z xs ≡ many_of same z (f.front ++ f.back)
    unfolding many_of
    left h z =
        let first : pick {A = ℕ} (same z x) 1 0 ≡ pick (same z f.it) 1 0 = rw (as_same s x f.it f.passes z) in
        omega (arith, first, h z, ap (many_of same z) f.split, many_midst same z f.it f.front f.back)

    first_put : (zs : List A) × (Reordered zs (f.front ++ f.back) × OneByOne Same xs zs) → (zs : List A) × (Reordered zs ys × OneByOne Same (x ∷ xs) zs)
    first_put r = (f.it ∷ r.0, (reordered_as f.split (put f.it f.front f.back r.1.0), each f.passes r.1.1))

  in_order : (xs ys : List A) → ((z : A) → many_of same z xs ≡ many_of same z ys) → (zs : List A) × (Reordered zs ys × OneByOne Same xs zs)
  unfolding many_of
  in_order [] [] h = ([], (none_left, both_end))
  in_order [] (y ∷ ys) h = absurd (omega (arith, own y ys, h y))
  in_order (x ∷ xs) ys h =
      let f = where_stands same x ys (omega (arith, own x xs, h x)) in
      first_put x xs ys f (in_order xs (f.front ++ f.back) (left x xs ys f h))

  -- the same multiset exactly if some order of the second is as the first, one by one
  pub orders_exactly : (xs ys : List A) → (same_multiset same xs ys ≡ true) ↔ ((zs : List A) × (Reordered zs ys × OneByOne Same xs zs))
  orders_exactly xs ys =
      let so = as_often_exactly s xs ys in
      (λ e. in_order xs ys (so.0 e), λ r. so.1 (λ z. many_one_by_one z r.1.1 ∙ many_reordered same z r.1.0))

  -- each element has a plain form that is the same as it, and elements that are the same have one plain form
  module _ (plain : A → A) (stays : (x : A) → same x (plain x) ≡ true) (agrees : (x y : A) → same x y ≡ true → plain x ≡ plain y) where
    made_plain : (xs : List A) → OneByOne Same xs (map plain xs)
    made_plain [] = both_end
    made_plain (x ∷ xs) = each (stays x) (made_plain xs)

    many_plain : (z : A) (xs : List A) → many_of same z xs ≡ many_of same z (map plain xs)
    many_plain z xs = many_one_by_one z (made_plain xs)

    plain_equal : {xs ys : List A} → OneByOne Same xs ys → map plain xs ≡ map plain ys
    plain_equal both_end = refl
    plain_equal (each {x} {y} e r) = cc (agrees x y e, plain_equal r)

    -- then lists are the same multiset exactly if their plain forms are the same in some order
    pub plain_orders : (xs ys : List A) → (same_multiset same xs ys ≡ true) ↔ Reordered (map plain xs) (map plain ys)
    plain_orders xs ys = (
      λ e. let r = (orders_exactly xs ys).0 e in rw (plain_equal r.1.1) (reordered_map plain r.1.0),
      λ r. (as_often_exactly s xs ys).1 (λ z. many_plain z xs ∙ (many_reordered same z r ∙ sym (many_plain z ys))),
    )
