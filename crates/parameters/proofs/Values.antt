-- Laws of quoted parts, of the parts that follow one, and of the form of a value.
-- Assumes nothing.
use Prim.Native.Nat.{ℕ, zero, suc, ◌+◌, ◌-◌, ◌≤◌, ◌<◌}
use mathlib.Core.Path.{◌≡◌, refl, sym, ap, ◌∙◌}
use mathlib.Core.Bool.{Bool, true, false, not, ◌&&◌}
use mathlib.Core.List.{List, [], ◌∷◌}
use native.Mathlib.Decide.{ℕ_discrete, dec_lt}
use native.Mathlib.Omega.{arith}
use native.Mathlib.Numerals.{add-one}
use lib.ListN.{length, get_or, drop, length-drop, get_or-eq_default}
use lib.Seq.{drop-cons, drop-drop, get_or-drop}
use lib.Dec.{eqb}
use borrow.Author.Tests.{eqb-true, eqb-false, ltb-true, lt-ltb, eq-eqb, ne_eqb, not-false}
use Rattle.octets.specs.Choice.{pick}
use Rattle.octets.specs.Bytes.{quote, comma, bare, other}
use Rattle.octets.specs.Runs.{run}
use Rattle.parameters.specs.declared.Form.TheVariants.{Nothing, Bare, Quoted, Listed}
use Rattle.parameters.specs.Values.{inside_len, quoted_here, quoted_len, further_after, further_len, form_of, form_used}
use Rattle.octets.proofs.Bools.{both}
use Rattle.octets.proofs.Runs.{within, stopped}

-- a byte that is not 0 stands inside the list
pub inside_of : (xs : List ℕ) (n : ℕ) {b : ℕ} → get_or xs n 0 ≡ suc b → n < length xs
inside_of xs n {b} e = go (dec_lt n (length xs))
  where
    go : Dec (n < length xs) → n < length xs
    go (yes l) = l
    go (no l) =
        let past : length xs ≤ n = omega arith in
        let z : ◌≡◌ {A = ℕ} 0 (suc b) = sym (get_or-eq_default xs 0 past) ∙ e in
        absurd (omega arith)

-- ---- one quoted part

pub record QuotedAt (xs : List ℕ) : Type 0 where
  pub opens : get_or xs 0 0 ≡ quote
  pub inside : 0 < inside_len xs
  pub closes : get_or xs (1 + inside_len xs) 0 ≡ quote

pub quoted_is : {xs : List ℕ} → QuotedAt xs → quoted_len xs ≡ inside_len xs + 2
unfolding quoted_len
quoted_is q = rw (eq-eqb _ _ q.opens, lt-ltb _ _ q.inside, eq-eqb _ _ q.closes)

pub quoted_has : (xs : List ℕ) → (quoted_len xs ≡ 0 → ⊥) → QuotedAt xs
unfolding quoted_len
quoted_has xs h = go (quoted_here xs) refl h
  where
    go : (t : Bool) → quoted_here xs ≡ t → (pick t (inside_len xs + 2) 0 ≡ 0 → ⊥) → QuotedAt xs
    go true e n =
        let a = both _ _ e in
        let b = both _ _ a.1 in
        record { opens = eqb-true _ _ a.0; inside = ltb-true _ _ b.0; closes = eqb-true _ _ b.1 }
    go false e n = absurd (n refl)

pub quoted_none : (xs : List ℕ) → (QuotedAt xs → ⊥) → quoted_len xs ≡ 0
quoted_none xs h = go (ℕ_discrete (quoted_len xs) 0)
  where
    go : Dec (quoted_len xs ≡ 0) → quoted_len xs ≡ 0
    go (yes e) = e
    go (no n) = absurd (h (quoted_has xs n))

-- the closing quote is inside the list
pub quoted_room : {xs : List ℕ} → QuotedAt xs → inside_len xs + 2 ≤ length xs
quoted_room {xs} q = omega (arith, inside_of xs (1 + inside_len xs) q.closes)

pub quoted_le : (xs : List ℕ) → quoted_len xs ≤ length xs
quoted_le xs = go (ℕ_discrete (quoted_len xs) 0)
  where
    go : Dec (quoted_len xs ≡ 0) → quoted_len xs ≤ length xs
    go (yes e) = omega arith
    go (no n) = let q = quoted_has xs n in omega (arith, quoted_is q, quoted_room q)

-- the first quote behind the opening one closes the part
pub quoted_closed : (xs : List ℕ) (e : ℕ) → get_or xs 0 0 ≡ quote → e ≡ 1 + inside_len xs → (e ≡ 1 → ⊥) → e < length xs → e + 1 ≡ quoted_len xs
quoted_closed xs e o is some l =
    let short : inside_len xs < length (drop 1 xs) = omega (arith, length-drop 1 xs) in
    let stops : get_or (drop 1 xs) (inside_len xs) 0 ≡ quote = eqb-true _ _ (not-false _ (stopped (other quote) (drop 1 xs) short)) in
    let q : QuotedAt xs = record { opens = o; inside = omega arith; closes = rw get_or-drop at stops } in
    omega (arith, quoted_is q)

-- ---- further parts

-- the bytes of a part that has begun are passed over
pub further_skip : (k : ℕ) (xs : List ℕ) → k ≤ length xs → further_after k xs ≡ k + further_len (drop k xs)
unfolding further_after
further_skip zero xs h = omega arith
further_skip (suc k) [] h = absurd (omega arith)
further_skip (suc k) (x ∷ xs) h = omega (arith, further_skip k xs (omega arith))

pub further_le : (k : ℕ) (xs : List ℕ) → further_after k xs ≤ length xs
unfolding further_after
further_le k [] = omega arith
further_le zero (x ∷ xs) = go (eqb x comma && not (eqb (quoted_len xs) 0)) (further_le (quoted_len xs) xs)
  where
    go : (t : Bool) → further_after (quoted_len xs) xs ≤ length xs → pick t (suc (further_after (quoted_len xs) xs)) 0 ≤ suc (length xs)
    go true h = omega arith
    go false h = omega arith
further_le (suc k) (x ∷ xs) = omega (arith, further_le k xs)

-- no further part without a comma, or without a quoted part behind it
pub further_bare : (x : ℕ) (xs : List ℕ) → (x ≡ comma → ⊥) → further_len (x ∷ xs) ≡ 0
unfolding further_after
further_bare x xs h = rw (ne_eqb _ _ h)

further_unfit : (x : ℕ) (xs : List ℕ) → quoted_len xs ≡ 0 → further_len (x ∷ xs) ≡ 0
unfolding further_after
further_unfit x xs h = go (eqb x comma)
  where
    go : (t : Bool) → pick (t && not (eqb (quoted_len xs) 0)) (suc (further_after (quoted_len xs) xs)) 0 ≡ 0
    go true = rw (eq-eqb _ _ h)
    go false = refl

further_one : (xs : List ℕ) → (quoted_len xs ≡ 0 → ⊥) → further_len (comma ∷ xs) ≡ suc (quoted_len xs + further_len (drop (quoted_len xs) xs))
unfolding further_after
further_one xs h = rw (ne_eqb _ _ h) (ap suc (further_skip (quoted_len xs) xs (quoted_le xs)))

-- a loop stands behind the further parts passed so far
pub record Joined (xs : List ℕ) (i : ℕ) : Type 0 where
  pub inside : i ≤ length xs
  pub left : i + further_len (drop i xs) ≡ further_len xs

pub joined_start : (xs : List ℕ) → Joined xs 0
joined_start xs = record { inside = omega arith; left = omega arith }

module _ {xs : List ℕ} {i : ℕ} (j : Joined xs i) where
  joined_all : length xs ≤ i → i ≡ further_len xs
  joined_all h = omega (arith, j.inside, j.left, length-drop i xs, further_le 0 (drop i xs))

  module _ (h : i < length xs) where
    joined_bare : (get_or xs i 0 ≡ comma → ⊥) → i ≡ further_len xs
    joined_bare n = omega (arith, j.left, ap further_len (drop-cons xs i 0 h), further_bare _ (drop (suc i) xs) n)

    pub joined_unfit : quoted_len (drop (i + 1) xs) ≡ 0 → i ≡ further_len xs
    joined_unfit n = omega (arith, j.left, ap further_len (drop-cons xs i 0 h), further_unfit (get_or xs i 0) (drop (suc i) xs) (rw add-one at n))

    pub joined_more : (n : ℕ) → get_or xs i 0 ≡ comma → n ≡ quoted_len (drop (i + 1) xs) → (n ≡ 0 → ⊥) → Joined xs (i + 1 + n)
    joined_more n e q some =
        let one : further_len (drop i xs) ≡ suc (n + further_len (drop (i + 1 + n) xs)) =
        rw (drop-cons xs i 0 h, e, q, add-one) (further_one (drop (suc i) xs) (λ z. some (q ∙ rw add-one z)) ∙ rw drop-drop) in
        record { inside = omega (arith, quoted_le (drop (i + 1) xs), length-drop (i + 1) xs); left = omega (arith, j.left) }

  -- where another byte stands than a comma, or none
  pub joined_end : (get_or xs i 0 ≡ comma → ⊥) → i ≡ further_len xs
  joined_end n = go (dec_lt i (length xs))
    where
      go : Dec (i < length xs) → i ≡ further_len xs
      go (yes l) = joined_bare l n
      go (no l) = joined_all (omega arith)

-- ---- forms, by what stands at the front

module _ (xs : List ℕ) where
  module _ (none : quoted_len xs ≡ 0) (n : ℕ) (is : n ≡ run bare xs) where
    pub form_nothing : n ≡ 0 → Nothing ≡ form_of xs
    unfolding form_of
    form_nothing z = rw (eq-eqb _ _ none, eq-eqb _ _ (sym is ∙ z))

    pub form_bare : (n ≡ 0 → ⊥) → Bare n ≡ form_of xs
    unfolding form_of
    form_bare some = rw (eq-eqb _ _ none, ← is, ne_eqb _ _ some)

  module _ (q : ℕ) (first : q ≡ quoted_len xs) (some : q ≡ 0 → ⊥) (n : ℕ) (is : n ≡ further_len (drop q xs)) where
    pub form_quoted : n ≡ 0 → Quoted (q - 2) ≡ form_of xs
    unfolding form_of
    form_quoted z = rw (← first, ne_eqb _ _ some, ← is, eq-eqb _ _ z)

    pub form_listed : (n ≡ 0 → ⊥) → Listed (q + n) ≡ form_of xs
    unfolding form_of
    form_listed more = rw (← first, ne_eqb _ _ some, ← is, ne_eqb _ _ more)

pub form_le : (xs : List ℕ) → form_used (form_of xs) ≤ length xs
unfolding form_of
form_le xs = go (eqb q 0) (eqb (run bare xs) 0) (eqb f 0) refl
  where
    q : ℕ
    q = quoted_len xs

    f : ℕ
    f = further_len (drop (quoted_len xs) xs)

    go : (s t u : Bool) → eqb (quoted_len xs) 0 ≡ s
        → form_used (pick s (pick t Nothing (Bare (run bare xs))) (pick u (Quoted (quoted_len xs - 2)) (Listed (quoted_len xs + further_len (drop (quoted_len xs) xs))))) ≤ length xs
    go true true u e = omega arith
    go true false u e = within bare xs
    go false t true e = let h = quoted_has xs (eqb-false _ _ e) in omega (arith, quoted_is h, quoted_room h, h.inside)
    go false t false e = omega (arith, quoted_le xs, further_le 0 (drop (quoted_len xs) xs), length-drop (quoted_len xs) xs)
