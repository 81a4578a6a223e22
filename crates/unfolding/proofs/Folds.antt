-- Laws of the bytes before the first fold. Assumes nothing.
use mathlib.Core.Path.{◌≡◌, refl, sym, ap, ◌∙◌}
use mathlib.Core.Bool.{Bool, true, false, not, ◌&&◌, and-false, false≢true}
use mathlib.Core.List.{List, [], ◌∷◌}
use Prim.Native.Nat.{ℕ, zero, suc, ◌+◌, ◌≤◌, ◌<◌, zero-le, suc-le-suc}
use native.Mathlib.Nat.{zero-add, add-zero, not-suc-le-zero, le_of_suc-le-suc}
use native.Mathlib.Numerals.{add-one}
use native.Mathlib.Omega.{arith}
use lib.ListN.{length, get_or, drop}
use lib.Seq.{drop-cons, drop-drop, get_or-drop}
use lib.Dec.{eqb, ltb}
use lib.Bits.{bit_or}
use mir.Val.{bool_byte}
use borrow.Author.Tests.{eqb-true, lt-ltb, le-ltb}
use Rattle.octets.specs.Choice.{pick}
use Rattle.octets.specs.Bytes.{blank, lf, other}
use Rattle.octets.specs.Runs.{run}
use Rattle.octets.proofs.Hits.{onward}
use Rattle.unfolding.specs.Folds.{is_fold, to_fold}

-- a fold stands at the front
abbrev pub breaks : List ℕ → Bool
breaks xs = is_fold (get_or xs 0 0) (get_or xs 1 0)

-- ---- one byte: at a fold the count ends, before any other byte it goes on

module _ (xs : List ℕ) (i : ℕ) where
  turn : i < length xs → to_fold (drop i xs) ≡ pick (is_fold (get_or xs i 0) (get_or xs (i + 1) 0)) 0 (suc (to_fold (drop (i + 1) xs)))
  unfolding to_fold
  turn h =
      let b : get_or xs (i + 1) 0 ≡ get_or (drop (i + 1) xs) 0 0 = sym (get_or-drop (i + 1) xs 0 0 ∙ rw add-zero) in
      rw (b, add-one, drop-cons xs i 0 h)

  pub on : i < length xs → is_fold (get_or xs i 0) (get_or xs (i + 1) 0) ≡ false → to_fold (drop i xs) ≡ suc (to_fold (drop (i + 1) xs))
  on h e = turn h ∙ rw e

  pub stop : i < length xs → is_fold (get_or xs i 0) (get_or xs (i + 1) 0) ≡ true → to_fold (drop i xs) ≡ 0
  stop h e = turn h ∙ rw e

-- before the first fold there is none
pub ahead : (n x : ℕ) (xs : List ℕ) → suc n ≤ to_fold (x ∷ xs) → (is_fold x (get_or xs 0 0) ≡ false) × (n ≤ to_fold xs)
unfolding to_fold
ahead n x xs h = go (is_fold x (get_or xs 0 0)) refl h
  where
    go : (t : Bool) → is_fold x (get_or xs 0 0) ≡ t → suc n ≤ pick t 0 (suc (to_fold xs)) → (is_fold x (get_or xs 0 0) ≡ false) × (n ≤ to_fold xs)
    go true e h = absurd (not-suc-le-zero h)
    go false e h = (e, le_of_suc-le-suc h)

pub none : (n : ℕ) → suc n ≤ to_fold [] → ⊥
unfolding to_fold
none n h = not-suc-le-zero h

-- ---- the whole count

pub within : (xs : List ℕ) → to_fold xs ≤ length xs
unfolding to_fold
within [] = zero-le
within (x ∷ xs) = go (is_fold x (get_or xs 0 0)) (within xs)
  where
    go : (t : Bool) → to_fold xs ≤ length xs → pick t 0 (suc (to_fold xs)) ≤ suc (length xs)
    go true h = zero-le
    go false h = suc-le-suc h

-- it ends at a fold
pub stopped : (xs : List ℕ) → to_fold xs < length xs → breaks (drop (to_fold xs) xs) ≡ true
unfolding to_fold
stopped [] h = absurd (not-suc-le-zero h)
stopped (x ∷ xs) h = go (is_fold x (get_or xs 0 0)) refl h (stopped xs)
  where
    go : (t : Bool) → is_fold x (get_or xs 0 0) ≡ t → pick t 0 (suc (to_fold xs)) < suc (length xs)
        → (to_fold xs < length xs → breaks (drop (to_fold xs) xs) ≡ true)
        → breaks (drop (pick t 0 (suc (to_fold xs))) (x ∷ xs)) ≡ true
    go true e h rest = e
    go false e h rest = rest (le_of_suc-le-suc h)

-- a fold is an LF and a blank
pub shape : (xs : List ℕ) → breaks xs ≡ true → (b : ℕ) × ((xs ≡ lf ∷ b ∷ drop 2 xs) × (blank b ≡ true))
shape [] e = absurd (false≢true e)
shape (x ∷ []) e = absurd (false≢true (sym (and-false (eqb x lf)) ∙ e))
shape (x ∷ y ∷ xs) e = go (eqb x lf) refl e
  where
    go : (t : Bool) → eqb x lf ≡ t → t && blank y ≡ true → (b : ℕ) × ((x ∷ y ∷ xs ≡ lf ∷ b ∷ xs) × (blank b ≡ true))
    go true l b = (y, (ap (λ (z : ℕ). z ∷ y ∷ xs) (eqb-true x lf l), b))
    go false l b = absurd (false≢true b)

-- what stands before the first fold is passed over
part : (n : ℕ) (xs : List ℕ) → n ≤ to_fold xs → n + to_fold (drop n xs) ≡ to_fold xs
unfolding to_fold
part zero xs h = zero-add (to_fold xs)
part (suc n) [] h = absurd (none n h)
part (suc n) (x ∷ xs) h = let w = ahead n x xs h in rw w.0 (omega (arith, part n xs w.1))

pub passed : (xs : List ℕ) (i n : ℕ) → n ≤ to_fold (drop i xs) → n + to_fold (drop (i + n) xs) ≡ to_fold (drop i xs)
passed xs i n h = ap (λ (ys : List ℕ). n + to_fold ys) (sym (drop-drop n i xs)) ∙ part n (drop i xs) h

-- no fold stands before the first LF
pub before_break : (xs : List ℕ) → run (other lf) xs ≤ to_fold xs
unfolding to_fold run
before_break [] = zero-le
before_break (x ∷ xs) = go (eqb x lf) refl (before_break xs)
  where
    go : (t : Bool) → eqb x lf ≡ t → run (other lf) xs ≤ to_fold xs → pick (not t) (suc (run (other lf) xs)) 0 ≤ to_fold (x ∷ xs)
    go true l ih = zero-le
    go false l ih = rw l (suc-le-suc ih)

-- so the first fold from a place on is the first one from the LF on that comes next
pub to_break_holds : (xs : List ℕ) (i end : ℕ) → end ≡ i + run (other lf) (drop i xs) → i + to_fold (drop i xs) ≡ end + to_fold (drop end xs)
to_break_holds xs i end e =
    rw e (omega (arith, passed xs i (run (other lf) (drop i xs)) (before_break (drop i xs))))

-- the last byte begins none
pub at_last : (xs : List ℕ) → length xs ≤ 1 → to_fold xs ≡ length xs
unfolding to_fold
at_last [] h = refl
at_last (x ∷ []) h = rw (and-false (eqb x lf))
at_last (x ∷ y ∷ xs) h = absurd (omega arith)

-- ---- a loop over a block, with a byte that is 1 once a fold was seen

-- where no fold stands before j, the first one stands there exactly where the bytes are one
ends : (feed : List ℕ) (at j : ℕ) → at + j < length feed → j ≤ to_fold (drop at feed)
    → is_fold (get_or feed (at + j) 0) (get_or feed (at + j + 1) 0) ≡ ltb (to_fold (drop at feed)) (j + 1)
ends feed at j h k = go (is_fold (get_or feed (at + j) 0) (get_or feed (at + j + 1) 0)) refl
  where
    r : j + to_fold (drop (at + j) feed) ≡ to_fold (drop at feed)
    r = passed feed at j k

    go : (t : Bool) → is_fold (get_or feed (at + j) 0) (get_or feed (at + j + 1) 0) ≡ t → t ≡ ltb (to_fold (drop at feed)) (j + 1)
    go true e = sym (lt-ltb (to_fold (drop at feed)) (j + 1) (omega (arith, r, stop feed (at + j) h e)))
    go false e = sym (le-ltb (to_fold (drop at feed)) (j + 1) (omega (arith, r, on feed (at + j) h e)))

pub fold_more : (feed : List ℕ) (at j : ℕ) → at + j < length feed → {hit : ℕ} → hit ≡ bool_byte (ltb (to_fold (drop at feed)) j)
    → bit_or hit (bool_byte (is_fold (get_or feed (at + j) 0) (get_or feed (at + j + 1) 0))) ≡ bool_byte (ltb (to_fold (drop at feed)) (j + 1))
fold_more feed at j h e =
    rw e (onward (to_fold (drop at feed)) j (is_fold (get_or feed (at + j) 0) (get_or feed (at + j + 1) 0)) (λ k. ends feed at j h k))
