-- Laws of reading text: a run without a backslash, an escape, a backslash that begins none, and what a loop through a value knows. Assumes nothing.
use mathlib.Core.Path.{◌≡◌, refl, sym, ap, ◌∙◌}
use mathlib.Core.Bool.{Bool, true, false, not}
use mathlib.Core.List.{List, [], ◌∷◌, ◌++◌}
use Prim.Native.Nat.{ℕ, zero, suc, ◌+◌, ◌≤◌, ◌<◌, zero-le, suc-le-suc}
use native.Mathlib.Nat.{zero-add, not-suc-le-zero, le_of_suc-le-suc, le_refl}
use native.Mathlib.Omega.{arith}
use lib.ListN.{length, get_or, take, drop}
use lib.Dec.{eqb}
use Rattle.octets.specs.Choice.{pick}
use Rattle.octets.specs.Bytes.{other}
use Rattle.octets.specs.Runs.{run}
use Rattle.escapes.specs.Text.{backslash, escapable, meant, fine, text_of}
use Rattle.escapes.specs.declared.Mode.{Mode}

-- ---- the front of a value

module _ (mode : Mode) where
  -- a byte that is no backslash
  pub fine_plain : (x : ℕ) (xs : List ℕ) → eqb x backslash ≡ false → fine mode (x ∷ xs) ≡ suc (fine mode xs)
  unfolding fine
  fine_plain x [] e = rw e
  fine_plain x (y ∷ ys) e = rw e

  -- an escape
  pub fine_escape : (xs : List ℕ) → escapable mode (get_or xs 0 0) ≡ true → 0 < length xs → fine mode (backslash ∷ xs) ≡ 2 + fine mode (drop 1 xs)
  unfolding fine
  fine_escape [] e h = absurd (not-suc-le-zero h)
  fine_escape (y ∷ ys) e h = rw e (omega arith)

  -- a backslash that begins none
  pub fine_bad : (xs : List ℕ) → escapable mode (get_or xs 0 0) ≡ false → fine mode (backslash ∷ xs) ≡ 0
  unfolding fine
  fine_bad [] e = refl
  fine_bad (y ∷ ys) e = rw e

  -- bytes without a backslash
  pub fine_run : (n : ℕ) (xs : List ℕ) → n ≤ run (other backslash) xs → fine mode xs ≡ n + fine mode (drop n xs)
  unfolding run
  fine_run zero xs h = sym (zero-add (fine mode xs))
  fine_run (suc n) [] h = absurd (not-suc-le-zero h)
  fine_run (suc n) (x ∷ xs) h = go (eqb x backslash) refl h (fine_run n xs)
    where
      go : (t : Bool) → eqb x backslash ≡ t → suc n ≤ pick (not t) (suc (run (other backslash) xs)) 0
          → (n ≤ run (other backslash) xs → fine mode xs ≡ n + fine mode (drop n xs)) → fine mode (x ∷ xs) ≡ suc n + fine mode (drop n xs)
      go true e h rest = absurd (not-suc-le-zero h)
      go false e h rest = fine_plain x xs e ∙ omega (arith, rest (le_of_suc-le-suc h))

pub text_plain : (x : ℕ) (xs : List ℕ) → eqb x backslash ≡ false → text_of (x ∷ xs) ≡ x ∷ text_of xs
unfolding text_of
text_plain x [] e = refl
text_plain x (y ∷ ys) e = rw e

pub text_escape : (xs : List ℕ) → 0 < length xs → text_of (backslash ∷ xs) ≡ meant (get_or xs 0 0) ∷ text_of (drop 1 xs)
unfolding text_of
text_escape [] h = absurd (not-suc-le-zero h)
text_escape (y ∷ ys) h = refl

-- the last byte is itself, a backslash too
pub text_last : (xs : List ℕ) → length xs ≤ 1 → text_of xs ≡ xs
unfolding text_of
text_last [] h = refl
text_last (x ∷ []) h = refl
text_last (x ∷ (y ∷ ys)) h = absurd (omega arith)

pub text_run : (n : ℕ) (xs : List ℕ) → n ≤ run (other backslash) xs → text_of xs ≡ take n xs ++ text_of (drop n xs)
unfolding run
text_run zero xs h = refl
text_run (suc n) [] h = absurd (not-suc-le-zero h)
text_run (suc n) (x ∷ xs) h = go (eqb x backslash) refl h (text_run n xs)
  where
    go : (t : Bool) → eqb x backslash ≡ t → suc n ≤ pick (not t) (suc (run (other backslash) xs)) 0
        → (n ≤ run (other backslash) xs → text_of xs ≡ take n xs ++ text_of (drop n xs)) → text_of (x ∷ xs) ≡ x ∷ (take n xs ++ text_of (drop n xs))
    go true e h rest = absurd (not-suc-le-zero h)
    go false e h rest = text_plain x xs e ∙ ap (◌∷◌ x) (rest (le_of_suc-le-suc h))

-- a text is no longer than its value
pub text_length : (xs : List ℕ) → length (text_of xs) ≤ length xs
unfolding text_of
text_length [] = zero-le
text_length (x ∷ []) = le_refl 1
text_length (x ∷ (y ∷ ys)) = go (eqb x backslash) (text_length ys) (text_length (y ∷ ys))
  where
    go : (t : Bool) → length (text_of ys) ≤ length ys → length (text_of (y ∷ ys)) ≤ suc (length ys)
        → length (pick t (meant y ∷ text_of ys) (x ∷ text_of (y ∷ ys))) ≤ suc (suc (length ys))
    go true h k = omega arith
    go false h k = suc-le-suc k

-- and no byte behind the end is fine
pub fine_length : (mode : Mode) (xs : List ℕ) → fine mode xs ≤ length xs
unfolding fine
fine_length mode [] = zero-le
fine_length mode (x ∷ []) = go (eqb x backslash)
  where
    go : (t : Bool) → pick t 0 1 ≤ 1
    go true = zero-le
    go false = le_refl 1
fine_length mode (x ∷ (y ∷ ys)) = go (eqb x backslash) (escapable mode y) (fine_length mode ys) (fine_length mode (y ∷ ys))
  where
    go : (t u : Bool) → fine mode ys ≤ length ys → fine mode (y ∷ ys) ≤ suc (length ys)
        → pick t (pick u (suc (suc (fine mode ys))) 0) (suc (fine mode (y ∷ ys))) ≤ suc (suc (length ys))
    go true true h k = omega arith
    go true false h k = zero-le
    go false u h k = suc-le-suc k

-- a value that is not empty stands for a text that is not
pub some_text : (xs : List ℕ) → 0 < length xs → 0 < length (text_of xs)
unfolding text_of
some_text [] h = absurd (not-suc-le-zero h)
some_text (x ∷ []) h = h
some_text (x ∷ (y ∷ ys)) h = go (eqb x backslash)
  where
    go : (t : Bool) → 0 < length (pick t (meant y ∷ text_of ys) (x ∷ text_of (y ∷ ys)))
    go true = suc-le-suc zero-le
    go false = suc-le-suc zero-le

-- a text that is as long as its value is the value
pub text_itself : (xs : List ℕ) → length (text_of xs) ≡ length xs → text_of xs ≡ xs
unfolding text_of
text_itself [] e = refl
text_itself (x ∷ []) e = refl
text_itself (x ∷ (y ∷ ys)) e = go (eqb x backslash) e (text_length ys) (text_itself (y ∷ ys))
  where
    go : (t : Bool) → length (pick t (meant y ∷ text_of ys) (x ∷ text_of (y ∷ ys))) ≡ suc (suc (length ys)) → length (text_of ys) ≤ length ys
        → (length (text_of (y ∷ ys)) ≡ suc (length ys) → text_of (y ∷ ys) ≡ y ∷ ys) → pick t (meant y ∷ text_of ys) (x ∷ text_of (y ∷ ys)) ≡ x ∷ (y ∷ ys)
    go true e h rest = absurd (omega arith)
    go false e h rest = ap (◌∷◌ x) (rest (omega arith))
