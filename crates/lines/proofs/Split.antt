-- Laws of the lines of a text. Assumes nothing.
use mathlib.Core.Path.{◌≡◌, refl, ap, ◌∙◌}
use mathlib.Core.Bool.{Bool, true, false, ◌&&◌}
use mathlib.Core.List.{List, [], ◌∷◌}
use Prim.Native.Nat.{ℕ, zero, suc, ◌+◌, ◌-◌, ◌≤◌, ◌<◌}
use native.Mathlib.Nat.{add-zero, not-suc-le-zero, le_of_suc-le-suc}
use native.Mathlib.Omega.{arith}
use lib.ListN.{length, get_or, drop, drop_of_length-le, length-drop}
use lib.Seq.{drop-drop, get_or-drop}
use lib.Dec.{ltb, eqb}
use borrow.Author.Tests.{ltb-true, ltb-false, lt-ltb, le-ltb, eq-eqb, ne_eqb, eqb-true, not-false}
use Rattle.octets.specs.Choice.{pick}
use Rattle.octets.specs.Bytes.{lf, cr, other}
use Rattle.octets.proofs.Runs.{within, stopped}
use Rattle.lines.specs.declared.Extent.{Extent}
use Rattle.lines.specs.Split.{to_break, content_len, line_len, extent_of, placed, Placed, lines_after, lines_from}

-- past what belongs to a line that has begun
pub skipped : (k : ℕ) (xs : List ℕ) (at : ℕ) → k ≤ length xs → lines_after at k xs ≡ lines_after (at + k) 0 (drop k xs)
unfolding lines_after
skipped zero xs at h = rw add-zero
skipped (suc k) [] at h = absurd (not-suc-le-zero h)
skipped (suc k) (x ∷ xs) at h = skipped k xs (at + 1) (le_of_suc-le-suc h) ∙ ap (λ (n : ℕ). lines_after n 0 (drop k xs)) (omega arith)

-- a line has at least one byte, with its break, and no more than there are
pub line_some : (xs : List ℕ) → 0 < length xs → 1 ≤ line_len xs
line_some xs h = go (ltb (to_break xs) (length xs)) refl
  where
    go : (t : Bool) → ltb (to_break xs) (length xs) ≡ t → 1 ≤ pick t (to_break xs + 1) (to_break xs)
    go true e = omega arith
    go false e = omega (arith, ltb-false (to_break xs) (length xs) e)

pub line_within : (xs : List ℕ) → line_len xs ≤ length xs
line_within xs = go (ltb (to_break xs) (length xs)) refl
  where
    go : (t : Bool) → ltb (to_break xs) (length xs) ≡ t → pick t (to_break xs + 1) (to_break xs) ≤ length xs
    go true e = omega (arith, ltb-true (to_break xs) (length xs) e)
    go false e = within (other lf) xs

-- the content is no longer than the line
pub content_within : (xs : List ℕ) → content_len xs ≤ line_len xs
content_within xs = go (ltb (to_break xs) (length xs)) (eqb (get_or xs (to_break xs - 1) 0) cr)
  where
    go : (t u : Bool) → pick (t && u) (to_break xs - 1) (to_break xs) ≤ pick t (to_break xs + 1) (to_break xs)
    go true true = omega arith
    go true false = omega arith
    go false u = omega arith

-- one line, and then those behind it
behind : (n x : ℕ) (xs : List ℕ) (at : ℕ) → 1 ≤ n → n ≤ length (x ∷ xs) → lines_after (at + 1) (n - 1) xs ≡ lines_after (at + n) 0 (drop n (x ∷ xs))
behind zero x xs at h k = absurd (not-suc-le-zero h)
behind (suc n) x xs at h k =
    ap (λ (m : ℕ). lines_after (at + 1) m xs) (omega arith)
    ∙ skipped n xs (at + 1) (le_of_suc-le-suc k)
    ∙ ap (λ (m : ℕ). lines_after m 0 (drop n xs)) (omega arith)

pub first_line : (ys : List ℕ) (at : ℕ) → 0 < length ys → lines_after at 0 ys ≡ placed at ys ∷ lines_after (at + line_len ys) 0 (drop (line_len ys) ys)
unfolding lines_after
first_line [] at h = absurd (not-suc-le-zero h)
first_line (x ∷ xs) at h =
    ap (λ (ls : List Placed). placed at (x ∷ xs) ∷ ls) (behind (line_len (x ∷ xs)) x xs at (line_some (x ∷ xs) h) (line_within (x ∷ xs)))

pub turn : (text : List ℕ) (at : ℕ) → at < length text
    → lines_from at text ≡ placed at (drop at text) ∷ lines_from (at + line_len (drop at text)) text
turn text at h =
    first_line (drop at text) at (rw length-drop (omega arith))
    ∙ ap (λ (ys : List ℕ). placed at (drop at text) ∷ lines_after (at + line_len (drop at text)) 0 ys) (drop-drop (line_len (drop at text)) at text)

pub ended : (text : List ℕ) (at : ℕ) → length text ≤ at → lines_from at text ≡ []
unfolding lines_after
ended text at h = rw (drop_of_length-le text h)

-- ---- what `line_at` finds, with `end` at the first LF behind `at`

abbrev extent : ℕ → ℕ → Extent
extent len next = record { len = len; next = next }

pub no_break : (at : ℕ) (xs : List ℕ) (end : ℕ) → end ≡ at + to_break xs → length xs ≤ to_break xs → extent (end - at) end ≡ extent_of at xs
no_break at xs end e h =
    let l : end - at ≡ to_break xs = omega arith in
    rw (le-ltb (to_break xs) (length xs) h, l, e)

pub cr_break : (at : ℕ) (xs : List ℕ) (end : ℕ) → end ≡ at + to_break xs → to_break xs < length xs → get_or xs (to_break xs - 1) 0 ≡ cr
    → extent (end - 1 - at) (end + 1) ≡ extent_of at xs
cr_break at xs end e h b =
    let l : end - 1 - at ≡ to_break xs - 1 = omega arith in
    let n : end + 1 ≡ at + (to_break xs + 1) = omega arith in
    rw (lt-ltb (to_break xs) (length xs) h, eq-eqb (get_or xs (to_break xs - 1) 0) cr b, l, n)

pub lf_break : (at : ℕ) (xs : List ℕ) (end : ℕ) → end ≡ at + to_break xs → to_break xs < length xs → (get_or xs (to_break xs - 1) 0 ≡ cr → ⊥)
    → extent (end - at) (end + 1) ≡ extent_of at xs
lf_break at xs end e h b =
    let l : end - at ≡ to_break xs = omega arith in
    let n : end + 1 ≡ at + (to_break xs + 1) = omega arith in
    rw (lt-ltb (to_break xs) (length xs) h, ne_eqb (get_or xs (to_break xs - 1) 0) cr b, l, n)

-- an empty line has no byte before its break, and at its start stands the LF
pub empty_line : (at : ℕ) (xs : List ℕ) (end : ℕ) → end ≡ at + to_break xs → to_break xs < length xs → end ≡ at → extent (end - at) (end + 1) ≡ extent_of at xs
empty_line at xs end e h z =
    let n : to_break xs ≡ 0 = omega arith in
    let b : get_or xs (to_break xs) 0 ≡ lf = eqb-true (get_or xs (to_break xs) 0) lf (not-false _ (stopped (other lf) xs h)) in
    let p : to_break xs - 1 ≡ to_break xs = omega arith in
    lf_break at xs end e h (λ q. no_cr (get_or xs (to_break xs) 0) b (rw p at q))
  where
    no_cr : (x : ℕ) → x ≡ lf → x ≡ cr → ⊥
    no_cr x p q = omega arith

-- the byte before the break, seen from the whole text
pub before_break : (text : List ℕ) (at n end : ℕ) → end ≡ at + n → 0 < n → get_or (drop at text) (n - 1) 0 ≡ get_or text (end - 1) 0
before_break text at n end e h = get_or-drop at text (n - 1) 0 ∙ ap (λ (k : ℕ). get_or text k 0) (omega arith)
