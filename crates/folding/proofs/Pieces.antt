-- Laws of the strict fold by its pieces: what they are joined to, where they are cut, and that no character is. Assumes nothing.
use mathlib.Core.Path.{◌≡◌, refl, sym, ap, ◌∙◌}
use mathlib.Core.Bool.{Bool, true, false}
use mathlib.Core.List.{List, [], ◌∷◌, ◌++◌, append_assoc, flatten, map}
use Prim.Native.Nat.{ℕ, zero, suc, ◌+◌, ◌-◌, ◌≤◌, ◌<◌, zero-le}
use native.Mathlib.Omega.{arith}
use lib.ListN.{length, take, drop, length-append, take-append-drop}
use lib.Dec.{leb}
use borrow.Author.Tests.{le-leb, lt-leb, leb-true, leb-false}
use Rattle.octets.specs.Choice.{pick}
use Rattle.octets.specs.All.{All}
use Rattle.octets.specs.Bytes.{space, ascii}
use Rattle.octets.specs.Runs.{only}
use Rattle.characters.specs.Units.{tails, units, fitting, last_start}
use Rattle.characters.proofs.Units.{units_none, units_front, units_flatten, by_units, unit_length, unit_small, fitting_most}
use Rattle.characters.specs.Utf8.{utf8_char}
use Rattle.characters.specs.Grammar.{Utf8, no_octet, a_char}
use Rattle.characters.proofs.Utf8.{utf8_exactly, utf8_units, ascii_units}
use Rattle.folding.specs.Pieces.{brk, behind_breaks, joined, physical, Within}
use Rattle.folding.specs.Strict.{first, later, left_for, folded_units, strict, onto, kept, packed, strict_pieces, CutAtStarts, bytewise, FullFrom, Full}

-- ---- by its pieces

joined_onto : (u : List ℕ) (ps : List (List ℕ)) → joined (onto u ps) ≡ u ++ joined ps
unfolding behind_breaks
joined_onto u [] = refl
joined_onto u (p ∷ ps) = append_assoc u p (behind_breaks ps)

broken_onto : (u : List ℕ) (ps : List (List ℕ)) → behind_breaks (onto u ps) ≡ brk ++ (u ++ joined ps)
unfolding behind_breaks
broken_onto u [] = refl
broken_onto u (p ∷ ps) = rw (append_assoc u)

flatten_onto : (u : List ℕ) (ps : List (List ℕ)) → flatten (onto u ps) ≡ u ++ flatten ps
unfolding flatten
flatten_onto u [] = refl
flatten_onto u (p ∷ ps) = append_assoc u p (flatten ps)

-- the units folded are their pieces joined
pub fold_joins : (left : ℕ) (us : List (List ℕ)) → folded_units left us ≡ joined (packed left us)
unfolding folded_units packed behind_breaks
fold_joins left [] = refl
fold_joins left (u ∷ us) = rw (fold_joins (left_for left u - length u) us) (by (leb (length u) left) (packed (left_for left u - length u) us))
  where
    by : (t : Bool) (ps : List (List ℕ)) → pick t [] brk ++ (u ++ joined ps) ≡ joined (kept t (onto u ps))
    by true ps = sym (joined_onto u ps)
    by false ps = sym (broken_onto u ps)

-- and the pieces in turn are the units in turn
pub pack_flatten : (left : ℕ) (us : List (List ℕ)) → flatten (packed left us) ≡ flatten us
unfolding flatten packed
pack_flatten left [] = refl
pack_flatten left (u ∷ us) = by (leb (length u) left) (packed (left_for left u - length u) us) (pack_flatten (left_for left u - length u) us)
  where
    by : (t : Bool) (ps : List (List ℕ)) → flatten ps ≡ flatten us → flatten (kept t (onto u ps)) ≡ u ++ flatten us
    by true ps e = flatten_onto u ps ∙ rw e
    by false ps e = flatten_onto u ps ∙ rw e

pub strict_joins : (line : List ℕ) → strict line ≡ joined (strict_pieces line)
strict_joins line = fold_joins first (units line)

pub strict_keeps : (line : List ℕ) → flatten (strict_pieces line) ≡ line
strict_keeps line = pack_flatten first (units line) ∙ units_flatten line

-- ---- where it is cut

-- there is always a piece
pieces_some : (left : ℕ) (us : List (List ℕ)) → 0 < length (packed left us)
unfolding packed
pieces_some left [] = omega arith
pieces_some left (u ∷ us) = by (leb (length u) left) (packed (left_for left u - length u) us)
  where
    by : (t : Bool) (qs : List (List ℕ)) → 0 < length (kept t (onto u qs))
    by true [] = omega arith
    by true (q ∷ qs) = omega arith
    by false qs = omega arith

-- a unit before what is cut so
module _ (u rest : List ℕ) (front : units (u ++ rest) ≡ u ∷ units rest) (small : length u ≤ 4) where
  front_start : (left : ℕ) → length u ≤ left → last_start left (u ++ rest) ≡ length u + last_start (left - length u) rest
  unfolding fitting
  front_start left h = rw (front, le-leb (length u) left h) refl

  no_start : (left : ℕ) → left < length u → last_start left (u ++ rest) ≡ 0
  unfolding fitting
  no_start left h = rw (front, lt-leb (length u) left h) refl

  onto_cut : (left : ℕ) → length u ≤ left → (ps : List (List ℕ)) → flatten ps ≡ rest → 0 < length ps
      → CutAtStarts (left - length u) ps → CutAtStarts left (onto u ps)
  unfolding CutAtStarts flatten
  onto_cut left h [] e some cut = absurd (omega arith)
  onto_cut left h (q ∷ qs) e some (here, cut) =
      let whole : flatten ((u ++ q) ∷ qs) ≡ u ++ rest = append_assoc u q (flatten qs) ∙ ap (λ (l : List ℕ). u ++ l) e in
      (length-append u q ∙ (ap (λ (k : ℕ). length u + k) (here ∙ ap (last_start (left - length u)) e) ∙ (sym (front_start left h) ∙ ap (last_start left) (sym whole))), cut)

  kept_cut : (left : ℕ) (ps : List (List ℕ)) → flatten ps ≡ rest → 0 < length ps
      → CutAtStarts (left_for left u - length u) ps → CutAtStarts left (kept (leb (length u) left) (onto u ps))
  unfolding CutAtStarts flatten
  kept_cut left ps e some = by (leb (length u) left) refl
    where
      by : (t : Bool) → leb (length u) left ≡ t → CutAtStarts (pick t left later - length u) ps → CutAtStarts left (kept t (onto u ps))
      by true t cut = onto_cut left (leb-true (length u) left t) ps e some cut
      by false t cut =
          let whole : flatten (onto u ps) ≡ u ++ rest = flatten_onto u ps ∙ ap (λ (l : List ℕ). u ++ l) e in
          (sym (ap (last_start left) whole ∙ no_start left (leb-false (length u) left t)), onto_cut later (omega arith) ps e some cut)

-- each piece ends at the last character start that its line takes
cut_at_starts : (xs : List ℕ) (left : ℕ) → CutAtStarts left (packed left (units xs))
unfolding CutAtStarts packed flatten fitting
cut_at_starts = by_units (λ (xs : List ℕ). (left : ℕ) → CutAtStarts left (packed left (units xs))) (λ left. rw units_none (rw units_none refl, tt)) step
  where
    step : (x : ℕ) (xs : List ℕ) → ((left : ℕ) → CutAtStarts left (packed left (units (drop (tails x xs) xs))))
        → (left : ℕ) → CutAtStarts left (packed left (units (x ∷ xs)))
    step x xs next left =
        let u = x ∷ take (tails x xs) xs in
        let rest = drop (tails x xs) xs in
        let whole : u ++ rest ≡ x ∷ xs = ap (λ (l : List ℕ). x ∷ l) (take-append-drop (tails x xs) xs) in
        let small : length u ≤ 4 = omega (arith, unit_length x xs, unit_small x xs) in
        let front : units (u ++ rest) ≡ u ∷ units rest = rw whole (units_front x xs) in
        let inner = left_for left u - length u in
        rw (units_front x xs)
        (kept_cut u rest front small left (packed inner (units rest)) (pack_flatten inner (units rest) ∙ units_flatten rest) (pieces_some inner (units rest)) (next inner))

pub strict_cuts : (line : List ℕ) → CutAtStarts first (strict_pieces line)
strict_cuts line = cut_at_starts line first

-- so no physical line has more than 75 octets without its break (RFC 5545, section 3.1)
later_within : (ps : List (List ℕ)) → CutAtStarts later ps → Within 75 (map (λ (p : List ℕ). space ∷ p) ps)
unfolding CutAtStarts All
later_within [] cut = tt
later_within (p ∷ ps) (here, cut) = (omega (arith, here, fitting_most later (units (flatten (p ∷ ps)))), later_within ps cut)

cut_within : (ps : List (List ℕ)) → CutAtStarts first ps → Within 75 (physical ps)
unfolding CutAtStarts All
cut_within [] cut = tt
cut_within (p ∷ ps) (here, cut) = (omega (arith, here, fitting_most first (units (flatten (p ∷ ps)))), later_within ps cut)

pub strict_within : (line : List ℕ) → Within 75 (physical (strict_pieces line))
strict_within line = cut_within (strict_pieces line) (strict_cuts line)

-- ---- lines of UTF-8: no character is cut

onto_whole : (u : List ℕ) → utf8_char u ≡ true → (ps : List (List ℕ)) → 0 < length ps → All Utf8 ps → All Utf8 (onto u ps)
unfolding All
onto_whole u e [] some all = absurd (omega arith)
onto_whole u e (p ∷ ps) some (here, all) = (a_char u e here, all)

whole_pieces : (left : ℕ) (us : List (List ℕ)) → All (λ (u : List ℕ). utf8_char u ≡ true) us → All Utf8 (packed left us)
unfolding packed All
whole_pieces left [] all = (no_octet, tt)
whole_pieces left (u ∷ us) (here, all) =
    let inner = left_for left u - length u in
    by (leb (length u) left) (onto u (packed inner us)) (onto_whole u here (packed inner us) (pieces_some inner us) (whole_pieces inner us all))
  where
    by : (t : Bool) (ps : List (List ℕ)) → All Utf8 ps → All Utf8 (kept t ps)
    by true ps all = all
    by false ps all = (no_octet, all)

pub strict_whole : (line : List ℕ) → Utf8 line → All Utf8 (strict_pieces line)
strict_whole line g = whole_pieces first (units line) (utf8_units line ((utf8_exactly line).1 g))

-- ---- lines of ASCII

abbrev singles : List ℕ → List (List ℕ)
singles xs = map (λ (x : ℕ). x ∷ []) xs

fits : (l : ℕ) → leb 1 (suc l) ≡ true
fits l = le-leb 1 (suc l) (omega arith)

less : (l x : ℕ) → left_for (suc l) (x ∷ []) - 1 ≡ l
less l x = rw (fits l) (omega arith)

filled_onto : (x l : ℕ) (ps : List (List ℕ)) → Full l ps → Full (suc l) (onto (x ∷ []) ps)
unfolding FullFrom
filled_onto x l [] f = absurd f
filled_onto x l (p ∷ []) h = omega arith
filled_onto x l (p ∷ (q ∷ ps)) (h, f) = (ap suc h, f)

filled_new : (x : ℕ) (ps : List (List ℕ)) → Full later (onto (x ∷ []) ps) → Full 0 ([] ∷ onto (x ∷ []) ps)
unfolding FullFrom
filled_new x [] f = (refl, (omega arith, f))
filled_new x (p ∷ ps) f = (refl, (omega arith, f))

pack_fills : (left : ℕ) (xs : List ℕ) → Full left (packed left (singles xs))
unfolding packed FullFrom
pack_fills left [] = zero-le
pack_fills zero (x ∷ xs) = filled_new x (packed (later - 1) (singles xs)) (filled_onto x (later - 1) (packed (later - 1) (singles xs)) (pack_fills (later - 1) xs))
pack_fills (suc l) (x ∷ xs) = rw (less l x, fits l) (filled_onto x l (packed l (singles xs)) (pack_fills l xs))

-- a line of ASCII folds byte by byte, as in document 01
pub strict_bytewise : (line : List ℕ) → only ascii line ≡ true → strict line ≡ bytewise line
strict_bytewise line e = ap (folded_units first) (ascii_units line e)

pub strict_fills : (line : List ℕ) → only ascii line ≡ true → Full first (strict_pieces line)
strict_fills line e = rw (ascii_units line e) (pack_fills first line)
