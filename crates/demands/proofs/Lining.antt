-- Trees that are written are lines, and unfolding and splitting what was written gives these lines again (document 01, demand 2).
-- Assumes nothing.
use mathlib.Core.Path.{◌≡◌, refl, sym, ap, ◌∙◌}
use mathlib.Core.Bool.{true, false}
use mathlib.Core.List.{List, [], ◌∷◌, ◌++◌, map, flatten, append_assoc}
use Prim.Native.Nat.{ℕ, ◌+◌, ◌-◌, ◌≤◌, zero-le}
use native.Mathlib.Omega.{arith}
use lib.ListN.{length, get_or, take, length-append}
use lib.Seq.{take-append_seam, drop-append-add, drop_at, get_or-append_seam}
use borrow.Author.Tests.{lt-ltb, le-leb, eq-eqb}
use Rattle.octets.specs.Bytes.{cr, lf, blank, other}
use Rattle.octets.specs.Runs.{run}
use Rattle.octets.specs.All.{All}
use Rattle.octets.proofs.Bools.{both}
use Rattle.octets.proofs.Runs.{through, whole_wider, all_of}
use Rattle.unfolding.specs.Unfold.{unfolded, unfolded_after}
use Rattle.unfolding.proofs.Laws.{Unbroken, line}
use Rattle.characters.specs.Units.{tails, units}
use Rattle.characters.proofs.Units.{units_front, unit_length, unit_small, units_flatten}
use Rattle.folding.specs.Strict.{first, break_for, left_for, folded_units, strict}
use Rattle.lines.specs.Split.{to_break, content_len, line_len, lines_after, lines_from}
use Rattle.lines.proofs.Split.{first_line}
use Rattle.tables.specs.Trees.{Property, Trees, none, tree}
use Rattle.writable.specs.WritingRule.{no_break}
use Rattle.printing.specs.Lines.{closed_line, begin_line, end_line, property_line, property_lines, written}
use Rattle.demands.specs.Returning.{lines_of, folded_lines, plain_lines, placed_from, Plain}
use Rattle.demands.proofs.Folds.{strict_unfolds}

-- ---- what is written is lines, folded

-- lines in two parts are written one part after the other
folded_both : (ls ms : List (List ℕ)) → folded_lines (ls ++ ms) ≡ folded_lines ls ++ folded_lines ms
unfolding folded_lines
folded_both [] ms = refl
folded_both (l ∷ ls) ms = ap (◌++◌ (closed_line l)) (folded_both ls ms) ∙ sym (append_assoc (closed_line l) (folded_lines ls) (folded_lines ms))

property_lines_holds : (ps : List Property) → property_lines ps ≡ folded_lines (map property_line ps)
unfolding property_lines folded_lines
property_lines_holds [] = refl
property_lines_holds (p ∷ ps) = ap (◌++◌ (closed_line (property_line p))) (property_lines_holds ps)

-- the bytes of trees are those of their lines, each folded and closed
pub written_lines : (ts : Trees) → written ts ≡ folded_lines (lines_of ts)
unfolding written lines_of folded_lines
written_lines none = refl
written_lines (tree name properties children rest) =
    rw (property_lines_holds properties, written_lines children, written_lines rest)
    (ap (◌++◌ (closed_line (begin_line name))) (sym
    (folded_both (map property_line properties) (lines_of children ++ (end_line name ∷ lines_of rest))
    ∙ ap (◌++◌ (folded_lines (map property_line properties))) (folded_both (lines_of children) (end_line name ∷ lines_of rest)))))

-- ---- unfolding

-- a plain line has no LF
no_lf : (x : ℕ) → no_break x ≡ true → other lf x ≡ true
no_lf x h = (both (other cr x) _ h).1

unbroken_line : {l : List ℕ} → Plain l → Unbroken l
unbroken_line {l} p = whole_wider no_break (other lf) no_lf l (all_of no_break l p.whole)

-- folded or not, a line begins with its first byte, whose character fits
front_kept : (x : ℕ) (l : List ℕ) (rest : List ℕ) → get_or (closed_line (x ∷ l) ++ rest) 0 0 ≡ x
unfolding folded_units
front_kept x l rest = rw (units_front x l, le-leb (length (x ∷ take (tails x l) l)) first (omega (arith, unit_length x l, unit_small x l))) refl

-- so no blank follows a break
no_blank : (ls : List (List ℕ)) → All Plain ls → blank (get_or (folded_lines ls) 0 0) ≡ false
unfolding folded_lines All
no_blank [] all = refl
no_blank ([] ∷ ls) (p, all) = absurd (omega (arith, p.some))
no_blank ((x ∷ l) ∷ ls) (p, all) = rw (front_kept x l (folded_lines ls)) p.front

-- unfolding takes every fold out, and leaves every break between two lines
pub unfolds : (ls : List (List ℕ)) → All Plain ls → unfolded (folded_lines ls) ≡ plain_lines ls
unfolding folded_lines plain_lines All unfolded_after
unfolds [] all = refl
unfolds (l ∷ ls) (p, all) =
    ap unfolded (append_assoc (strict l) (cr ∷ lf ∷ []) (folded_lines ls))
    ∙ line (strict l) (folded_lines ls) (no_blank ls all)
    ∙ rw (strict_unfolds l (unbroken_line p), unfolds ls all)

-- ---- splitting

-- a line with its break, in front of others
module _ (l rest : List ℕ) (p : Plain l) where
  abbrev whole : List ℕ
  whole = l ++ cr ∷ lf ∷ rest

  -- the first LF is that of its break, and the CR before it belongs to the break
  to_break_holds : to_break whole ≡ length l + 1
  unfolding run
  to_break_holds = through (other lf) l (cr ∷ lf ∷ rest) (unbroken_line p)

  long : to_break whole + 1 ≤ length whole
  long = omega (arith, to_break_holds, length-append l (cr ∷ lf ∷ rest))

  content_is : content_len whole ≡ length l
  content_is =
      let n : length l + 1 - 1 ≡ length l = omega arith in
      rw (lt-ltb (to_break whole) (length whole) (omega (arith, long)), to_break_holds, n, eq-eqb (get_or whole (length l) 0) cr (get_or-append_seam l cr (lf ∷ rest) 0))

  line_is : line_len whole ≡ length l + 2
  line_is =
      let n : length l + 1 + 1 ≡ length l + 2 = omega arith in
      rw (lt-ltb (to_break whole) (length whole) (omega (arith, long)), to_break_holds, n)

-- so each line is found with its own bytes, at its own place
lines_after_holds : (at : ℕ) (ls : List (List ℕ)) → All Plain ls → lines_after at 0 (plain_lines ls) ≡ placed_from at ls
unfolding plain_lines placed_from All lines_after
lines_after_holds at [] all = refl
lines_after_holds at (l ∷ ls) (p, all) =
    let rest = plain_lines ls in
    let n : at + (length l + 2) ≡ at + length l + 2 = omega arith in
    first_line (l ++ cr ∷ lf ∷ rest) at (omega (arith, length-append l (cr ∷ lf ∷ rest)))
    ∙ rw (content_is l rest p, line_is l rest p, take-append_seam l (cr ∷ lf ∷ rest), drop-append-add l (cr ∷ lf ∷ rest) 2, n, lines_after_holds (at + length l + 2) ls all)

-- the lines of a text from a place on, whatever stands before it
pub splits : (at : ℕ) (before : List ℕ) (ls : List (List ℕ)) → All Plain ls → length before ≡ at → lines_from at (before ++ plain_lines ls) ≡ placed_from at ls
splits at before ls all e = rw (drop_at before (plain_lines ls) at e) (lines_after_holds at ls all)

-- and those of a whole text
pub splits_all : (ls : List (List ℕ)) → All Plain ls → lines_from 0 (plain_lines ls) ≡ placed_from 0 ls
splits_all ls all = lines_after_holds 0 ls all

-- ---- folding makes nothing shorter

units_longer : (left : ℕ) (us : List (List ℕ)) → length (flatten us) ≤ length (folded_units left us)
unfolding flatten folded_units
units_longer left [] = zero-le
units_longer left (u ∷ us) =
    let r = folded_units (left_for left u - length u) us in
    omega (arith, length-append (break_for left u) (u ++ r), length-append u r, length-append u (flatten us), units_longer (left_for left u - length u) us)

folded_longer : (line : List ℕ) → length line ≤ length (strict line)
folded_longer line = rw (units_flatten line) at (units_longer first (units line))

-- the lines take no more bytes than what was written
pub shorter : (ls : List (List ℕ)) → length (plain_lines ls) ≤ length (folded_lines ls)
unfolding plain_lines folded_lines
shorter [] = zero-le
shorter (l ∷ ls) =
    omega (
      arith,
      length-append l (cr ∷ lf ∷ plain_lines ls),
      length-append (closed_line l) (folded_lines ls),
      length-append (strict l) (cr ∷ lf ∷ []),
      folded_longer l,
      shorter ls,
    )
