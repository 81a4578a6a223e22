-- Unfolding undoes both folds, on every line without LF and on whatever the public calls write; the strict fold keeps to 75 octets.
-- Assumes nothing.
use mathlib.Core.Path.{◌≡◌, refl, ap, ◌∙◌}
use mathlib.Core.Bool.{Bool, true, false}
use mathlib.Core.List.{List, [], ◌∷◌, ◌++◌, append-nil, flatten}
use Prim.Native.Nat.{ℕ, ◌≤◌}
use native.Mathlib.Omega.{arith}
use lib.ListN.{length, length-append}
use lib.Seq.{take-append_seam}
use lib.Dec.{eqb, leb}
use borrow.Author.Tests.{le-leb, lt-leb, leb-true, leb-false, eqb-true, eqb-false}
use Rattle.octets.specs.Choice.{pick}
use Rattle.octets.specs.Bytes.{lf, space, other, ascii}
use Rattle.octets.specs.All.{All}
use Rattle.octets.specs.Runs.{run, only}
use Rattle.octets.specs.Answers.{longest, done, too_long, has_break, no_out_room, not_utf8, output, room_answer, out_after}
use Rattle.octets.specs.declared.Output.{Output}
use Rattle.octets.proofs.Runs.{within, through, whole_take}
use Rattle.unfolding.specs.Unfold.{unfolded, unfolded_after}
use Rattle.unfolding.proofs.Laws.{Unbroken, unbroken, piece}
use Rattle.folding.specs.Pieces.{behind_breaks, joined, physical, Within}
use Rattle.characters.specs.Utf8.{utf8_run}
use Rattle.characters.specs.Grammar.{Utf8, IllFormedAt}
use Rattle.characters.proofs.Utf8.{ill_formed_there, ill_formed_once}
use Rattle.folding.specs.Strict.{first, strict, strict_pieces, CutAtStarts, bytewise, Full}
use Rattle.folding.specs.Repository.{repository, repository_pieces}
use Rattle.folding.specs.Answers.{line_answer, strict_line, repository_line, fold_answer, fold_out}
use Rattle.folding.proofs.Strict.{strict_short}
use Rattle.folding.proofs.Pieces.{strict_joins, strict_keeps, strict_cuts, strict_whole, strict_bytewise, strict_fills, strict_within}
use Rattle.folding.proofs.Repository.{repository_joins, repository_keeps, repository_short}
use Rattle.demands.specs.Outputs.{told_bytes}
use Rattle.demands.proofs.Outputs.{at_front}

-- ---- parts of a line without LF have none

unbroken_left : (xs ys : List ℕ) → Unbroken (xs ++ ys) → Unbroken xs
unbroken_left xs ys w = rw (take-append_seam xs ys) at (whole_take (other lf) (length xs) (xs ++ ys) w)

unbroken_right : (xs ys : List ℕ) → Unbroken (xs ++ ys) → Unbroken ys
unbroken_right xs ys w = omega (arith, through (other lf) xs ys (unbroken_left xs ys w), length-append xs ys)

-- ---- pieces joined by breaks unfold to the pieces in turn

from_piece : (p : List ℕ) (ps : List (List ℕ)) → Unbroken (p ++ flatten ps) → unfolded (p ++ behind_breaks ps) ≡ p ++ flatten ps
unfolding behind_breaks flatten
from_piece p [] w = rw append-nil (unbroken p (unbroken_left p [] w))
from_piece p (q ∷ qs) w =
    piece p space (q ++ behind_breaks qs) (unbroken_left p (q ++ flatten qs) w) refl
    ∙ ap (λ (xs : List ℕ). p ++ xs) (from_piece q qs (unbroken_right p (q ++ flatten qs) w))

pub pieces_unfold : (ps : List (List ℕ)) → Unbroken (flatten ps) → unfolded (joined ps) ≡ flatten ps
unfolding flatten unfolded_after
pieces_unfold [] w = refl
pieces_unfold (p ∷ ps) w = from_piece p ps w

module _ {line folded : List ℕ} (ps : List (List ℕ)) (joins : folded ≡ joined ps) (keeps : flatten ps ≡ line) where
  gives_back : Unbroken line → unfolded folded ≡ line
  gives_back w = rw joins (pieces_unfold ps (rw keeps w) ∙ keeps)

-- ---- both folds

module _ (line : List ℕ) where
  pub strict_unfolds : Unbroken line → unfolded (strict line) ≡ line
  strict_unfolds = gives_back (strict_pieces line) (strict_joins line) (strict_keeps line)

  pub repository_unfolds : Unbroken line → unfolded (repository line) ≡ line
  repository_unfolds = gives_back (repository_pieces line) (repository_joins line) (repository_keeps line)

  -- the pieces of each stand joined by breaks, and have the bytes of the line in turn: nothing but breaks is added, and nothing is lost
  pub strict_adds_breaks : (strict line ≡ joined (strict_pieces line)) × (flatten (strict_pieces line) ≡ line)
  strict_adds_breaks = (strict_joins line, strict_keeps line)

  pub repository_adds_breaks : (repository line ≡ joined (repository_pieces line)) × (flatten (repository_pieces line) ≡ line)
  repository_adds_breaks = (repository_joins line, repository_keeps line)

  -- RFC 5545, section 3.1: no physical line of the strict fold has more than 75 octets without its break
  pub strict_75 : Within 75 (physical (strict_pieces line))
  strict_75 = strict_within line

  -- and each is cut at the last character start that it takes
  pub strict_starts : CutAtStarts first (strict_pieces line)
  strict_starts = strict_cuts line

  -- so that of a line of UTF-8 no character is cut
  pub strict_uncut : Utf8 line → All Utf8 (strict_pieces line)
  strict_uncut = strict_whole line

  -- a line of ASCII is folded byte by byte, and every physical line but the last is full
  pub strict_ascii : only ascii line ≡ true → (strict line ≡ bytewise line) × Full first (strict_pieces line)
  strict_ascii e = (strict_bytewise line e, strict_fills line e)

  -- a line of at most 75 bytes is itself, and so is the empty one
  pub strict_alone : length line ≤ 75 → strict line ≡ line
  strict_alone = strict_short line

  pub repository_alone : length line ≤ 75 → repository line ≡ line
  repository_alone = repository_short line

-- ---- what the public calls write

-- a line that is folded has no LF
checked_free : (number sound : ℕ) (line : List ℕ) → (line_answer number sound line).answer ≡ done → Unbroken line
checked_free number sound line e = by (leb (length line) longest) (only (other lf) line) (leb (length line) sound) refl e
  where
    by : (s t u : Bool) → only (other lf) line ≡ t
        → (pick s (pick t (pick u (output done 0 0) (output number sound 0)) (output has_break (run (other lf) line) 0)) (output too_long 0 0)).answer ≡ done
        → Unbroken line
    by true true u h q = omega (arith, leb-true (length line) (run (other lf) line) h, within (other lf) line)
    by true false u h q = absurd (omega arith)
    by false t u h q = absurd (omega arith)

-- whichever fold it is
module _ (checked : List ℕ → Output) (fold : List ℕ → List ℕ) (line old : List ℕ) (back : (checked line).answer ≡ done → unfolded (fold line) ≡ line) where
  told_back : (fold_answer checked fold line (length old)).answer ≡ done
      → unfolded (told_bytes (fold_answer checked fold line (length old)) (fold_out checked fold line old)) ≡ line
  told_back e = by (eqb (checked line).answer done) refl e
    where
      told : Bool → Output
      told t = pick t (room_answer (length (fold line)) (length old)) (checked line)

      by : (t : Bool) → eqb (checked line).answer done ≡ t → (told t).answer ≡ done → unfolded (told_bytes (told t) (out_after (told t) (fold line) old)) ≡ line
      by true h q = rw (at_front (fold line) old q) (back (eqb-true _ _ h))
      by false h q = absurd (eqb-false _ _ h q)

  written_back : {r : Output} {new : List ℕ} → r ≡ fold_answer checked fold line (length old) → new ≡ fold_out checked fold line old → r.answer ≡ done
      → unfolded (told_bytes r new) ≡ line
  written_back p q e = rw (p, q) (told_back (rw p at e))

module _ (line old : List ℕ) {r : Output} {new : List ℕ} where
  -- what fold_strict lays, if it answers Done, unfolds to the line
  pub fold_strict_back : r ≡ fold_answer strict_line strict line (length old) → new ≡ fold_out strict_line strict line old → r.answer ≡ done
      → unfolded (told_bytes r new) ≡ line
  fold_strict_back = written_back strict_line strict line old (λ e. strict_unfolds line (checked_free _ _ line e))

  -- and so does what fold_line lays
  pub fold_line_back : r ≡ fold_answer repository_line repository line (length old) → new ≡ fold_out repository_line repository line old → r.answer ≡ done
      → unfolded (told_bytes r new) ≡ line
  fold_line_back = written_back repository_line repository line old (λ e. repository_unfolds line (checked_free _ _ line e))

-- ---- 19 is told exactly where the first ill-formed character begins

module _ (line : List ℕ) (room : ℕ) where
  abbrev told_of : Bool → Bool → Bool → Output
  told_of s t u = pick s (pick t (pick u (output done 0 0) (output not_utf8 (utf8_run line) 0)) (output has_break (run (other lf) line) 0)) (output too_long 0 0)

  line_ill : (strict_line line).answer ≡ not_utf8 → IllFormedAt line (strict_line line).place
  line_ill e = by (leb (length line) longest) (only (other lf) line) (leb (length line) (utf8_run line)) refl e
    where
      by : (s t u : Bool) → leb (length line) (utf8_run line) ≡ u → (told_of s t u).answer ≡ not_utf8 → IllFormedAt line (told_of s t u).place
      by true true true h q = absurd (omega arith)
      by true true false h q = ill_formed_there line (leb-false (length line) (utf8_run line) h)
      by true false u h q = absurd (omega arith)
      by false t u h q = absurd (omega arith)

  pub ill_told : (fold_answer strict_line strict line room).answer ≡ not_utf8 → IllFormedAt line (fold_answer strict_line strict line room).place
  ill_told e = by (eqb (strict_line line).answer done) (leb (length (strict line)) room) e
    where
      by : (s t : Bool) → (pick s (pick t (output done 0 (length (strict line))) (output no_out_room 0 (length (strict line)))) (strict_line line)).answer ≡ not_utf8
          → IllFormedAt line (pick s (pick t (output done 0 (length (strict line))) (output no_out_room 0 (length (strict line)))) (strict_line line)).place
      by true true q = absurd (omega arith)
      by true false q = absurd (omega arith)
      by false t q = line_ill q

  pub told_ill : length line ≤ longest → Unbroken line → (place : ℕ) → IllFormedAt line place → fold_answer strict_line strict line room ≡ output not_utf8 place 0
  told_ill short w place i =
      let here = ill_formed_once line place i in
      rw (
        le-leb (length line) longest short,
        le-leb (length line) (run (other lf) line) (omega arith),
        lt-leb (length line) (utf8_run line) (omega (arith, i.inside)),
        here,
      ) refl
