-- Every line of a text: what holds at the start and stays from line to line holds at the end; and where a run stops stands a line that is refused.
-- Assumes nothing.
use mathlib.Core.Path.{◌≡◌, refl, ap, ◌∙◌}
use mathlib.Core.Bool.{Bool, true, false}
use mathlib.Core.List.{List, [], ◌∷◌}
use Prim.Native.Nat.{ℕ, zero, suc, ◌+◌, ◌-◌, ◌≤◌, ◌<◌}
use native.Mathlib.Omega.{arith}
use lib.ListN.{length, take, length-take}
use lib.Dec.{ltb}
use borrow.Author.Tests.{ltb-true}
use Rattle.octets.specs.Choice.{pick}
use Rattle.octets.specs.Answers.{deepest}
use Rattle.lines.specs.Split.{content_len, line_len, lines_after}
use Rattle.lines.specs.Rule.{line_of}
use Rattle.lines.specs.Sound.{Sound}
use Rattle.lines.specs.declared.Line.{Line}
use Rattle.lines.proofs.Split.{line_within, content_within}
use Rattle.lines.proofs.Sound.{sound}
use Rattle.nesting.specs.Steps.{fine, State, nothing, check_of, after, Run, finished, stopped, onward, read_lines, run_of}
use Rattle.std.specs.Prelude.{Result, Ok, Err}
use Rattle.nesting.specs.declared.Entry.{Entry}
use Rattle.nesting.specs.declared.Refusal.{Refusal}

-- a run that goes to the end goes on behind its first line
pub goes_on : (c : Result Unit Refusal) (place : ℕ) (r : Run) (s : State) → onward c place r ≡ finished s → (c ≡ fine) × (r ≡ finished s)
goes_on (Ok tt) place r s e = (refl, e)
goes_on (Err x) place r s e = absurd (let z : ◌≡◌ {A = ℕ} 0 1 = cc in omega arith)

-- a BEGIN that may stand where it does is not too deep
pub deep : (es : List Entry) → pick (ltb (length es) deepest) fine (Err Refusal.TooDeep) ≡ fine → length es < deepest
deep es c = go (ltb (length es) deepest) refl c
  where
    go : (t : Bool) → ltb (length es) deepest ≡ t → pick t fine (Err Refusal.TooDeep) ≡ fine → length es < deepest
    go true x c = ltb-true (length es) deepest x
    go false x c = absurd (let z : ◌≡◌ {A = ℕ} 0 1 = cc in omega arith)

-- of a state and how many bytes are read
module _ (text : List ℕ) (Holds : ℕ → State → Type 0) (further : (at at' : ℕ) (s : State) → at ≤ at' → Holds at s → Holds at' s)
    (step : (at : ℕ) (s : State) → Holds at s → (line : List ℕ) → at + length line ≤ length text → (l : Line) → Sound line l
    → check_of text line l s.opens ≡ fine → Holds (at + length line) (after at line l s)) where
  along : (at k : ℕ) (xs : List ℕ) → at + length xs ≡ length text → k ≤ length xs → (s end : State) → Holds (at + k) s
      → read_lines text (lines_after at k xs) s ≡ finished end → Holds (length text) end
  unfolding read_lines lines_after
  along at k [] h l s end w e = let q : s ≡ end = cc in rw (← q) (further (at + k) (length text) s (omega arith) w)
  along at zero (x ∷ xs) h l s end w e =
      let line : List ℕ = take (content_len (x ∷ xs)) (x ∷ xs) in
      let g = goes_on (check_of text line (line_of line) s.opens) at (read_lines text (lines_after (at + 1) (line_len (x ∷ xs) - 1) xs) (after at line (line_of line) s)) end e in
      let n : length line ≤ line_len (x ∷ xs) = omega (arith, length-take (content_len (x ∷ xs)) (x ∷ xs), content_within (x ∷ xs)) in
      let m : line_len (x ∷ xs) ≤ length (x ∷ xs) = line_within (x ∷ xs) in
      let next = step at s (further (at + 0) at s (omega arith) w) line (omega arith) (line_of line) (sound line) g.0 in
      along (at + 1) (line_len (x ∷ xs) - 1) xs (omega arith) (omega arith) (after at line (line_of line) s) end
      (further (at + length line) (at + 1 + (line_len (x ∷ xs) - 1)) (after at line (line_of line) s) (omega arith) next) g.1
  along at (suc k) (x ∷ xs) h l s end w e = along (at + 1) k xs (omega arith) (omega arith) s end (further (at + suc k) (at + 1 + k) s (omega arith) w) e

  pub at_the_end : Holds 0 nothing → (end : State) → run_of text ≡ finished end → Holds (length text) end
  at_the_end w end e = along 0 0 text (omega arith) (omega arith) nothing end w e

-- ---- where a run stops

-- a line of the text, from `start` on, that is refused by its check
pub record RefusedAt (text : List ℕ) (r : Refusal) (start : ℕ) : Type 0 where
  pub line : List ℕ
  pub opens : List Entry
  pub inside : start + length line ≤ length text
  pub refused : check_of text line (line_of line) opens ≡ Err r

module _ (text : List ℕ) (r : Refusal) (start : ℕ) where
  stops_at : (at k : ℕ) (xs : List ℕ) → at + length xs ≡ length text → (s : State) → read_lines text (lines_after at k xs) s ≡ stopped r start → RefusedAt text r start
  unfolding read_lines lines_after
  stops_at at k [] h s e = absurd (let z : ◌≡◌ {A = ℕ} 0 1 = cc in omega arith)
  stops_at at zero (x ∷ xs) h s e =
      go (check_of text line (line_of line) s.opens) refl e (stops_at (at + 1) (line_len (x ∷ xs) - 1) xs (omega arith) next)
    where
      line : List ℕ
      line = take (content_len (x ∷ xs)) (x ∷ xs)

      next : State
      next = after at line (line_of line) s

      rest : Run
      rest = read_lines text (lines_after (at + 1) (line_len (x ∷ xs) - 1) xs) next

      go : (c : Result Unit Refusal) → check_of text line (line_of line) s.opens ≡ c → onward c at rest ≡ stopped r start → (rest ≡ stopped r start → RefusedAt text r start)
          → RefusedAt text r start
      go (Ok tt) c e ih = ih e
      go (Err y) c e ih =
          let same : y ≡ r = cc in
          let here : at ≡ start = cc in
          record {
            line = line;
            opens = s.opens;
            inside = omega (arith, length-take (content_len (x ∷ xs)) (x ∷ xs));
            refused = c ∙ ap Err same;
          }
  stops_at at (suc k) (x ∷ xs) h s e = stops_at (at + 1) k xs (omega arith) s e

  pub refused_line : run_of text ≡ stopped r start → RefusedAt text r start
  refused_line e = stops_at 0 0 text (omega arith) nothing e
