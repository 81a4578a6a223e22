-- Readings by example, held against document 01, "What each number returns and leaves", and document 02, request 6. Assumes nothing.
use Prim.Native.Nat.{ℕ}
use mathlib.Core.Path.{◌≡◌, refl}
use mathlib.Core.List.{List, [], ◌∷◌, ◌++◌, map}
use Rattle.octets.specs.Literals.{bytes}
use Rattle.octets.specs.Runs as runs
use Rattle.octets.specs.Words.{same_bytes, starts_word}
use Rattle.unfolding.specs.Unfold.{unfolded_after}
use Rattle.lines.specs.Split.{lines_after}
use Rattle.lines.specs.Rule.{line_of}
use Rattle.lines.specs.declared.Fault.TheVariants.{ReservedKey, EmptyKey, StrayByte}
use Rattle.tables.specs.Lent.{Lent, lent}
use Rattle.tables.specs.Rows.{flat}
use Rattle.nesting.specs.Steps.{read_lines, outcome_of}
use Rattle.nesting.specs.declared.Refusal.{Refusal}
use Rattle.reading.specs.Answers.{number_of, place_of, reading_of, measuring_of, filling_of, text_after}
use Rattle.reading.specs.Lent.{read_into, left, fill_from, left_filled}
use Rattle.reading.specs.declared.Reading.{Reading}

-- "3 BadBegin, 4 TooDeep, 5 BadEnd, 6 Outside, 8 Unclosed, 9 NoComponent"
numbered : map number_of (Refusal.BadBegin ∷ Refusal.TooDeep ∷ Refusal.BadEnd ∷ Refusal.Outside ∷ Refusal.Unclosed ∷ Refusal.NoComponent ∷ [])
    ≡ 3 ∷ 4 ∷ 5 ∷ 6 ∷ 8 ∷ 9 ∷ []
numbered = refl

-- document 02, request 2: "7 then means empty key, 17 ReservedKey is checked before it, 18 StrayByte after it"; "The stray one gives the byte's own offset,
-- the others the line start"
abbrev faults : List Refusal
faults = Refusal.Line ReservedKey ∷ Refusal.Line EmptyKey ∷ Refusal.Line (StrayByte 5) ∷ []

faults_numbered : (map number_of faults ≡ 17 ∷ 7 ∷ 18 ∷ []) × (map (λ (r : Refusal). place_of r 30) faults ≡ 30 ∷ 30 ∷ 35 ∷ [])
faults_numbered = (refl, refl)

abbrev six : ℕ → ℕ → ℕ → ℕ → ℕ → ℕ → Reading
six answer place length components properties parameters =
    record { answer = answer; place = place; length = length; components = components; properties = properties; parameters = parameters }

-- so much text, and room for one component and a word more
abbrev before : List ℕ → Lent
before text = lent text (10 ∷ 11 ∷ 12 ∷ 13 ∷ 14 ∷ []) [] []

abbrev fifteen : List ℕ
fifteen = 20 ∷ 21 ∷ 22 ∷ 23 ∷ 24 ∷ 25 ∷ 26 ∷ 27 ∷ 28 ∷ 29 ∷ 30 ∷ 31 ∷ 32 ∷ 33 ∷ 34 ∷ []

-- the six numbers of BEGIN with nothing behind it, of END with nothing open, and of Done
told : map (λ (feed : List ℕ). read_into feed (before fifteen)) (bytes "BEGIN:\n" ∷ bytes "END:A\n" ∷ bytes "BEGIN:A\nEND:A\n" ∷ [])
    ≡ six 3 0 7 0 0 0 ∷ six 5 0 6 0 0 0 ∷ six 0 0 14 1 0 0 ∷ []
unfolding bytes unfolded_after runs.run same_bytes starts_word lines_after line_of read_lines outcome_of reading_of
told = refl

-- "a count exceeds its rows": "0; length and the three counts needed"
when_no_room : read_into (bytes "BEGIN:A\nEND:A\n") (lent fifteen (10 ∷ 11 ∷ 12 ∷ []) [] []) ≡ six 10 0 14 1 0 0
unfolding bytes unfolded_after runs.run same_bytes starts_word lines_after line_of read_lines outcome_of reading_of
when_no_room = refl

-- "unfolded length exceeds the text lent": "0; length needed, counts 0", and "Refusals 1 and 2 change nothing lent."
when_no_text_room : (read_into (bytes "BEGIN:A\nEND:A\n") (before (1 ∷ 2 ∷ 3 ∷ [])) ≡ six 2 0 14 0 0 0)
    × (left (bytes "BEGIN:A\nEND:A\n") (before (1 ∷ 2 ∷ 3 ∷ [])) ≡ before (1 ∷ 2 ∷ 3 ∷ []))
unfolding bytes unfolded_after runs.run same_bytes starts_word lines_after line_of read_lines outcome_of reading_of text_after
when_no_text_room = (refl, refl)

-- "3 to 10 leave the unfolded text at the front of the text buffer, the bytes behind it as they were, and no table word changed."
refused_leaves : left (bytes "END:\n A\n") (before (1 ∷ 2 ∷ 3 ∷ 4 ∷ 5 ∷ 6 ∷ 7 ∷ [])) ≡ before (bytes "END:A\n" ++ 7 ∷ [])
unfolding bytes unfolded_after runs.run same_bytes starts_word lines_after line_of read_lines outcome_of reading_of text_after
refused_leaves = refl

-- "Done writes the first bytes and rows only.": no parent, depth 1, and the name that starts at 6
done_leaves : left (bytes "BEGIN:A\nEND:A\n") (before fifteen)
    ≡ lent (bytes "BEGIN:A\nEND:A\n" ++ 34 ∷ []) (4294967295 ∷ 1 ∷ 6 ∷ 1 ∷ 14 ∷ []) [] []
unfolding bytes unfolded_after runs.run same_bytes starts_word lines_after line_of flat read_lines outcome_of reading_of text_after
done_leaves = refl

-- ---- measure first, fill later

-- "a measuring call, which unfolds and returns the counts": no row is lent, and 10 is never told; 2 and 5 are
measures : map (λ (feed : List ℕ). measuring_of feed 15) (bytes "BEGIN:A\nEND\n :A\n" ∷ bytes "BEGIN:ABCDEFGHIJ\n" ∷ bytes "END:A\n" ∷ [])
    ≡ six 0 0 14 1 0 0 ∷ six 2 0 17 0 0 0 ∷ six 5 0 6 0 0 0 ∷ []
unfolding bytes unfolded_after runs.run same_bytes starts_word lines_after line_of read_lines outcome_of measuring_of
measures = refl

-- "a filling call on the unfolded text": a text that still has a fold is not unfolded again; its blank starts a line without a key
still_folded : fill_from (before (bytes "BEGIN:A\n B\nEND:AB\n")) ≡ six 7 8 18 0 0 0
unfolding bytes runs.run same_bytes starts_word lines_after line_of read_lines outcome_of filling_of
still_folded = refl

-- what stands behind the first `length` bytes is no part of the text: lent with them, it is a line outside
with_its_tail : fill_from (before (bytes "BEGIN:A\nEND:A\n" ++ 34 ∷ [])) ≡ six 6 14 15 0 0 0
unfolding bytes runs.run same_bytes starts_word lines_after line_of read_lines outcome_of filling_of
with_its_tail = refl

-- filling "leaves the text unchanged always"; on Done the first rows only, on 10 no table word changes
fills : (fill_from (before (bytes "BEGIN:A\nEND:A\n")) ≡ six 0 0 14 1 0 0)
    × (left_filled (before (bytes "BEGIN:A\nEND:A\n")) ≡ lent (bytes "BEGIN:A\nEND:A\n") (4294967295 ∷ 1 ∷ 6 ∷ 1 ∷ 14 ∷ []) [] [])
unfolding bytes runs.run same_bytes starts_word lines_after line_of flat read_lines outcome_of filling_of
fills = (refl, refl)

fills_not : (fill_from (before (bytes "BEGIN:A\nEND:A\nBEGIN:A\nEND:A\n")) ≡ six 10 0 28 2 0 0)
    × (left_filled (before (bytes "BEGIN:A\nEND:A\nBEGIN:A\nEND:A\n")) ≡ before (bytes "BEGIN:A\nEND:A\nBEGIN:A\nEND:A\n"))
unfolding bytes runs.run same_bytes starts_word lines_after line_of flat read_lines outcome_of filling_of
fills_not = (refl, refl)
