-- Serves laws only. The six numbers of a reading by the grammar, over any rule of what is wrong with a line that is no property; and how an answer before
-- request 2 of document 02, by the rule `BadLine`, became the answer behind it.
-- Assumes nothing.
use Rattle.std.specs.Prelude.{ℕ, ◌≤◌, ◌<◌, ◌≡◌, ◌⊎◌, List, length}
use Rattle.octets.specs.Answers.{longest, done, too_long, no_text_room, no_room}
use Rattle.unfolding.specs.Unfold.{unfolded}
use Rattle.tables.specs.Lent.{Lent}
use Rattle.nesting.specs.Steps.{State, counts_of}
use Rattle.reading.specs.Answers.{told, refusal}
use Rattle.reading.specs.Lent.{room_in}
use Rattle.reading.specs.declared.Reading.{Reading}
use Rattle.demands.specs.Readable.{Readable}
use Rattle.demands.specs.Room.{AtMost, Exceeds}
use Rattle.demands.specs.GrammarRefusals.{Rule, BrokenBy}

-- "1, 2, then lines one after another with 3 to 7 as they stand, then 8 or 9, then 10", or Done
pub data ToldBy (wrong : Rule) (feed : List ℕ) (b : Lent) : Reading → Type 0 where
  when_too_long : longest < length feed → ToldBy wrong feed b (refusal too_long 0 0)
  when_no_text_room : length feed ≤ longest → length b.text < length (unfolded feed) → ToldBy wrong feed b (refusal no_text_room 0 (length (unfolded feed)))
  no_calendar : {number place : ℕ} → length feed ≤ longest → length (unfolded feed) ≤ length b.text → BrokenBy wrong (unfolded feed) number place
      → ToldBy wrong feed b (refusal number place (length (unfolded feed)))
  when_no_room : {s : State} → Readable feed s → length (unfolded feed) ≤ length b.text → Exceeds (counts_of s) (room_in b)
      → ToldBy wrong feed b (told no_room 0 (length (unfolded feed)) (counts_of s))
  all_read : {s : State} → Readable feed s → length (unfolded feed) ≤ length b.text → AtMost (counts_of s) (room_in b)
      → ToldBy wrong feed b (told done 0 (length (unfolded feed)) (counts_of s))

-- 7, 17 or 18
abbrev pub OfThree : ℕ → Type 0
OfThree number = (number ≡ 7) ⊎ ((number ≡ 17) ⊎ (number ≡ 18))

-- the reading before, and the reading now: 7 became one of the three, at the same place or, of a stray byte, behind it; every other reading is the same,
-- and was none of them
pub data Became : Reading → Reading → Type 0 where
  became_reserved : {at size : ℕ} → Became (refusal 7 at size) (refusal 17 at size)
  became_empty : {at size : ℕ} → Became (refusal 7 at size) (refusal 7 at size)
  became_stray : {at place size : ℕ} → at < place → Became (refusal 7 at size) (refusal 18 place size)
  the_same : {r : Reading} → (OfThree r.answer → ⊥) → Became r r
