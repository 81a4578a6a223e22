-- Serves laws only. Filling, from a text and into tables that are lent: what a text needs, and more rows (document 02, request 6).
-- Assumes nothing.
use Rattle.std.specs.Prelude.{ℕ, ◌≤◌, ◌≡◌, List, length, take, Ok}
use Rattle.octets.specs.Answers.{longest}
use Rattle.tables.specs.Lent.{Lent}
use Rattle.nesting.specs.Steps.{outcome_of}
use Rattle.nesting.specs.declared.Counts.{Counts}
use Rattle.reading.specs.Answers.{measuring_of, text_after}
use Rattle.reading.specs.Lent.{room_in}
use Rattle.demands.specs.Room.{AtMost}

-- the text is within the limit, it is read to its end, and these are the counts of its rows
pub record Needs (text : List ℕ) (counts : Counts) : Type 0 where
  pub short : length text ≤ longest
  pub reads : outcome_of text ≡ Ok counts

-- the same text, and each table has at least as many rows
pub record MoreRows (b b' : Lent) : Type 0 where
  pub text : b'.text ≡ b.text
  pub rows : AtMost (room_in b) (room_in b')

-- the text that is lent to filling is what measuring told of the text that it left
abbrev pub MeasuredIn : List ℕ → List ℕ → Lent → Type 0
MeasuredIn feed text b = b.text ≡ take (measuring_of feed (length text)).length (text_after feed text)
