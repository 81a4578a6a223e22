-- Serves laws only. Room for rows, and what two readings into buffers of different length have in common.
-- Assumes nothing.
use Rattle.std.specs.Prelude.{ℕ, ◌*◌, ◌≤◌, ◌<◌, ◌≡◌, List, length, take, drop}
use Rattle.octets.specs.Answers.{done, no_text_room, no_room}
use Rattle.tables.specs.Rows.{component_size, property_size, parameter_size}
use Rattle.nesting.specs.declared.Counts.{Counts}
use Rattle.reading.specs.Answers.{told, counts_in}
use Rattle.reading.specs.Lent.{room_in, read_into}
use Rattle.reading.specs.declared.Reading.{Reading}
use Rattle.tables.specs.Lent.{Lent}

-- each count is at most the other's
pub record AtMost (counts room : Counts) : Type 0 where
  pub components : counts.components ≤ room.components
  pub properties : counts.properties ≤ room.properties
  pub parameters : counts.parameters ≤ room.parameters

-- some count exceeds its rows
pub data Exceeds (counts room : Counts) : Type 0 where
  components : room.components < counts.components → Exceeds counts room
  properties : room.properties < counts.properties → Exceeds counts room
  parameters : room.parameters < counts.parameters → Exceeds counts room

-- two buffers, `old` and `old'` at entry and `new` and `new'` at exit: the first n of both are the same, and what stands behind them is as it was
pub record SameFront (n : ℕ) (old new old' new' : List ℕ) : Type 0 where
  pub inside : n ≤ length old
  pub inside' : n ≤ length old'
  pub front : take n new' ≡ take n new
  pub rest : drop n new ≡ drop n old
  pub rest' : drop n new' ≡ drop n old'

-- the bytes and the rows that the reading r tells of are the same in both, and all behind them is as it was
pub record SameLeft (r : Reading) (b new b' new' : Lent) : Type 0 where
  pub text : SameFront r.length b.text new.text b'.text new'.text
  pub components : SameFront (component_size * r.components) b.components new.components b'.components new'.components
  pub properties : SameFront (property_size * r.properties) b.properties new.properties b'.properties new'.properties
  pub parameters : SameFront (parameter_size * r.parameters) b.parameters new.parameters b'.parameters new'.parameters

-- what a refusal for room names is enough: where 2 is answered, no text of that length is refused with 2 again; where 10 is answered, the same
-- text or a longer one, with these counts as rows, gives Done with just them
pub record Suffices (feed : List ℕ) (b : Lent) : Type 0 where
  pub two : (read_into feed b).answer ≡ no_text_room → (b' : Lent) → (read_into feed b).length ≤ length b'.text → (read_into feed b').answer ≡ no_text_room → ⊥
  pub ten : (read_into feed b).answer ≡ no_room → (b' : Lent) → length b.text ≤ length b'.text → AtMost (counts_in (read_into feed b)) (room_in b')
      → read_into feed b' ≡ told done 0 (read_into feed b).length (counts_in (read_into feed b))
