-- The six numbers of a reading, in one call or in two, and what it leaves in the text and in the tables (document 01, "What each number returns
-- and leaves"; document 02, requests 2 and 6).
-- Assumes nothing.
use Rattle.std.specs.Prelude.{ℕ, ◌+◌, ◌/◌, Bool, ◌&&◌, List, Result, Ok, Err, length, eqb, leb}
use Rattle.octets.specs.Choice.{pick}
use Rattle.octets.specs.Laid.{laid}
use Rattle.octets.specs.declared.Output.{Output}
use Rattle.octets.specs.Answers.{longest, done, too_long, no_text_room, bad_begin, too_deep, bad_end, outside, empty_key, unclosed, no_component, no_room, reserved_key, stray_byte, output}
use Rattle.unfolding.specs.Unfold.{unfolded}
use Rattle.lines.specs.declared.Fault.{Fault}
use Rattle.lines.specs.declared.Fault.TheVariants.{ReservedKey, EmptyKey, StrayByte}
use Rattle.tables.specs.Rows.{flat, component_size, property_size, parameter_size}
use Rattle.nesting.specs.Steps.{State, nothing, Run, finished, stopped, run_of, outcome_of}
use Rattle.nesting.specs.declared.Counts.{Counts}
use Rattle.nesting.specs.declared.Refusal.{Refusal}
use Rattle.nesting.specs.declared.Refused.{Refused}
use Rattle.reading.specs.declared.Reading.{Reading}

-- this paper's number for each refusal
abbrev pub fault_number : Fault → ℕ
fault_number ReservedKey = reserved_key
fault_number EmptyKey = empty_key
fault_number (StrayByte at) = stray_byte

abbrev pub number_of : Refusal → ℕ
number_of Refusal.BadBegin = bad_begin
number_of Refusal.TooDeep = too_deep
number_of Refusal.BadEnd = bad_end
number_of Refusal.Outside = outside
number_of (Refusal.Line fault) = fault_number fault
number_of Refusal.Unclosed = unclosed
number_of Refusal.NoComponent = no_component

-- and its place, where it was met at `from`: the start of its line, or the end of the text; a stray byte has its own (document 02, request 2)
abbrev pub fault_place : Fault → ℕ → ℕ
fault_place ReservedKey start = start
fault_place EmptyKey start = start
fault_place (StrayByte at) start = start + at

abbrev pub place_of : Refusal → ℕ → ℕ
place_of Refusal.BadBegin from = from
place_of Refusal.TooDeep from = from
place_of Refusal.BadEnd from = from
place_of Refusal.Outside from = from
place_of (Refusal.Line fault) from = fault_place fault from
place_of Refusal.Unclosed from = from
place_of Refusal.NoComponent from = from

-- answer, place, text length, and the three counts
abbrev pub told : ℕ → ℕ → ℕ → Counts → Reading
told answer place size counts =
    record {
      answer = answer;
      place = place;
      length = size;
      components = counts.components;
      properties = counts.properties;
      parameters = counts.parameters;
    }

-- the three counts that a reading names
abbrev pub counts_in : Reading → Counts
counts_in r = record { components = r.components; properties = r.properties; parameters = r.parameters }

abbrev pub none : Counts
none = record { components = 0; properties = 0; parameters = 0 }

abbrev pub refusal : ℕ → ℕ → ℕ → Reading
refusal answer place size = told answer place size none

-- "room in rows is the lent length divided by the row size, rounded down"
abbrev pub room_for : ℕ → ℕ → ℕ → Counts
room_for components properties parameters =
    record { components = components / component_size; properties = properties / property_size; parameters = parameters / parameter_size }

abbrev pub fits : Counts → Counts → Bool
fits counts room =
    leb counts.components room.components
    && (leb counts.properties room.properties && leb counts.parameters room.parameters)

-- what a text answers: why it is refused, or its counts, with the number that these have
abbrev pub answered : Result Counts Refused → ℕ → (Counts → ℕ) → Reading
answered (Err refused) size number = refusal (number_of refused.refusal) (place_of refused.refusal refused.from) size
answered (Ok counts) size number = told (number counts) 0 size counts

-- 10 where a count exceeds its rows
abbrev pub by_room : Counts → Counts → ℕ
by_room room counts = pick (fits counts room) done no_room

-- the text alone, and with tables
abbrev pub measure_text : List ℕ → Reading
measure_text text = answered (outcome_of text) (length text) (λ counts. done)

abbrev pub read_text : List ℕ → Counts → Reading
read_text text room = answered (outcome_of text) (length text) (by_room room)

-- order: the limit, the room for the text, and else Done with the length
abbrev pub unfold_answer : List ℕ → ℕ → Output
unfold_answer feed room =
    pick (leb (length feed) longest)
    (pick (leb (length (unfolded feed)) room) (output done 0 (length (unfolded feed))) (output no_text_room 0 (length (unfolded feed))))
    (output too_long 0 0)

-- the same order, and behind it what the unfolded text answers
abbrev pub once_unfolded : List ℕ → ℕ → Reading → Reading
once_unfolded feed text_room answer =
    pick (leb (length feed) longest)
    (pick (leb (length (unfolded feed)) text_room) answer (refusal no_text_room 0 (length (unfolded feed))))
    (refusal too_long 0 0)

-- the one call: behind the text's own answer, 10
unfoldable pub reading_of : List ℕ → ℕ → Counts → Reading
reading_of feed text_room room = once_unfolded feed text_room (read_text (unfolded feed) room)

-- "a measuring call, which unfolds and returns the counts": "Refusals: measuring gives 1 to 9 and later line refusals"
unfoldable pub measuring_of : List ℕ → ℕ → Reading
measuring_of feed text_room = once_unfolded feed text_room (measure_text (unfolded feed))

-- "a filling call on the unfolded text": "filling gives 1, 3 to 10 and those too"
unfoldable pub filling_of : List ℕ → Counts → Reading
filling_of text room = pick (leb (length text) longest) (read_text text room) (refusal too_long 0 0)

-- bytes at the front of a buffer that has room for all of them; else the buffer as it was
abbrev pub laid_whole : List ℕ → List ℕ → List ℕ
laid_whole bytes old = pick (leb (length bytes) (length old)) (laid bytes old) old

-- "Refusals 1 and 2 change nothing lent"; else the unfolded text stands at the front, the bytes behind it as they were
unfoldable pub text_after : List ℕ → List ℕ → List ℕ
text_after feed text = pick (leb (length feed) longest) (laid_whole (unfolded feed) text) text

-- the rows that a text stands for
abbrev pub state_of : Run → State
state_of (finished s) = s
state_of (stopped r place) = nothing

abbrev pub rows_in : List ℕ → State
rows_in text = state_of (run_of text)

-- a table: on Done "the first rows only", else no word changed
abbrev pub table_after : {A : Type 0} → (A → List ℕ) → List A → Reading → List ℕ → List ℕ
table_after words rows reading table = pick (eqb reading.answer done) (laid (flat words rows) table) table
