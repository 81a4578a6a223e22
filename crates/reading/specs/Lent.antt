-- What a reading, in one call or in two, answers with the buffers that it is lent, and what it leaves in them.
-- Assumes nothing.
use Rattle.std.specs.Prelude.{ℕ, List, length}
use Rattle.unfolding.specs.Unfold.{unfolded}
use Rattle.tables.specs.Lent.{Lent}
use Rattle.tables.specs.Rows.{component_words, property_words, parameter_words}
use Rattle.nesting.specs.Steps.{State}
use Rattle.nesting.specs.declared.Counts.{Counts}
use Rattle.reading.specs.declared.Reading.{Reading}
use Rattle.reading.specs.Answers.{room_for, reading_of, filling_of, text_after, rows_in, table_after}

abbrev pub room_in : Lent → Counts
room_in b = room_for (length b.components) (length b.properties) (length b.parameters)

-- each table with its rows, where the reading is Done, and beside them this text
abbrev pub with_rows : State → Reading → List ℕ → Lent → Lent
with_rows s r text b =
    record {
      text = text;
      components = table_after component_words s.components r b.components;
      properties = table_after property_words s.properties r b.properties;
      parameters = table_after parameter_words s.parameters r b.parameters;
    }

-- the one call
abbrev pub read_into : List ℕ → Lent → Reading
read_into feed b = reading_of feed (length b.text) (room_in b)

abbrev pub left : List ℕ → Lent → Lent
left feed b = with_rows (rows_in (unfolded feed)) (read_into feed b) (text_after feed b.text) b

-- filling, from the text that is lent with the tables: it "leaves the text unchanged always"
abbrev pub fill_from : Lent → Reading
fill_from b = filling_of b.text (room_in b)

abbrev pub left_filled : Lent → Lent
left_filled b = with_rows (rows_in b.text) (fill_from b) b.text b
