-- Serves laws only. The two calls in turn: measuring, and where that is Done filling, from the first bytes of the text, as many as it told.
-- Assumes nothing.
use Rattle.std.specs.Prelude.{ℕ, List, length, take, eqb}
use Rattle.octets.specs.Choice.{pick}
use Rattle.octets.specs.Answers.{done}
use Rattle.tables.specs.Lent.{Lent, lent}
use Rattle.reading.specs.declared.Reading.{Reading}
use Rattle.reading.specs.Answers.{measuring_of, text_after}
use Rattle.reading.specs.Lent.{fill_from, left_filled}

-- what measuring tells, and the text that it leaves beside the tables
abbrev pub measure_into : List ℕ → Lent → Reading
measure_into feed b = measuring_of feed (length b.text)

abbrev pub left_measured : List ℕ → Lent → Lent
left_measured feed b = lent (text_after feed b.text) b.components b.properties b.parameters

-- what is lent to filling: `text[..length]`, and the tables
abbrev pub lent_on : Reading → Lent → Lent
lent_on r b = lent (take r.length b.text) b.components b.properties b.parameters

-- the six numbers: a refusal of measuring is the end of it
abbrev pub read_in_turn : List ℕ → Lent → Reading
read_in_turn feed b =
    pick (eqb (measure_into feed b).answer done)
    (fill_from (lent_on (measure_into feed b) (left_measured feed b)))
    (measure_into feed b)

-- the whole text as measuring left it, and the tables as filling did
abbrev pub left_in_turn : List ℕ → Lent → Lent
left_in_turn feed b =
    let tables = left_filled (lent_on (measure_into feed b) (left_measured feed b)) in
    pick (eqb (measure_into feed b).answer done)
    (lent (text_after feed b.text) tables.components tables.properties tables.parameters)
    (left_measured feed b)
