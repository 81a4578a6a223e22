-- The reading as a fold of one step over the lines (document 01, "Lines and nesting"): what a line is refused for where it stands,
-- which components are open after it, and which rows it adds. Room for rows stands outside of it.
-- Assumes nothing.
use Rattle.std.specs.Prelude.{ℕ, ◌+◌, Bool, List, [], ◌∷◌, ◌++◌, Result, Ok, Err, length, eqb, ltb}
use Rattle.octets.specs.Choice.{pick}
use Rattle.octets.specs.Answers.{deepest}
use Rattle.octets.specs.Views.{viewed}
use Rattle.octets.specs.Words.{same_bytes}
use Rattle.lines.specs.Split.{Placed, lines_from}
use Rattle.lines.specs.Rule.{line_of}
use Rattle.lines.specs.declared.Line.{Line}
use Rattle.lines.specs.declared.Line.TheVariants.{Empty, Begin, BadBegin, End, Content, Bad}
use Rattle.tables.specs.declared.ComponentRow.{ComponentRow}
use Rattle.tables.specs.declared.PropertyRow.{PropertyRow}
use Rattle.tables.specs.declared.ParameterRow.{ParameterRow}
use Rattle.nesting.specs.declared.Entry.{Entry}
use Rattle.nesting.specs.declared.Counts.{Counts}
use Rattle.nesting.specs.declared.Refusal.{Refusal}
use Rattle.nesting.specs.declared.Refused.{Refused}
use Rattle.nesting.specs.Rows.{entry, top, component_row, property_row, parameter_rows}

-- what has been read: the open components, innermost first, and the rows in order
pub record State : Type 0 where
  pub opens : List Entry
  pub components : List ComponentRow
  pub properties : List PropertyRow
  pub parameters : List ParameterRow

abbrev pub nothing : State
nothing = record { opens = []; components = []; properties = []; parameters = [] }

-- what stands behind END is the name of the open component, byte for byte
abbrev pub names : List ℕ → List ℕ → Entry → Bool
names text rest e = same_bytes rest (viewed text e.start e.len)

-- a line may stand where it does
abbrev pub fine : Result Unit Refusal
fine = Ok tt

abbrev pub closes : List ℕ → List ℕ → List Entry → Result Unit Refusal
closes text rest [] = Err Refusal.BadEnd
closes text rest (e ∷ es) = pick (names text rest e) fine (Err Refusal.BadEnd)

-- any other line stands outside where nothing is open
abbrev pub if_open : Result Unit Refusal → List Entry → Result Unit Refusal
if_open check [] = Err Refusal.Outside
if_open check (e ∷ es) = check

abbrev pub check_of : List ℕ → List ℕ → Line → List Entry → Result Unit Refusal
check_of text line Empty opens = fine
check_of text line (Begin name) opens = pick (ltb (length opens) deepest) fine (Err Refusal.TooDeep)
check_of text line BadBegin opens = Err Refusal.BadBegin
check_of text line (End rest) opens = closes text (viewed line rest.start rest.len) opens
check_of text line (Content p) opens = if_open fine opens
check_of text line (Bad fault) opens = if_open (Err (Refusal.Line fault)) opens

abbrev pub closed : List Entry → List Entry
closed [] = []
closed (e ∷ es) = es

-- the state after a line that starts at `start`
abbrev pub after : ℕ → List ℕ → Line → State → State
after start line Empty s = s
after start line (Begin name) s =
    record {
      opens = entry (length s.components) start name ∷ s.opens;
      components = s.components ++ component_row (top s.opens) (length s.opens + 1) (entry (length s.components) start name) ∷ [];
      properties = s.properties;
      parameters = s.parameters;
    }
after start line BadBegin s = s
after start line (End rest) s =
    record { opens = closed s.opens; components = s.components; properties = s.properties; parameters = s.parameters }
after start line (Content p) s =
    record {
      opens = s.opens;
      components = s.components;
      properties = s.properties ++ property_row (top s.opens) start p ∷ [];
      parameters = s.parameters ++ parameter_rows (length s.properties) start line p;
    }
after start line (Bad fault) s = s

-- a reading goes to the end, or it stops at the first line that may not stand where it does
pub data Run : Type 0 where
  finished : State → Run
  stopped : Refusal → ℕ → Run

abbrev pub onward : Result Unit Refusal → ℕ → Run → Run
onward (Ok tt) start rest = rest
onward (Err r) start rest = stopped r start

unfoldable pub read_lines : List ℕ → List Placed → State → Run
read_lines text [] s = finished s
read_lines text (l ∷ ls) s =
    onward (check_of text l.content (line_of l.content) s.opens) l.start
    (read_lines text ls (after l.start l.content (line_of l.content) s))

abbrev pub run_of : List ℕ → Run
run_of text = read_lines text (lines_from 0 text) nothing

abbrev pub counts_of : State → Counts
counts_of s =
    record { components = length s.components; properties = length s.properties; parameters = length s.parameters }

abbrev pub component_counted : Counts → Counts
component_counted c = record { components = c.components + 1; properties = c.properties; parameters = c.parameters }

abbrev pub property_counted : ℕ → Counts → Counts
property_counted parameters c =
    record { components = c.components; properties = c.properties + 1; parameters = c.parameters + parameters }

-- why a text is refused, and where that was met
abbrev pub refused_at : Refusal → ℕ → Refused
refused_at refusal from = record { refusal = refusal; from = from }

abbrev pub met_at : ℕ → Result Unit Refusal → Result Unit Refused
met_at start (Ok tt) = Ok tt
met_at start (Err refusal) = Err (refused_at refusal start)

-- at the end of the text nothing is open, and there is a component
abbrev pub ended_at : ℕ → Counts → ℕ → Result Counts Refused
ended_at depth counts size =
    pick (eqb depth 0)
    (pick (eqb counts.components 0) (Err (refused_at Refusal.NoComponent size)) (Ok counts))
    (Err (refused_at Refusal.Unclosed size))

abbrev pub judged : Run → ℕ → Result Counts Refused
judged (finished s) size = ended_at (length s.opens) (counts_of s) size
judged (stopped r place) size = Err (refused_at r place)

-- what the text alone answers
unfoldable pub outcome_of : List ℕ → Result Counts Refused
outcome_of text = judged (run_of text) (length text)
