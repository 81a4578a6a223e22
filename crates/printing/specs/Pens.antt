-- Serves inner contracts only. A line that is laid piece by piece: how many octets the present physical line still takes, how far the buffer is filled, and what a property's line is made of.
-- Assumes nothing.
use Rattle.std.specs.Prelude.{ℕ, ◌+◌, ◌≡◌, List, drop}
use Rattle.octets.specs.Laid.{Lays}
use Rattle.octets.specs.Views.{viewed}
use Rattle.characters.specs.Units.{units}
use Rattle.folding.specs.Strict.{folded_units, left_after}
use Rattle.tables.specs.Trees.{Parameter}
use Rattle.tables.specs.Lent.{parameters_in}
use Rattle.tables.specs.Fronts.{front, belongs, own_parameters, own_property}
use Rattle.tables.specs.declared.ParameterRow.{ParameterRow}
use Rattle.printing.specs.Lines.{closed_line, property_line}
use Rattle.printing.specs.declared.Pen.{Pen}
use Rattle.printing.specs.declared.Line.{Line}

-- from the pen on a piece was laid, folded strictly: `old` was in the buffer, `new` is there now, and the pen stands behind the piece
pub record Penned (pen : Pen) (piece old new : List ℕ) (next : Pen) : Type 0 where
  pub left : next.left ≡ left_after pen.left (units piece)
  pub lays : Lays pen.at (folded_units pen.left (units piece)) old new next.at

-- the row behind the run of a property's parameters
abbrev pub behind_run : ℕ → ℕ → List ParameterRow → ℕ
behind_run property first rows = first + front (belongs property) (drop first rows)

abbrev pub behind : Line → ℕ
behind l = behind_run l.number l.first (parameters_in l.tables.now.parameters.now)

-- a property's key, its value, and the parameters of the run
abbrev pub key_of : Line → List ℕ
key_of l = viewed l.tables.now.text.now l.row.key_start l.row.key_len

abbrev pub value_of : Line → List ℕ
value_of l = viewed l.tables.now.text.now l.row.value_start l.row.value_len

abbrev pub own_of : Line → List Parameter
own_of l = own_parameters l.tables.now.text.now l.number l.first (parameters_in l.tables.now.parameters.now)

-- its line, before it is folded
abbrev pub line_of : Line → List ℕ
line_of l = property_line (own_property l.tables.now.text.now l.row l.number l.first (parameters_in l.tables.now.parameters.now))

abbrev pub printed_line : Line → List ℕ
printed_line l = closed_line (line_of l)
