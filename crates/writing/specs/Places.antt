-- Serves inner contracts only. What the recursive writer knows where it stands.
-- Assumes nothing.
use Rattle.std.specs.Prelude.{ℕ, ◌+◌, ◌≡◌, List, ◌++◌}
use Rattle.octets.specs.Laid.{Lays}
use Rattle.tables.specs.Rows.{property_at}
use Rattle.tables.specs.Lent.{Lent, components_in, properties_in, parameters_in, tree_in, name_in}
use Rattle.tables.specs.Trees.{property_of, properties_of}
use Rattle.walking.specs.Walk.{end_of, Reached}
use Rattle.printing.specs.Lines.{closed_line, begin_line, property_line, property_lines, written}
use Rattle.writing.specs.declared.Place.{Place}
use Rattle.writing.specs.declared.Head.{Head}

-- the line of a property row, and the lines of all properties of a component row
abbrev pub line_in : Lent → ℕ → List ℕ
line_in b number = closed_line (property_line (property_of b.text (parameters_in b.parameters) number (property_at b.properties number)))

abbrev pub lines_in : Lent → ℕ → List ℕ
lines_in b row = property_lines (properties_of b.text (properties_in b.properties) (parameters_in b.parameters) row)

-- the lines of a row: its BEGIN and its properties
abbrev pub head_in : Lent → ℕ → List ℕ
head_in b row = closed_line (begin_line (name_in b.text (components_in b.components) row)) ++ lines_in b row

-- what is so when the head of a component is written: where its subtree ends, and how far the walk has come
pub record WroteHead (b : Lent) (place : Place) (old new : List ℕ) (head : Head) : Type 0 where
  pub lays : Lays place.at (head_in b place.row) old new head.children.at
  pub next : head.children.row ≡ place.row + 1
  pub end : head.end ≡ end_of (components_in b.components) place.row
  pub reached : Reached (properties_in b.properties) (parameters_in b.parameters) head.children.cursor place.row

-- and when all of it is
pub record Wrote (b : Lent) (level : ℕ) (place : Place) (old new : List ℕ) (behind : Place) : Type 0 where
  pub lays : Lays place.at (written (tree_in b level place.row)) old new behind.at
  pub end : behind.row ≡ end_of (components_in b.components) place.row
  pub reached : Reached (properties_in b.properties) (parameters_in b.parameters) behind.cursor behind.row
