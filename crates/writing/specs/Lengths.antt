-- Serves inner contracts only. How many bytes a row adds to what tables are written as.
-- Assumes nothing.
use Rattle.std.specs.Prelude.{ℕ, ◌+◌, List, length}
use Rattle.tables.specs.Lent.{Lent, components_in, name_in}
use Rattle.printing.specs.Lines.{closed_line, begin_line, end_line}
use Rattle.writing.specs.Places.{line_in}

-- the lines BEGIN and END of a name
abbrev pub mark_lengths : List ℕ → ℕ
mark_lengths name = length (closed_line (begin_line name)) + length (closed_line (end_line name))

-- of a component row
abbrev pub marks_length : Lent → ℕ → ℕ
marks_length b row = mark_lengths (name_in b.text (components_in b.components) row)

-- the line of a property row
abbrev pub line_length : Lent → ℕ → ℕ
line_length b number = length (line_in b number)
