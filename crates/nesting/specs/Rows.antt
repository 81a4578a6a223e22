-- The rows that a line adds (document 01, "Sizes"): offsets count in the unfolded text, so what a line tells of itself is moved by its start.
-- Assumes nothing.
use Rattle.std.specs.Prelude.{ℕ, ◌+◌, List, [], ◌∷◌, map, drop}
use Rattle.octets.specs.declared.Span.{Span}
use Rattle.parameters.specs.declared.Value.{Value}
use Rattle.parameters.specs.declared.Value.TheVariants.{Absent, Present}
use Rattle.parameters.specs.declared.Param.{Param}
use Rattle.parameters.specs.Parameters.{params_after}
use Rattle.lines.specs.declared.Property.{Property}
use Rattle.tables.specs.Rows.{no_parent}
use Rattle.tables.specs.declared.ComponentRow.{ComponentRow}
use Rattle.tables.specs.declared.PropertyRow.{PropertyRow}
use Rattle.tables.specs.declared.ParameterRow.{ParameterRow}
use Rattle.nesting.specs.declared.Entry.{Entry}

-- an open component: its row, and where its name stands
abbrev pub entry : ℕ → ℕ → Span → Entry
entry row start name = record { row = row; start = start + name.start; len = name.len }

-- what stands in the array where nothing is open
abbrev pub no_entry : Entry
no_entry = record { row = no_parent; start = 0; len = 0 }

-- the row of the innermost open component, or none
abbrev pub top : List Entry → ℕ
top [] = no_parent
top (e ∷ es) = e.row

abbrev pub component_row : ℕ → ℕ → Entry → ComponentRow
component_row parent depth e = record { parent = parent; depth = depth; name_start = e.start; name_len = e.len }

abbrev pub property_row : ℕ → ℕ → Property → PropertyRow
property_row owner start p =
    record {
      owner = owner;
      key_start = start + p.key.start;
      key_len = p.key.len;
      value_start = start + p.value.start;
      value_len = p.value.len;
    }

-- "an absent parameter value has start 0 and length 0"
abbrev pub parameter_with : ℕ → Span → Value → ParameterRow
parameter_with property key Absent =
    record { property = property; key_start = key.start; key_len = key.len; present = 0; value_start = 0; value_len = 0 }
parameter_with property key (Present v) =
    record { property = property; key_start = key.start; key_len = key.len; present = 1; value_start = v.start; value_len = v.len }

abbrev pub parameter_row : ℕ → Param → ParameterRow
parameter_row property p = parameter_with property p.key p.value

-- the parameters that stand in a line from `from` on, seen from the text
abbrev pub rows_from : ℕ → ℕ → ℕ → List ℕ → List ParameterRow
rows_from property start from line = map (parameter_row property) (params_after (start + from) 0 (drop from line))

-- those of a property line stand behind its key
abbrev pub parameter_rows : ℕ → ℕ → List ℕ → Property → List ParameterRow
parameter_rows property start line p = rows_from property start p.key.len line
