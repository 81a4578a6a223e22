-- The lines of a listing (document 01, "Examples": "three sections in fixed order, each after its count. Fields: parent or `-`, depth, name;
-- owner, key, value; property row, then key and, if present, `=` and value").
-- Assumes nothing.
use Rattle.std.specs.Prelude.{ℕ, zero, suc, ◌+◌, List, [], ◌∷◌, ◌++◌, eqb}
use Rattle.octets.specs.Choice.{pick}
use Rattle.octets.specs.Bytes.{space, lf, equals}
use Rattle.octets.specs.Views.{viewed}
use Rattle.tables.specs.Rows.{component_at, property_at, parameter_at}
use Rattle.tables.specs.declared.ComponentRow.{ComponentRow}
use Rattle.tables.specs.declared.PropertyRow.{PropertyRow}
use Rattle.tables.specs.declared.ParameterRow.{ParameterRow}
use Rattle.reading.specs.declared.Reading.{Reading}
use Rattle.listing.specs.Texts.{field, decimal, parent_field}

abbrev pub listed_component : List ℕ → ComponentRow → List ℕ
listed_component text c =
    parent_field c.parent ++ (field (decimal c.depth) space ++ field (viewed text c.name_start c.name_len) lf)

abbrev pub listed_property : List ℕ → PropertyRow → List ℕ
listed_property text p =
    field (decimal p.owner) space
    ++ (field (viewed text p.key_start p.key_len) space ++ field (viewed text p.value_start p.value_len) lf)

abbrev pub listed_parameter : List ℕ → ParameterRow → List ℕ
listed_parameter text p =
    field (decimal p.property) space
    ++ pick (eqb p.present 0)
    (field (viewed text p.key_start p.key_len) lf)
    (field (viewed text p.key_start p.key_len) equals ++ field (viewed text p.value_start p.value_len) lf)

-- one of the three tables
pub data Section : Type 0 where
  Components : Section
  Properties : Section
  Parameters : Section

-- the line of row n of a table
abbrev pub listed_row : Section → List ℕ → List ℕ → ℕ → List ℕ
listed_row Components text table n = listed_component text (component_at table n)
listed_row Properties text table n = listed_property text (property_at table n)
listed_row Parameters text table n = listed_parameter text (parameter_at table n)

-- the lines of so many rows, from row n on
unfoldable pub listed_rows : (ℕ → List ℕ) → ℕ → ℕ → List ℕ
listed_rows line n zero = []
listed_rows line n (suc count) = line n ++ listed_rows line (n + 1) count

-- `components `, `properties `, `parameters `
abbrev pub heading : Section → List ℕ
heading Components = field (99 ∷ 111 ∷ 109 ∷ 112 ∷ 111 ∷ 110 ∷ 101 ∷ 110 ∷ 116 ∷ 115 ∷ []) space
heading Properties = field (112 ∷ 114 ∷ 111 ∷ 112 ∷ 101 ∷ 114 ∷ 116 ∷ 105 ∷ 101 ∷ 115 ∷ []) space
heading Parameters = field (112 ∷ 97 ∷ 114 ∷ 97 ∷ 109 ∷ 101 ∷ 116 ∷ 101 ∷ 114 ∷ 115 ∷ []) space

-- a section: its count, then its rows
abbrev pub section : List ℕ → (ℕ → List ℕ) → ℕ → List ℕ
section title line count = title ++ (field (decimal count) lf ++ listed_rows line 0 count)

abbrev pub section_text : Section → List ℕ → List ℕ → ℕ → List ℕ
section_text which text table count = section (heading which) (listed_row which text table) count

-- "A refusal prints one line, `refused` and the six numbers, spaced alike"
abbrev pub refused : Reading → List ℕ
refused r =
    field (114 ∷ 101 ∷ 102 ∷ 117 ∷ 115 ∷ 101 ∷ 100 ∷ []) space
    ++ (field (decimal r.answer) space
    ++ (field (decimal r.place) space
    ++ (field (decimal r.length) space
    ++ (field (decimal r.components) space ++ (field (decimal r.properties) space ++ field (decimal r.parameters) lf)))))
