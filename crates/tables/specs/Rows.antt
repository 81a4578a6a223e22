-- Words and rows (document 01, "Sizes"): which words a row is, which row words are, and all whole rows of a table.
-- Assumes nothing.
use Rattle.std.specs.Prelude.{ℕ, zero, suc, ◌+◌, ◌*◌, ◌/◌, List, [], ◌∷◌, ◌++◌, length, get_or, ltb}
use Rattle.std.proofs.lemmas.List.Edits.{sets}
use Rattle.octets.specs.Choice.{pick}
use Rattle.tables.specs.declared.ComponentRow.{ComponentRow}
use Rattle.tables.specs.declared.PropertyRow.{PropertyRow}
use Rattle.tables.specs.declared.ParameterRow.{ParameterRow}

-- the parent of a component at the top, "4294967295 for none"
abbrev pub no_parent : ℕ
no_parent = 4294967295

-- how many words a row is
abbrev pub component_size : ℕ
component_size = 4

abbrev pub property_size : ℕ
property_size = 5

abbrev pub parameter_size : ℕ
parameter_size = 6

-- the words of a row, in order
abbrev pub component_words : ComponentRow → List ℕ
component_words c = c.parent ∷ c.depth ∷ c.name_start ∷ c.name_len ∷ []

abbrev pub property_words : PropertyRow → List ℕ
property_words p = p.owner ∷ p.key_start ∷ p.key_len ∷ p.value_start ∷ p.value_len ∷ []

abbrev pub parameter_words : ParameterRow → List ℕ
parameter_words p = p.property ∷ p.key_start ∷ p.key_len ∷ p.present ∷ p.value_start ∷ p.value_len ∷ []

-- the row whose words start at `at`
abbrev pub component_from : List ℕ → ℕ → ComponentRow
component_from table at =
    record {
      parent = get_or table at 0;
      depth = get_or table (at + 1) 0;
      name_start = get_or table (at + 2) 0;
      name_len = get_or table (at + 3) 0;
    }

abbrev pub property_from : List ℕ → ℕ → PropertyRow
property_from table at =
    record {
      owner = get_or table at 0;
      key_start = get_or table (at + 1) 0;
      key_len = get_or table (at + 2) 0;
      value_start = get_or table (at + 3) 0;
      value_len = get_or table (at + 4) 0;
    }

abbrev pub parameter_from : List ℕ → ℕ → ParameterRow
parameter_from table at =
    record {
      property = get_or table at 0;
      key_start = get_or table (at + 1) 0;
      key_len = get_or table (at + 2) 0;
      present = get_or table (at + 3) 0;
      value_start = get_or table (at + 4) 0;
      value_len = get_or table (at + 5) 0;
    }

-- row n of a table whose rows are `size` words each
abbrev pub row_at : {A : Type 0} → ℕ → (List ℕ → ℕ → A) → List ℕ → ℕ → A
row_at size from table n = from table (size * n)

abbrev pub component_at : List ℕ → ℕ → ComponentRow
component_at = row_at component_size component_from

abbrev pub property_at : List ℕ → ℕ → PropertyRow
property_at = row_at property_size property_from

abbrev pub parameter_at : List ℕ → ℕ → ParameterRow
parameter_at = row_at parameter_size parameter_from

-- the first n of a run: f 0, f 1 and so on
unfoldable pub tabulate : {A : Type 0} → ℕ → (ℕ → A) → List A
tabulate zero f = []
tabulate (suc n) f = f 0 ∷ tabulate n (λ i. f (suc i))

-- all whole rows of a table: "the lent length divided by the row size, rounded down"
abbrev pub rows_of : {A : Type 0} → ℕ → (List ℕ → ℕ → A) → List ℕ → List A
rows_of size at table = tabulate (length table / size) (at table)

-- the words of rows, one row after the other
unfoldable pub flat : {A : Type 0} → (A → List ℕ) → List A → List ℕ
flat words [] = []
flat words (r ∷ rs) = words r ++ flat words rs

-- the table with the words of row n put in; without room for that row, the table as it is
abbrev pub put_row : ℕ → ℕ → List ℕ → List ℕ → List ℕ
put_row size n ws table = pick (ltb n (length table / size)) (sets table (size * n) ws) table
