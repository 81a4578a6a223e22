-- Serves inner contracts only. Where the rows of a component stand, so that they are found without a search of all rows.
-- Serves laws and inner contracts: what the rows are is said in `tables` (Trees), by a plain search.
-- Assumes nothing.
use Rattle.std.specs.Prelude.{ℕ, zero, suc, ◌+◌, ◌/◌, ◌≤◌, ◌<◌, ◌≡◌, Bool, not, ◌&&◌, List, [], ◌∷◌, length, get_or, take, drop, eqb, leb, ltb}
use Rattle.octets.specs.Choice.{pick}
use Rattle.tables.specs.Rows.{component_at}
use Rattle.tables.specs.Fronts.{front}
use Rattle.tables.specs.declared.ComponentRow.{ComponentRow}
use Rattle.tables.specs.declared.PropertyRow.{PropertyRow}
use Rattle.tables.specs.declared.ParameterRow.{ParameterRow}
use Rattle.walking.specs.declared.Cursor.{Cursor}
use Rattle.walking.specs.declared.Window.{Window}

-- the row behind a component's subtree: the first later one that is no deeper
abbrev pub deeper : ℕ → ComponentRow → Bool
deeper depth c = ltb depth c.depth

abbrev pub depth_at : List ComponentRow → ℕ → ℕ
depth_at components row = (get_or components row (component_at [] 0)).depth

abbrev pub end_of : List ComponentRow → ℕ → ℕ
end_of components row = row + 1 + front (deeper (depth_at components row)) (drop (row + 1) components)

-- a property of an earlier row, of a row from `row` up to `end`, of the row itself
abbrev pub owned_before : ℕ → PropertyRow → Bool
owned_before row p = ltb p.owner row

abbrev pub owned_within : ℕ → ℕ → PropertyRow → Bool
owned_within row end p = leb row p.owner && ltb p.owner end

abbrev pub owned_by : ℕ → PropertyRow → Bool
owned_by row p = eqb p.owner row

abbrev pub owned_by_other : ℕ → PropertyRow → Bool
owned_by_other row p = not (owned_by row p)

-- a parameter of an earlier property
abbrev pub held_before : ℕ → ParameterRow → Bool
held_before property p = ltb p.property property

-- a row that a table has, and that is of a class
abbrev pub stands : {A : Type 0} → ℕ → (List ℕ → ℕ → A) → (A → Bool) → List ℕ → ℕ → Bool
stands size at class table i = ltb i (length table / size) && class (at table i)

-- the window of a component: behind the properties of earlier rows, those of its subtree, as far as they go
abbrev pub window_first : List PropertyRow → ℕ → ℕ
window_first properties row = front (owned_before row) properties

abbrev pub window_count : List ComponentRow → List PropertyRow → ℕ → ℕ
window_count components properties row = front (owned_within row (end_of components row)) (drop (window_first properties row) properties)

abbrev pub window_rows : List ComponentRow → List PropertyRow → ℕ → List PropertyRow
window_rows components properties row = take (window_count components properties row) (drop (window_first properties row) properties)

-- property i stands in the window of a component
pub record InWindow (components : List ComponentRow) (properties : List PropertyRow) (row i : ℕ) : Type 0 where
  pub first : window_first properties row ≤ i
  pub last : i < window_first properties row + window_count components properties row

-- how many rows are of a class
unfoldable pub tally : {A : Type 0} → (A → Bool) → List A → ℕ
tally class [] = 0
tally class (x ∷ xs) = pick (class x) (suc (tally class xs)) (tally class xs)

-- how many properties the components before row n find in their windows
unfoldable pub found_below : List ComponentRow → List PropertyRow → ℕ → ℕ
found_below components properties zero = 0
found_below components properties (suc n) = found_below components properties n + tally (owned_by n) (window_rows components properties n)

-- every property stands in the window of its owner: then none is missed by looking there alone
unfoldable pub in_order : List ComponentRow → List PropertyRow → Bool
in_order components properties = eqb (found_below components properties (length components)) (length properties)

-- how far a walk has come that goes through the component rows in their order: what stands before the cursor belongs to rows before `row`
pub record Reached (properties : List PropertyRow) (parameters : List ParameterRow) (cursor : Cursor) (row : ℕ) : Type 0 where
  pub property : cursor.property ≤ front (owned_before row) properties
  pub parameter : cursor.parameter ≤ front (held_before cursor.property) parameters

-- all properties of a row stand in the window, and no parameter before the window's belongs to one of them
pub record Holds (components : List ComponentRow) (properties : List PropertyRow) (parameters : List ParameterRow) (row : ℕ) (w : Window) : Type 0 where
  pub first : w.first ≤ w.last
  pub last : w.last ≤ length properties
  pub before : (i : ℕ) (d : PropertyRow) → i < w.first → (get_or properties i d).owner ≡ row → ⊥
  pub behind : (i : ℕ) (d : PropertyRow) → w.last ≤ i → i < length properties → (get_or properties i d).owner ≡ row → ⊥
  pub parameter : w.parameter ≤ front (held_before w.first) parameters
  pub end : w.end ≡ end_of components row
  pub reached : Reached properties parameters w.cursor row
