-- Serves inner contracts only. What a walk knows of tables that meet the table rule, and of a component row that it has come to.
-- Assumes nothing.
use Rattle.std.specs.Prelude.{ℕ, ◌<◌, ◌≡◌, Bool, true, ◌&&◌, List, [], ◌∷◌, length, leb, None}
use Rattle.tables.specs.Lent.{Lent, components_in, properties_in, parameters_in}
use Rattle.tables.specs.TableRule.{broken_component}
use Rattle.tables.specs.declared.ComponentRow.{ComponentRow}
use Rattle.tables.specs.declared.PropertyRow.{PropertyRow}
use Rattle.tables.specs.declared.ParameterRow.{ParameterRow}
use Rattle.walking.specs.Walk.{in_order, Reached, Holds}
use Rattle.walking.specs.declared.Cursor.{Cursor}
use Rattle.walking.specs.declared.Window.{Window}

-- parameter rows by rising property, none before `seen`
unfoldable pub rises : ℕ → List ParameterRow → Bool
rises seen [] = true
rises seen (q ∷ qs) = leb seen q.property && rises q.property qs

-- the parameters stand by rising property
pub record RisingParameters (parameters : List ParameterRow) : Type 0 where
  pub rise : rises 0 parameters ≡ true

-- the window holds all properties of the row
pub record Owns (properties : List PropertyRow) (parameters : List ParameterRow) (row : ℕ) (window : Window) : Type 0 where
  pub components : List ComponentRow
  pub holds : Holds components properties parameters row window

-- the tables meet the table rule, as far as a walk leans on it
pub record Ruled (b : Lent) : Type 0 where
  pub components : broken_component (length b.text) 0 [] (components_in b.components) ≡ None
  pub parameters : RisingParameters (parameters_in b.parameters)

-- `ordered` is said only of tables that are
abbrev pub Ordered : Lent → Bool → Type 0
Ordered b ordered = ordered ≡ true → in_order (components_in b.components) (properties_in b.properties) ≡ true

-- a component row, where a walk has come to it
pub record Arrived (b : Lent) (row : ℕ) (cursor : Cursor) : Type 0 where
  pub there : row < length (components_in b.components)
  pub reached : Reached (properties_in b.properties) (parameters_in b.parameters) cursor row
