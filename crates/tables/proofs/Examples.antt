-- The table rule, trees and the words of rows by example. Assumes nothing.
use mathlib.Core.Path.{◌≡◌, refl}
use mathlib.Core.List.{List, [], ◌∷◌, map}
use Prim.Native.Nat.{ℕ, ◌+◌, ◌-◌}
use lib.Dec.{eqb}
use Rattle.octets.specs.Choice.{pick}
use Rattle.octets.specs.Answers.{deepest}
use Rattle.tables.specs.Rows.{no_parent, component_size, component_words, property_words, parameter_words, component_at, property_at, parameter_at, tabulate, rows_of}
use Rattle.tables.specs.TableRule.{broken, first_broken, out_from}
use Rattle.tables.specs.Trees.{Trees, none, tree, absent, present, gather, forest, tree_at, trees_of}
use Rattle.tables.specs.declared.ComponentRow.{ComponentRow}
use Rattle.tables.specs.declared.PropertyRow.{PropertyRow}
use Rattle.tables.specs.declared.ParameterRow.{ParameterRow}
use Rattle.std.specs.Prelude.{Option, Some, None}

abbrev component : ℕ → ℕ → ℕ → ℕ → ComponentRow
component p d s l = record { parent = p; depth = d; name_start = s; name_len = l }

abbrev property : ℕ → ℕ → ℕ → ℕ → ℕ → PropertyRow
property o k m v n = record { owner = o; key_start = k; key_len = m; value_start = v; value_len = n }

abbrev parameter : ℕ → ℕ → ℕ → ℕ → ℕ → ℕ → ParameterRow
parameter o k m t v n = record { property = o; key_start = k; key_len = m; present = t; value_start = v; value_len = n }

record Case : Type 0 where
  components : List ComponentRow
  properties : List PropertyRow
  parameters : List ParameterRow
  told : Option ℕ

-- with a text of 10 bytes
abbrev judge : Case → Option ℕ
judge c = broken 10 c.components c.properties c.parameters

abbrev answer : Case → Option ℕ
answer c = c.told

abbrev nested : List ComponentRow → Option ℕ → Case
nested cs told = record { components = cs; properties = []; parameters = []; told = told }

abbrev top : ComponentRow
top = component no_parent 1 0 3

-- one component has these
abbrev held : List PropertyRow → List ParameterRow → Option ℕ → Case
held ps qs told = record { components = top ∷ []; properties = ps; parameters = qs; told = told }

abbrev line : PropertyRow
line = property 0 3 2 5 5

-- so many components, each in the one before
unfoldable chain : ℕ → List ComponentRow
chain n = tabulate n (λ i. component (pick (eqb i 0) no_parent (i - 1)) (i + 1) 0 0)

abbrev cases : List Case
cases =
    nested [] (Some 0)
    ∷ record { components = []; properties = property 7 0 0 0 0 ∷ []; parameters = []; told = Some 0 }
    ∷ nested (top ∷ []) None
    ∷ nested (component 0 1 0 3 ∷ []) (Some 0)
    ∷ nested (component no_parent 2 0 3 ∷ []) (Some 0)
    ∷ nested (component no_parent 0 0 3 ∷ []) (Some 0)
    ∷ nested (component no_parent 1 8 3 ∷ []) (Some 0)
    ∷ nested (component no_parent 1 10 0 ∷ []) None
    ∷ nested (component no_parent 1 11 0 ∷ []) (Some 0)
    ∷ nested (top ∷ component 0 2 0 3 ∷ component 1 3 0 3 ∷ component 0 2 0 3 ∷ top ∷ []) None
    ∷ nested (top ∷ component 0 2 0 3 ∷ component 0 2 0 3 ∷ component 1 3 0 3 ∷ []) (Some 3)
    ∷ nested (top ∷ component 0 2 0 3 ∷ top ∷ component 0 2 0 3 ∷ []) (Some 3)
    ∷ nested (top ∷ component 1 2 0 3 ∷ []) (Some 1)
    ∷ nested (top ∷ component 0 1 0 3 ∷ []) (Some 1)
    ∷ nested (chain 64) None
    ∷ nested (chain 65) (Some 64)
    ∷ held (line ∷ line ∷ []) [] None
    ∷ held (line ∷ property 1 3 2 5 5 ∷ []) [] (Some 2)
    ∷ held (property 0 3 2 5 6 ∷ []) [] (Some 1)
    ∷ held (property 0 9 2 5 5 ∷ []) [] (Some 1)
    ∷ held (line ∷ line ∷ []) (parameter 0 0 1 0 0 0 ∷ parameter 1 0 1 1 1 0 ∷ parameter 1 0 0 1 1 1 ∷ []) None
    ∷ held (line ∷ line ∷ []) (parameter 1 0 1 0 0 0 ∷ parameter 0 0 1 0 0 0 ∷ []) (Some 4)
    ∷ held (line ∷ []) (parameter 1 0 1 0 0 0 ∷ []) (Some 2)
    ∷ held (line ∷ []) (parameter 0 10 1 0 0 0 ∷ []) (Some 2)
    ∷ held (line ∷ []) (parameter 0 0 1 1 10 1 ∷ []) (Some 2)
    ∷ held (line ∷ []) (parameter 0 0 1 2 0 0 ∷ []) (Some 2)
    ∷ held (line ∷ []) (parameter 0 0 1 0 1 0 ∷ []) (Some 2)
    ∷ held (line ∷ []) (parameter 0 0 1 0 0 1 ∷ []) (Some 2)
    ∷ held (property 1 3 2 5 5 ∷ []) (parameter 0 0 1 2 0 0 ∷ []) (Some 1)
    ∷ []

judged : map judge cases ≡ map answer cases
unfolding broken first_broken out_from tabulate chain
judged = refl

-- two components, the second with a child between its properties
abbrev trees : Trees
trees =
    trees_of (65 ∷ 66 ∷ 67 ∷ 68 ∷ [])
    (component no_parent 1 0 1 ∷ component no_parent 1 1 1 ∷ component 1 2 2 2 ∷ [])
    (property 1 0 1 1 2 ∷ property 2 2 1 4 0 ∷ property 1 3 1 0 0 ∷ [])
    (parameter 0 1 1 0 0 0 ∷ parameter 0 2 1 1 3 1 ∷ parameter 2 0 2 1 1 0 ∷ [])

grown : trees
    ≡ tree (65 ∷ []) [] none
    (tree (66 ∷ [])
    (record {
      key = 65 ∷ [];
      parameters = record { key = 66 ∷ []; value = absent } ∷ record { key = 67 ∷ []; value = present (68 ∷ []) } ∷ [];
      value = 66 ∷ 67 ∷ [];
    }
    ∷ record { key = 68 ∷ []; parameters = record { key = 65 ∷ 66 ∷ []; value = present [] } ∷ []; value = [] } ∷ [])
    (tree (67 ∷ 68 ∷ []) (record { key = 67 ∷ []; parameters = []; value = [] } ∷ []) none none)
    none)
unfolding gather forest
grown = refl

-- 4294967295 is no row's number as a parent: a row of that number has no children
childless : tree_at [] (top ∷ []) [] [] deepest no_parent ≡ tree [] [] none none
unfolding gather forest
childless = refl

-- ---- rows as words

-- "parent row or 4294967295 for none, depth, name start, name length", and so for the two others
words : (component_words (component no_parent 1 6 2) ≡ 4294967295 ∷ 1 ∷ 6 ∷ 2 ∷ [])
    × (property_words (property 1 2 3 4 5) ≡ 1 ∷ 2 ∷ 3 ∷ 4 ∷ 5 ∷ [])
    × (parameter_words (parameter 2 3 4 1 5 6) ≡ 2 ∷ 3 ∷ 4 ∷ 1 ∷ 5 ∷ 6 ∷ [])
words = (refl, refl, refl)

-- the second row of each table, read back
read : (component_at (0 ∷ 0 ∷ 0 ∷ 0 ∷ 1 ∷ 2 ∷ 3 ∷ 4 ∷ []) 1 ≡ component 1 2 3 4)
    × (property_at (0 ∷ 0 ∷ 0 ∷ 0 ∷ 0 ∷ 1 ∷ 2 ∷ 3 ∷ 4 ∷ 5 ∷ []) 1 ≡ property 1 2 3 4 5)
    × (parameter_at (0 ∷ 0 ∷ 0 ∷ 0 ∷ 0 ∷ 0 ∷ 2 ∷ 3 ∷ 4 ∷ 1 ∷ 5 ∷ 6 ∷ []) 1 ≡ parameter 2 3 4 1 5 6)
read = (refl, refl, refl)

-- "the lent length divided by the row size, rounded down": three words more are no row
rounded : rows_of component_size component_at (1 ∷ 2 ∷ 3 ∷ 4 ∷ 5 ∷ 6 ∷ 7 ∷ []) ≡ component 1 2 3 4 ∷ []
unfolding tabulate
rounded = refl
