-- Serves laws only. How many components, properties and parameters trees have.
-- Assumes nothing.
use Rattle.std.specs.Prelude.{ℕ, ◌+◌, List, [], ◌∷◌, length}
use Rattle.tables.specs.Trees.{Property, Trees, none, tree}

unfoldable pub component_count : Trees → ℕ
component_count none = 0
component_count (tree name properties children rest) = 1 + component_count children + component_count rest

unfoldable pub property_count : Trees → ℕ
property_count none = 0
property_count (tree name properties children rest) = length properties + property_count children + property_count rest

-- the parameters of properties
unfoldable pub held_count : List Property → ℕ
held_count [] = 0
held_count (p ∷ ps) = length p.parameters + held_count ps

unfoldable pub parameter_count : Trees → ℕ
parameter_count none = 0
parameter_count (tree name properties children rest) = held_count properties + parameter_count children + parameter_count rest
