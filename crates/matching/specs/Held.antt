-- Serves inner contracts only. A property as a walk through the window of its component finds it, and those that such a walk has still to come to.
-- Assumes nothing.
use Rattle.std.specs.Prelude.{ℕ, List, [], ◌∷◌, ◌-◌, ◌/◌, ◌≤◌, ◌<◌, length, take, drop}
use Rattle.tables.specs.Rows.{property_size, property_at}
use Rattle.tables.specs.Lent.{Lent, held, properties_in, parameters_in}
use Rattle.tables.specs.Trees.{Property, property_of, gather}
use Rattle.tables.specs.Fronts.{front, own_property}
use Rattle.walking.specs.Walk.{held_before}
use Rattle.tables.specs.declared.PropertyRow.{PropertyRow}
use Rattle.matching.specs.declared.Held.{Held}
use Rattle.matching.specs.declared.properties.Properties.{Properties}

-- the property of the row, its parameters those that belong to it from `first` on
abbrev pub property_in : Lent → Held → Property
property_in b h = own_property b.text (property_at b.properties h.property) h.property h.first (parameters_in b.parameters)

-- the property of the row, with all parameters that belong to it
abbrev pub row_property : Lent → ℕ → Property
row_property b n = property_of b.text (parameters_in b.parameters) n (property_at b.properties n)

-- the walk has come past a row that is there, and no parameter before `first` belongs to it
pub record Passed (o : Properties) (n : ℕ) : Type 0 where
  pub there : n < length o.tables.now.properties.now / property_size
  pub behind : n < o.at
  pub none_before : o.first ≤ front (held_before n) (parameters_in o.tables.now.parameters.now)

-- of the rows from `at` up to `last`, those that belong to the component
abbrev pub left : Properties → List Property
left o =
    gather (λ (p : PropertyRow). p.owner) (λ n p rest. property_of (held o.tables.now).text (parameters_in (held o.tables.now).parameters) n p ∷ rest)
    [] o.row o.at (take (o.last - o.at) (drop o.at (properties_in (held o.tables.now).properties)))
