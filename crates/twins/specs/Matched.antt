-- Serves inner contracts only. What the recursive comparison tells, and what it knows where it stands.
-- Assumes nothing.
use Rattle.std.specs.Prelude.{ℕ, ◌≡◌, Bool, true, false, ◌&&◌, List, Option, MatchOption}
use Rattle.tables.specs.Lent.{Lent, components_in, properties_in, parameters_in, tree_in, name_in}
use Rattle.tables.specs.Trees.{properties_of}
use Rattle.walking.specs.Walk.{end_of, Reached}
use Rattle.walking.specs.declared.Window.{Window}
use Rattle.comparing.specs.Pieces.{same_name, same_parameters}
use Rattle.matching.specs.Alike.{alike, same_property_by, same_trees_by}
use Rattle.twins.specs.declared.Spot.{Spot}

-- a row that a walk begins at: a cursor of zeros has come to any row
abbrev pub start_at : ℕ → Spot
start_at row = record { row = row; cursor = record { property = 0; parameter = 0 } }

-- as far as a spot, at another row
abbrev pub at_row : ℕ → Spot → Spot
at_row row s = record { row = row; cursor = s.cursor }

-- where the window of a component says that its subtree ends, and that its children are looked for
abbrev pub spot_in : Window → Spot
spot_in w = record { row = w.end; cursor = w.cursor }

-- a spot whose row is behind the subtree of a row; its cursor has come to a row `here`
pub record Ended (b : Lent) (number here : ℕ) (spot : Spot) : Type 0 where
  pub end : spot.row ≡ end_of (components_in b.components) number
  pub reached : Reached (properties_in b.properties) (parameters_in b.parameters) spot.cursor here

-- a spot behind the subtree of a row
abbrev pub Behind : Lent → ℕ → Spot → Type 0
Behind b number spot = Ended b number spot.row spot

module _ (values : List ℕ → List ℕ → Bool) (b : Lent) where
  -- whether the heads of two rows are alike, names and then properties, and whether their trees are
  abbrev pub alike_heads : ℕ → ℕ → Bool
  alike_heads one other =
      same_name (name_in b.text (components_in b.components) one) (name_in b.text (components_in b.components) other)
      && alike (same_property_by values same_parameters) (properties_of b.text (properties_in b.properties) (parameters_in b.parameters) one)
      (properties_of b.text (properties_in b.properties) (parameters_in b.parameters) other)

  abbrev pub alike_trees : ℕ → ℕ → ℕ → Bool
  alike_trees level one other = same_trees_by values same_parameters (tree_in b level one) (tree_in b level other)

  -- names and properties of two components were compared, values by a test; where they are alike, the walk goes on with the children of both
  abbrev pub Headed : ℕ → ℕ → Option (Spot × Spot) → Type 0
  Headed one other found =
      MatchOption found (alike_heads one other ≡ false)
      (λ spots. (alike_heads one other ≡ true) × Ended b one one spots.0 × Ended b other other spots.1)

  -- two components were compared; where they are alike, the walk goes on behind both
  abbrev pub Matched : ℕ → ℕ → ℕ → Option (Spot × Spot) → Type 0
  Matched level one other found =
      MatchOption found (alike_trees level one other ≡ false)
      (λ spots. (alike_trees level one other ≡ true) × Behind b one spots.0 × Behind b other spots.1)
