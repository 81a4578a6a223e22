-- Tables in order and not, by example. Assumes nothing.
use mathlib.Core.Path.{◌≡◌, refl}
use mathlib.Core.Bool.{Bool, true, false}
use mathlib.Core.List.{List, [], ◌∷◌, map}
use Prim.Native.Nat.{ℕ}
use Rattle.octets.specs.Answers.{deepest}
use Rattle.tables.specs.Rows.{no_parent}
use Rattle.tables.specs.Sizes.{property_count}
use Rattle.tables.specs.TableRule.{out_from, first_broken, broken}
use Rattle.tables.specs.Trees.{gather, forest, tree_at}
use Rattle.tables.specs.Fronts.{front}
use Rattle.tables.specs.declared.ComponentRow.{ComponentRow}
use Rattle.tables.specs.declared.PropertyRow.{PropertyRow}
use Rattle.std.specs.Prelude.{None}
use Rattle.walking.specs.Walk.{end_of, window_count, tally, found_below, in_order}

abbrev component : ℕ → ComponentRow
component d = record { parent = 0; depth = d; name_start = 0; name_len = 0 }

abbrev property : ℕ → PropertyRow
property o = record { owner = o; key_start = 0; key_len = 0; value_start = 0; value_len = 0 }

-- a component with two children, the first with a child of its own, and another component
abbrev rows : List ComponentRow
rows = map component (1 ∷ 2 ∷ 3 ∷ 2 ∷ 1 ∷ [])

ends : map (end_of rows) (0 ∷ 1 ∷ 2 ∷ 3 ∷ 4 ∷ []) ≡ (4 ∷ 3 ∷ 3 ∷ 4 ∷ 5 ∷ [])
unfolding front
ends = refl

abbrev told : List ℕ → Bool
told owners = in_order rows (map property owners)

-- the owners of the properties: as a reading has them, with a child between, none at all;
-- then with a property of the outer one behind all others, with two children out of order, with an owner that is no row
in_order_holds : map told ((0 ∷ 1 ∷ 2 ∷ 2 ∷ 3 ∷ 4 ∷ []) ∷ (0 ∷ 1 ∷ 2 ∷ 1 ∷ 0 ∷ 3 ∷ 0 ∷ 4 ∷ []) ∷ [] ∷ (0 ∷ 4 ∷ 0 ∷ []) ∷ (3 ∷ 1 ∷ []) ∷ (0 ∷ 5 ∷ []) ∷ [])
    ≡ (true ∷ true ∷ true ∷ false ∷ false ∷ false ∷ [])
unfolding front tally found_below in_order
in_order_holds = refl

-- ---- a window inside may hold less than the subtree

-- a component in a component in a component
abbrev chain : List ComponentRow
chain =
    record { parent = no_parent; depth = 1; name_start = 0; name_len = 0 }
    ∷ record { parent = 0; depth = 2; name_start = 0; name_len = 0 }
    ∷ record { parent = 1; depth = 3; name_start = 0; name_len = 0 }
    ∷ []

-- the outermost one's property stands between those of the two others
abbrev parted : List PropertyRow
parted = map property (1 ∷ 0 ∷ 2 ∷ [])

-- the tables meet the rule and are in order; the tree of the second row has two properties, and its window one
inner_window : (broken 0 chain parted [] ≡ None) × (in_order chain parted ≡ true)
    × (property_count (tree_at [] chain parted [] deepest 1) ≡ 2) × (window_count chain parted 1 ≡ 1)
unfolding broken first_broken out_from front tally found_below in_order property_count forest gather
inner_window = (refl, refl, refl, refl)
