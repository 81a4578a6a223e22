-- When two trees are alike: piece by piece (document 01, "Writing and trees", and document 02, request 5). The orders of properties and of children
-- count; depth and row numbers are no part of a tree.
-- Trees are compared over any test of values and any test of parameter lists; the pieces are those of `comparing`.
-- Here document 01 departs from the RFC: docs/DIFFERENCES.md, R-29.
-- Assumes nothing.
use Rattle.std.specs.Prelude.{ℕ, Bool, true, false, ◌&&◌, List, [], ◌∷◌}
use Rattle.tables.specs.Trees.{Parameter, Property, Trees, none, tree}
use Rattle.comparing.specs.Pieces.{same_name, same_key, same_value, same_parameters}

-- as many, and each like the other's
unfoldable pub alike : {A : Type 0} → (A → A → Bool) → List A → List A → Bool
alike same [] [] = true
alike same [] (y ∷ ys) = false
alike same (x ∷ xs) [] = false
alike same (x ∷ xs) (y ∷ ys) = same x y && alike same xs ys

-- ---- trees

module _ (values : List ℕ → List ℕ → Bool) (parameters : List Parameter → List Parameter → Bool) where
  abbrev pub same_property_by : Property → Property → Bool
  same_property_by p q = same_key p.key q.key && (values p.value q.value && parameters p.parameters q.parameters)

  -- two lists of trees: as many, and each like the other's in its name, its properties in order and its children in order
  unfoldable pub same_trees_by : Trees → Trees → Bool
  same_trees_by none none = true
  same_trees_by none (tree name properties children rest) = false
  same_trees_by (tree name properties children rest) none = false
  same_trees_by (tree name properties children rest) (tree name' properties' children' rest') =
      same_name name name'
      && (alike same_property_by properties properties' && (same_trees_by children children' && same_trees_by rest rest'))

abbrev pub same_property : Property → Property → Bool
same_property = same_property_by same_value same_parameters

abbrev pub same_properties : List Property → List Property → Bool
same_properties = alike same_property

-- the twin test
abbrev pub same_trees : Trees → Trees → Bool
same_trees = same_trees_by same_value same_parameters
