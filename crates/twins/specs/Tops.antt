-- Serves laws only. The rows at the top of a table, and the trees of rows in turn.
-- Assumes nothing.
use Rattle.std.specs.Prelude.{ℕ, List, [], ◌∷◌}
use Rattle.tables.specs.Rows.{no_parent}
use Rattle.tables.specs.Lent.{Lent, components_in, tree_in}
use Rattle.tables.specs.Trees.{Trees, none, tree, gather}
use Rattle.tables.specs.declared.ComponentRow.{ComponentRow}
use Rattle.twins.specs.Answers.{levels}

-- the numbers of the rows without a parent, in row order
abbrev pub top_rows : Lent → List ℕ
top_rows b = gather (λ (c : ComponentRow). c.parent) (λ row c rest. row ∷ rest) [] no_parent 0 (components_in b.components)

-- a tree put before others
unfoldable pub before : Trees → Trees → Trees
before none others = others
before (tree name properties children rest) others = tree name properties children others

-- the trees of rows, one after the other
unfoldable pub trees_at : Lent → List ℕ → Trees
trees_at b [] = none
trees_at b (row ∷ rows) = before (tree_in b levels row) (trees_at b rows)
