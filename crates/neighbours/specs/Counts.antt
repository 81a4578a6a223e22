-- How many children of a component are like the sibling directly before them, and what the count answers (document 01, "Writing and trees" and
-- "What each number returns and leaves": the numbers of the twin test).
-- Assumes nothing.
use Rattle.std.specs.Prelude.{ℕ, ◌+◌, length, Result, Ok, Err}
use Rattle.octets.specs.Choice.{pick}
use Rattle.octets.specs.Answers.{deepest, done, bad_table}
use Rattle.tables.specs.Lent.{Lent, components_in, properties_in, parameters_in, broken_in}
use Rattle.tables.specs.Trees.{Trees, none, tree, children_of, forest}
use Rattle.tables.specs.TableRule.{by_table_rule, by_number}
use Rattle.matching.specs.Alike.{same_trees}
use Rattle.twins.specs.declared.Spot.{Spot}
use Rattle.neighbours.specs.declared.Neighbours.{Neighbours}

-- how many trees of a list are like the one directly before them; `before` stands before the first, and `none` is like no tree
unfoldable pub repeats : Trees → Trees → ℕ
repeats before none = 0
repeats before (tree name properties children rest) =
    pick (same_trees before (tree name properties children none)) 1 0
    + repeats (tree name properties children none) rest

-- the trees of the children of a row, as `trees_in` has those at the top
abbrev pub children_in : Lent → ℕ → Trees
children_in b row =
    children_of b.text (components_in b.components) (properties_in b.properties) (parameters_in b.parameters)
    (forest b.text (components_in b.components) (properties_in b.properties) (parameters_in b.parameters) deepest)
    row

-- where the first child of a row would stand, and a cursor of zeros, which has come to any row
abbrev pub first_child : ℕ → Spot
first_child parent = record { row = parent + 1; cursor = record { property = 0; parameter = 0 } }

-- answer, place, and the count
abbrev pub neighbours : ℕ → ℕ → ℕ → Neighbours
neighbours answer place twins = record { answer = answer; place = place; twins = twins }

-- 14 with a row that breaks the table rule, or with a number that is not below the component count
abbrev pub not_counted : ℕ → Neighbours
not_counted place = neighbours bad_table place 0

-- what was found out, as an answer
abbrev pub told : Result ℕ ℕ → Neighbours
told (Ok twins) = neighbours done 0 twins
told (Err place) = not_counted place

unfoldable pub neighbours_answer : Lent → ℕ → Neighbours
neighbours_answer b parent =
    by_table_rule not_counted (broken_in b)
    (by_number not_counted (length (components_in b.components)) parent
    (neighbours done 0 (repeats none (children_in b parent))))
