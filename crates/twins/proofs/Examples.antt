-- Worked cases of the twin test, by hand. Assumes nothing.
use mathlib.Core.Path.{◌≡◌, refl}
use mathlib.Core.Bool.{true}
use mathlib.Core.List.{List, [], ◌∷◌, ◌++◌}
use Prim.Native.Nat.{ℕ}
use Rattle.octets.specs.Words.{same_bytes}
use Rattle.octets.specs.Answers.{done, bad_table}
use Rattle.tables.specs.Rows.{no_parent, tabulate}
use Rattle.tables.specs.TableRule.{out_from, first_broken, broken}
use Rattle.tables.specs.Fronts.{front}
use Rattle.tables.specs.Lent.{Lent, lent, components_in, properties_in}
use Rattle.tables.specs.Trees.{gather, forest}
use Rattle.walking.specs.Walk.{window_count, tally, found_below, in_order}
use Rattle.comparing.specs.Multisets.{many_of, as_often}
use Rattle.matching.specs.Alike.{alike, same_trees_by}
use Rattle.twins.specs.Answers.{compared, compared_by, twins_answer}

-- the text `ab`; two components of three levels each, all with the name `a` and a property of key `a`; the owners of the properties are given,
-- and the start of the last one's value
abbrev components : List ℕ
components =
    (no_parent ∷ 1 ∷ 0 ∷ 1 ∷ 0 ∷ 2 ∷ 0 ∷ 1 ∷ 1 ∷ 3 ∷ 0 ∷ 1 ∷ [])
    ++ (no_parent ∷ 1 ∷ 0 ∷ 1 ∷ 3 ∷ 2 ∷ 0 ∷ 1 ∷ 4 ∷ 3 ∷ 0 ∷ 1 ∷ [])

abbrev property : ℕ → ℕ → List ℕ
property value owner = owner ∷ 0 ∷ 1 ∷ value ∷ 1 ∷ []

abbrev tables : ℕ → Lent
tables value =
    lent (97 ∷ 98 ∷ []) components
    (property 1 1 ++ (property 1 0 ++ (property 1 2 ++ (property 1 3 ++ (property 1 4 ++ property value 5)))))
    []

-- the outer and the inner ones are twins; one value further in they are not; a component is no twin of its child; of two numbers that are no rows the
-- first is told
answers : twins_answer (tables 1) 0 3 ∷ twins_answer (tables 1) 1 4 ∷ twins_answer (tables 0) 0 3 ∷ twins_answer (tables 0) 1 4 ∷ twins_answer (tables 1) 0 1
    ∷ twins_answer (tables 1) 7 6 ∷ twins_answer (tables 1) 5 6 ∷ []
    ≡ compared done 0 1 ∷ compared done 0 1 ∷ compared done 0 0 ∷ compared done 0 0 ∷ compared done 0 0 ∷ compared bad_table 7 0 ∷ compared bad_table 6 0 ∷ []
unfolding compared_by broken first_broken out_from tabulate gather forest alike same_trees_by same_bytes many_of as_often
answers = refl

-- the windows of twins may hold unequally many properties, though the tables are in order: these counts cannot tell components apart
unequal_windows : (in_order (components_in components) (properties_in (tables 1).properties) ≡ true)
    × (window_count (components_in components) (properties_in (tables 1).properties) 1 ≡ 1)
    × (window_count (components_in components) (properties_in (tables 1).properties) 4 ≡ 2)
unfolding tabulate front tally found_below in_order
unequal_windows = (refl, refl, refl)
