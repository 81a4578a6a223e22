-- What the twin test answers (document 01, "Writing and trees" and "What each number returns and leaves"), and the looser one (document 02, request 1):
-- they differ in the test of values alone.
-- Assumes nothing.
use Rattle.std.specs.Prelude.{ℕ, Bool, List, length, Result, Ok, Err}
use Rattle.octets.specs.Choice.{pick}
use Rattle.octets.specs.Answers.{done, bad_table}
use Rattle.tables.specs.Lent.{Lent, components_in, broken_in, tree_in}
use Rattle.tables.specs.TableRule.{by_table_rule, by_number}
use Rattle.escapes.specs.Loose.{same_text}
use Rattle.comparing.specs.Pieces.{same_value, same_parameters}
use Rattle.matching.specs.Alike.{same_trees_by}
use Rattle.twins.specs.declared.Compared.{Compared}

-- answer, place, and 1 for twins, else 0
abbrev pub compared : ℕ → ℕ → ℕ → Compared
compared answer place twins = record { answer = answer; place = place; twins = twins }

-- so many levels of children may follow a component: with it they are 64
abbrev pub levels : ℕ
levels = 63

-- whether the trees of two rows are alike, by a test of values
abbrev pub rows_alike_by : (List ℕ → List ℕ → Bool) → Lent → ℕ → ℕ → Bool
rows_alike_by values b first second = same_trees_by values same_parameters (tree_in b levels first) (tree_in b levels second)

-- "two component rows of one reading are twins if their trees are equal, byte by byte", but for keys, which are compared "without regard to ASCII case",
-- and parameters, "as a multiset" (document 02, request 5)
abbrev pub twin_rows : Lent → ℕ → ℕ → Bool
twin_rows = rows_alike_by same_value

-- 14 with a row that breaks the table rule, or with "a row number not below the component count"
abbrev pub no_twins : ℕ → Compared
no_twins place = compared bad_table place 0

-- what was found out, as an answer
abbrev pub told : Result Bool ℕ → Compared
told (Ok alike) = compared done 0 (pick alike 1 0)
told (Err place) = no_twins place

-- "the first number first"
unfoldable pub compared_by : (List ℕ → List ℕ → Bool) → Lent → ℕ → ℕ → Compared
compared_by values b first second =
    by_table_rule no_twins (broken_in b)
    (by_number no_twins (length (components_in b.components)) first
    (by_number no_twins (length (components_in b.components)) second
    (compared done 0 (pick (rows_alike_by values b first second) 1 0))))

-- the twin test
abbrev pub twins_answer : Lent → ℕ → ℕ → Compared
twins_answer = compared_by same_value

-- document 02, request 1: "A looser twin test compares property values as read in the strict mode, or as bytes if either is refused there."
abbrev pub loose_twins_answer : Lent → ℕ → ℕ → Compared
loose_twins_answer = compared_by same_text
