-- Serves laws only. The looser twin test (document 02, request 1), on tables made by hand: loose twins (1), none (0), and 14 as in the twin test.
-- Assumes nothing.
use Rattle.std.specs.Prelude.{ℕ, ◌+◌, List, [], ◌∷◌, ◌++◌, length}
use Rattle.octets.specs.Literals.{bytes}
use Rattle.tables.specs.Lent.{Lent, lent}
use Rattle.worked.specs.Cases.{Case, case, compares, compares_loosely}
use Rattle.worked.specs.Twins.{two_holders}

-- two components `A` at the top, each with a property `K`: these are the values
abbrev pub two_values : List ℕ → List ℕ → Lent
two_values v w =
    lent (bytes "AK" ++ (v ++ w))
    (4294967295 ∷ 1 ∷ 0 ∷ 1 ∷ 4294967295 ∷ 1 ∷ 0 ∷ 1 ∷ [])
    (0 ∷ 1 ∷ 1 ∷ 2 ∷ length v ∷ 1 ∷ 1 ∷ 1 ∷ (2 + length v) ∷ length w ∷ [])
    []

-- loose twins: 0, 0 and 1; beside the twin test where it answers otherwise
abbrev pub loose_twin_cases : List Case
loose_twin_cases =
    -- "compares property values as read in the strict mode"
    case "an escaped comma and a bare one, loosely"
    (compares_loosely (two_values (bytes "\\,") (bytes ",")) 0 1 (0 ∷ 0 ∷ 1 ∷ []))
    -- "equal, byte by byte"
    ∷ case "an escaped comma and a bare one"
    (compares (two_values (bytes "\\,") (bytes ",")) 0 1 (0 ∷ 0 ∷ 0 ∷ []))
    -- "n or N for a line break"
    ∷ case "an escaped small n and a capital one, loosely"
    (compares_loosely (two_values (bytes "\\n") (bytes "\\N")) 0 1 (0 ∷ 0 ∷ 1 ∷ []))
    -- "equal, byte by byte"
    ∷ case "an escaped small n and a capital one"
    (compares (two_values (bytes "\\n") (bytes "\\N")) 0 1 (0 ∷ 0 ∷ 0 ∷ []))
    -- a line break either way
    ∷ case "an escaped n and an LF, loosely"
    (compares_loosely (two_values (bytes "\\n") (bytes "\n")) 0 1 (0 ∷ 0 ∷ 1 ∷ []))
    -- the second value may have the escape
    ∷ case "a bare semicolon and an escaped one, loosely"
    (compares_loosely (two_values (bytes ";") (bytes "\\;")) 0 1 (0 ∷ 0 ∷ 1 ∷ []))
    -- "or as bytes if either is refused there": the same bytes
    ∷ case "an unknown escape twice, loosely"
    (compares_loosely (two_values (bytes "\\x") (bytes "\\x")) 0 1 (0 ∷ 0 ∷ 1 ∷ []))
    -- the same
    ∷ case "a backslash at the end twice, loosely"
    (compares_loosely (two_values (bytes "a\\") (bytes "a\\")) 0 1 (0 ∷ 0 ∷ 1 ∷ []))
    -- the same, since the strict mode has no `\:`
    ∷ case "an escaped colon twice, loosely"
    (compares_loosely (two_values (bytes "\\:") (bytes "\\:")) 0 1 (0 ∷ 0 ∷ 1 ∷ []))
    -- no byte differs
    ∷ case "two empty values, loosely"
    (compares_loosely (two_values [] []) 0 1 (0 ∷ 0 ∷ 1 ∷ []))
    -- each of the values
    ∷ case "an escape more in each of two properties, loosely"
    (compares_loosely (lent (bytes "AK\\,,")
    (4294967295 ∷ 1 ∷ 0 ∷ 1 ∷ 4294967295 ∷ 1 ∷ 0 ∷ 1 ∷ [])
    (0 ∷ 1 ∷ 1 ∷ 2 ∷ 2 ∷ 0 ∷ 1 ∷ 1 ∷ 4 ∷ 1 ∷ 1 ∷ 1 ∷ 1 ∷ 4 ∷ 1 ∷ 1 ∷ 1 ∷ 1 ∷ 2 ∷ 2 ∷ [])
    [])
    0 1 (0 ∷ 0 ∷ 1 ∷ []))
    -- a tree has its children
    ∷ case "an escaped comma in a child, loosely"
    (compares_loosely (lent (bytes "AK\\,,")
    (4294967295 ∷ 1 ∷ 0 ∷ 1 ∷ 0 ∷ 2 ∷ 0 ∷ 1 ∷ 4294967295 ∷ 1 ∷ 0 ∷ 1 ∷ 2 ∷ 2 ∷ 0 ∷ 1 ∷ [])
    (1 ∷ 1 ∷ 1 ∷ 2 ∷ 2 ∷ 3 ∷ 1 ∷ 1 ∷ 4 ∷ 1 ∷ [])
    [])
    0 2 (0 ∷ 0 ∷ 1 ∷ []))
    -- "One alone gives the inside": the parameters as in the twin test
    ∷ case "a parameter quoted and bare, loosely"
    (compares_loosely (lent (bytes "AKPv\"a\"a")
    (4294967295 ∷ 1 ∷ 0 ∷ 1 ∷ 4294967295 ∷ 1 ∷ 0 ∷ 1 ∷ [])
    (0 ∷ 1 ∷ 1 ∷ 3 ∷ 1 ∷ 1 ∷ 1 ∷ 1 ∷ 3 ∷ 1 ∷ [])
    (0 ∷ 2 ∷ 1 ∷ 1 ∷ 5 ∷ 1 ∷ 1 ∷ 2 ∷ 1 ∷ 1 ∷ 7 ∷ 1 ∷ []))
    0 1 (0 ∷ 0 ∷ 1 ∷ []))
    ∷ []

-- no loose twins: 0, 0 and 0
abbrev pub loose_unlike_cases : List Case
loose_unlike_cases =
    -- "or as bytes if either is refused there"
    case "an unknown escape and its letter, loosely"
    (compares_loosely (two_values (bytes "\\x") (bytes "x")) 0 1 (0 ∷ 0 ∷ 0 ∷ []))
    -- the first is refused, and the second is read as `a\` (T-13)
    ∷ case "a backslash at the end and an escaped one, loosely"
    (compares_loosely (two_values (bytes "a\\") (bytes "a\\\\")) 0 1 (0 ∷ 0 ∷ 0 ∷ []))
    -- the other way round
    ∷ case "an escaped backslash and one at the end, loosely"
    (compares_loosely (two_values (bytes "a\\\\") (bytes "a\\")) 0 1 (0 ∷ 0 ∷ 0 ∷ []))
    -- the same of an unknown escape
    ∷ case "an unknown escape and an escaped backslash, loosely"
    (compares_loosely (two_values (bytes "\\x") (bytes "\\\\x")) 0 1 (0 ∷ 0 ∷ 0 ∷ []))
    -- "in the strict mode": it has no `\:`
    ∷ case "an escaped colon and a bare one, loosely"
    (compares_loosely (two_values (bytes "\\:") (bytes ":")) 0 1 (0 ∷ 0 ∷ 0 ∷ []))
    -- "as bytes if either is refused": the whole values
    ∷ case "a good escape before a bad one, loosely"
    (compares_loosely (two_values (bytes "\\,\\x") (bytes ",\\x")) 0 1 (0 ∷ 0 ∷ 0 ∷ []))
    -- it stands for a line break
    ∷ case "an escaped n and an n, loosely"
    (compares_loosely (two_values (bytes "\\n") (bytes "n")) 0 1 (0 ∷ 0 ∷ 0 ∷ []))
    -- two texts
    ∷ case "two escapes that differ, loosely"
    (compares_loosely (two_values (bytes "\\,") (bytes "\\;")) 0 1 (0 ∷ 0 ∷ 0 ∷ []))
    -- the same
    ∷ case "a text and a longer one, loosely"
    (compares_loosely (two_values (bytes "\\,") (bytes ",a")) 0 1 (0 ∷ 0 ∷ 0 ∷ []))
    -- "equal, byte by byte" but for property values: a component name
    ∷ case "an escaped comma in a name, loosely"
    (compares_loosely (lent (bytes "\\,,") (4294967295 ∷ 1 ∷ 0 ∷ 2 ∷ 4294967295 ∷ 1 ∷ 2 ∷ 1 ∷ []) [] []) 0 1 (0 ∷ 0 ∷ 0 ∷ []))
    -- a property key
    ∷ case "an escaped comma in a property key, loosely"
    (compares_loosely (lent (bytes "Av\\,,")
    (4294967295 ∷ 1 ∷ 0 ∷ 1 ∷ 4294967295 ∷ 1 ∷ 0 ∷ 1 ∷ [])
    (0 ∷ 2 ∷ 2 ∷ 1 ∷ 1 ∷ 1 ∷ 4 ∷ 1 ∷ 1 ∷ 1 ∷ [])
    [])
    0 1 (0 ∷ 0 ∷ 0 ∷ []))
    -- a parameter key
    ∷ case "an escaped comma in a parameter key, loosely"
    (compares_loosely (lent (bytes "AKv\\,,")
    (4294967295 ∷ 1 ∷ 0 ∷ 1 ∷ 4294967295 ∷ 1 ∷ 0 ∷ 1 ∷ [])
    (0 ∷ 1 ∷ 1 ∷ 2 ∷ 1 ∷ 1 ∷ 1 ∷ 1 ∷ 2 ∷ 1 ∷ [])
    (0 ∷ 3 ∷ 2 ∷ 0 ∷ 0 ∷ 0 ∷ 1 ∷ 5 ∷ 1 ∷ 0 ∷ 0 ∷ 0 ∷ []))
    0 1 (0 ∷ 0 ∷ 0 ∷ []))
    -- a parameter value: it is no TEXT
    ∷ case "an escaped comma in a parameter, loosely"
    (compares_loosely (lent (bytes "AKvP\\,,")
    (4294967295 ∷ 1 ∷ 0 ∷ 1 ∷ 4294967295 ∷ 1 ∷ 0 ∷ 1 ∷ [])
    (0 ∷ 1 ∷ 1 ∷ 2 ∷ 1 ∷ 1 ∷ 1 ∷ 1 ∷ 2 ∷ 1 ∷ [])
    (0 ∷ 3 ∷ 1 ∷ 1 ∷ 4 ∷ 2 ∷ 1 ∷ 3 ∷ 1 ∷ 1 ∷ 6 ∷ 1 ∷ []))
    0 1 (0 ∷ 0 ∷ 0 ∷ []))
    -- "the properties in order"
    ∷ case "two properties in another order, loosely"
    (compares_loosely (lent (bytes "AKLv")
    (4294967295 ∷ 1 ∷ 0 ∷ 1 ∷ 4294967295 ∷ 1 ∷ 0 ∷ 1 ∷ [])
    (0 ∷ 1 ∷ 1 ∷ 3 ∷ 1 ∷ 0 ∷ 2 ∷ 1 ∷ 3 ∷ 1 ∷ 1 ∷ 2 ∷ 1 ∷ 3 ∷ 1 ∷ 1 ∷ 1 ∷ 1 ∷ 3 ∷ 1 ∷ [])
    [])
    0 1 (0 ∷ 0 ∷ 0 ∷ []))
    -- a tree has all of its properties
    ∷ case "a property more, loosely"
    (compares_loosely (lent (bytes "AKv")
    (4294967295 ∷ 1 ∷ 0 ∷ 1 ∷ 4294967295 ∷ 1 ∷ 0 ∷ 1 ∷ [])
    (0 ∷ 1 ∷ 1 ∷ 2 ∷ 1 ∷ [])
    [])
    0 1 (0 ∷ 0 ∷ 0 ∷ []))
    ∷ []

-- 14 as in the twin test: by the table rule, then by a row number
abbrev pub loose_refused_cases : List Case
loose_refused_cases =
    -- "at least one component (none: place 0)"
    case "no component to compare loosely"
    (compares_loosely (lent (bytes "A") [] [] []) 0 0 (14 ∷ 0 ∷ 0 ∷ []))
    -- "A broken table rule gives 14 with the row"
    ∷ case "a broken component, loosely"
    (compares_loosely (lent (bytes "A") (4294967295 ∷ 1 ∷ 0 ∷ 1 ∷ 4294967295 ∷ 2 ∷ 0 ∷ 1 ∷ []) [] []) 0 1 (14 ∷ 1 ∷ 0 ∷ []))
    -- numbered on from the components
    ∷ case "a broken property, loosely"
    (compares_loosely (lent (bytes "AKv") (4294967295 ∷ 1 ∷ 0 ∷ 1 ∷ []) (1 ∷ 1 ∷ 1 ∷ 2 ∷ 1 ∷ []) []) 0 0 (14 ∷ 1 ∷ 0 ∷ []))
    -- and from the properties
    ∷ case "a broken parameter, loosely"
    (compares_loosely (lent (bytes "AKv") (4294967295 ∷ 1 ∷ 0 ∷ 1 ∷ []) (0 ∷ 1 ∷ 1 ∷ 2 ∷ 1 ∷ []) (0 ∷ 1 ∷ 1 ∷ 2 ∷ 2 ∷ 1 ∷ [])) 0 0 (14 ∷ 2 ∷ 0 ∷ []))
    -- a bad escape is no broken row
    ∷ case "a broken property behind a bad escape, loosely"
    (compares_loosely (lent (bytes "AK\\x") (4294967295 ∷ 1 ∷ 0 ∷ 1 ∷ []) (0 ∷ 1 ∷ 1 ∷ 2 ∷ 2 ∷ 0 ∷ 1 ∷ 1 ∷ 2 ∷ 3 ∷ []) []) 0 0 (14 ∷ 2 ∷ 0 ∷ []))
    -- "then a row number not below the component count gives 14 with that number"
    ∷ case "a first number that is no row, loosely"
    (compares_loosely (lent (bytes "A") (4294967295 ∷ 1 ∷ 0 ∷ 1 ∷ []) [] []) 1 0 (14 ∷ 1 ∷ 0 ∷ []))
    -- the same
    ∷ case "a second number that is no row, loosely"
    (compares_loosely (lent (bytes "A") (4294967295 ∷ 1 ∷ 0 ∷ 1 ∷ []) [] []) 0 1 (14 ∷ 1 ∷ 0 ∷ []))
    -- "the first number first"
    ∷ case "two numbers that are no rows, loosely"
    (compares_loosely (lent (bytes "A") (4294967295 ∷ 1 ∷ 0 ∷ 1 ∷ []) [] []) 3 2 (14 ∷ 3 ∷ 0 ∷ []))
    -- "A broken table rule gives 14 with the row; then a row number"
    ∷ case "a broken component before a number, loosely"
    (compares_loosely (lent (bytes "A") (4294967295 ∷ 2 ∷ 0 ∷ 1 ∷ []) [] []) 5 4 (14 ∷ 0 ∷ 0 ∷ []))
    ∷ []

-- keys without case and parameters in any order, as in the twin test (document 02, request 5): 0, 0 and 1, or 0, 0 and 0
abbrev pub loose_any_case_or_order : List Case
loose_any_case_or_order =
    -- "differs from twins in values alone": keys as there
    case "a property key in another case, loosely"
    (compares_loosely (lent (bytes "AKvk")
    (4294967295 ∷ 1 ∷ 0 ∷ 1 ∷ 4294967295 ∷ 1 ∷ 0 ∷ 1 ∷ [])
    (0 ∷ 1 ∷ 1 ∷ 2 ∷ 1 ∷ 1 ∷ 3 ∷ 1 ∷ 2 ∷ 1 ∷ [])
    [])
    0 1 (0 ∷ 0 ∷ 1 ∷ []))
    -- and parameters as there
    ∷ case "two parameters in another order and case, loosely"
    (compares_loosely (two_holders (bytes "AKvC1B2bc")
    (0 ∷ 3 ∷ 1 ∷ 1 ∷ 4 ∷ 1 ∷ 0 ∷ 5 ∷ 1 ∷ 1 ∷ 6 ∷ 1 ∷ 1 ∷ 7 ∷ 1 ∷ 1 ∷ 6 ∷ 1 ∷ 1 ∷ 8 ∷ 1 ∷ 1 ∷ 4 ∷ 1 ∷ []))
    0 1 (0 ∷ 0 ∷ 1 ∷ []))
    -- values as texts, which have their case
    ∷ case "a property value in another case, loosely"
    (compares_loosely (lent (bytes "AKxX")
    (4294967295 ∷ 1 ∷ 0 ∷ 1 ∷ 4294967295 ∷ 1 ∷ 0 ∷ 1 ∷ [])
    (0 ∷ 1 ∷ 1 ∷ 2 ∷ 1 ∷ 1 ∷ 1 ∷ 1 ∷ 3 ∷ 1 ∷ [])
    [])
    0 1 (0 ∷ 0 ∷ 0 ∷ []))
    -- as many of each
    ∷ case "one of each and one twice, loosely"
    (compares_loosely (two_holders (bytes "AKvP12")
    (0 ∷ 3 ∷ 1 ∷ 1 ∷ 4 ∷ 1 ∷ 0 ∷ 3 ∷ 1 ∷ 1 ∷ 5 ∷ 1 ∷ 1 ∷ 3 ∷ 1 ∷ 1 ∷ 5 ∷ 1 ∷ 1 ∷ 3 ∷ 1 ∷ 1 ∷ 5 ∷ 1 ∷ []))
    0 1 (0 ∷ 0 ∷ 0 ∷ []))
    ∷ []
