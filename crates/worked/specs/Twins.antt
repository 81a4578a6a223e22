-- Serves laws only. The twin test and the count of neighbours, on tables made by hand: twins (1), no twins (0), 14 by the table rule and by a row number, and their order.
-- Assumes nothing.
use Rattle.std.specs.Prelude.{ℕ, List, [], ◌∷◌}
use Rattle.octets.specs.Literals.{bytes}
use Rattle.tables.specs.Lent.{Lent, lent}
use Rattle.worked.specs.Cases.{Case, case, compares, counts}

-- twins: 0, 0 and 1
abbrev pub alike_cases : List Case
alike_cases =
    -- "Two component rows of one reading are twins if their trees are equal": a row has one tree
    case "a row with itself"
    (compares (lent (bytes "A") (4294967295 ∷ 1 ∷ 0 ∷ 1 ∷ []) [] []) 0 0 (0 ∷ 0 ∷ 1 ∷ []))
    -- "The test returns answer, place, and 1 for twins, else 0."
    ∷ case "two components of one name"
    (compares (lent (bytes "A") (4294967295 ∷ 1 ∷ 0 ∷ 1 ∷ 4294967295 ∷ 1 ∷ 0 ∷ 1 ∷ []) [] []) 0 1 (0 ∷ 0 ∷ 1 ∷ []))
    -- "equal, byte by byte": the bytes count, and not where they stand
    ∷ case "the same bytes elsewhere"
    (compares (lent (bytes "AKvAKv")
    (4294967295 ∷ 1 ∷ 0 ∷ 1 ∷ 4294967295 ∷ 1 ∷ 3 ∷ 1 ∷ [])
    (0 ∷ 1 ∷ 1 ∷ 2 ∷ 1 ∷ 1 ∷ 4 ∷ 1 ∷ 5 ∷ 1 ∷ [])
    [])
    0 1 (0 ∷ 0 ∷ 1 ∷ []))
    -- any two rows may be asked of
    ∷ case "two children alike"
    (compares (lent (bytes "AB") (4294967295 ∷ 1 ∷ 0 ∷ 1 ∷ 0 ∷ 2 ∷ 1 ∷ 1 ∷ 0 ∷ 2 ∷ 1 ∷ 1 ∷ []) [] []) 1 2 (0 ∷ 0 ∷ 1 ∷ []))
    -- "A tree is a name, the properties in order .., the children in order": the depth is no part of it
    ∷ case "rows of two depths"
    (compares (lent (bytes "AB") (4294967295 ∷ 1 ∷ 1 ∷ 1 ∷ 4294967295 ∷ 1 ∷ 0 ∷ 1 ∷ 1 ∷ 2 ∷ 1 ∷ 1 ∷ []) [] []) 0 2 (0 ∷ 0 ∷ 1 ∷ []))
    -- "the children in order"
    ∷ case "a child in each"
    (compares (lent (bytes "AB") (4294967295 ∷ 1 ∷ 0 ∷ 1 ∷ 0 ∷ 2 ∷ 1 ∷ 1 ∷ 4294967295 ∷ 1 ∷ 0 ∷ 1 ∷ 2 ∷ 2 ∷ 1 ∷ 1 ∷ []) [] []) 0 2 (0 ∷ 0 ∷ 1 ∷ []))
    -- "One alone gives the inside": the quotes of a parameter value are no part of it
    ∷ case "a parameter quoted and bare"
    (compares (lent (bytes "AKPv\"a\"a")
    (4294967295 ∷ 1 ∷ 0 ∷ 1 ∷ 4294967295 ∷ 1 ∷ 0 ∷ 1 ∷ [])
    (0 ∷ 1 ∷ 1 ∷ 3 ∷ 1 ∷ 1 ∷ 1 ∷ 1 ∷ 3 ∷ 1 ∷ [])
    (0 ∷ 2 ∷ 1 ∷ 1 ∷ 5 ∷ 1 ∷ 1 ∷ 2 ∷ 1 ∷ 1 ∷ 7 ∷ 1 ∷ []))
    0 1 (0 ∷ 0 ∷ 1 ∷ []))
    -- "Without `=` the value is absent."
    ∷ case "two absent values"
    (compares (lent (bytes "AKvP")
    (4294967295 ∷ 1 ∷ 0 ∷ 1 ∷ 4294967295 ∷ 1 ∷ 0 ∷ 1 ∷ [])
    (0 ∷ 1 ∷ 1 ∷ 2 ∷ 1 ∷ 1 ∷ 1 ∷ 1 ∷ 2 ∷ 1 ∷ [])
    (0 ∷ 3 ∷ 1 ∷ 0 ∷ 0 ∷ 0 ∷ 1 ∷ 3 ∷ 1 ∷ 0 ∷ 0 ∷ 0 ∷ []))
    0 1 (0 ∷ 0 ∷ 1 ∷ []))
    -- "An empty property value has its own start and length 0.": its start is no part of the tree
    ∷ case "empty values at two starts"
    (compares (lent (bytes "AKv")
    (4294967295 ∷ 1 ∷ 0 ∷ 1 ∷ 4294967295 ∷ 1 ∷ 0 ∷ 1 ∷ [])
    (0 ∷ 1 ∷ 1 ∷ 2 ∷ 0 ∷ 1 ∷ 1 ∷ 1 ∷ 3 ∷ 0 ∷ [])
    [])
    0 1 (0 ∷ 0 ∷ 1 ∷ []))
    -- "the properties in order": those of one component, whatever stands between them (C-47)
    ∷ case "a property before that of an earlier row"
    (compares (lent (bytes "AKv")
    (4294967295 ∷ 1 ∷ 0 ∷ 1 ∷ 4294967295 ∷ 1 ∷ 0 ∷ 1 ∷ [])
    (1 ∷ 1 ∷ 1 ∷ 2 ∷ 1 ∷ 0 ∷ 1 ∷ 1 ∷ 2 ∷ 1 ∷ [])
    [])
    0 1 (0 ∷ 0 ∷ 1 ∷ []))
    -- "rounded down" (C-07)
    ∷ case "words left over to compare"
    (compares (lent (bytes "A")
    (4294967295 ∷ 1 ∷ 0 ∷ 1 ∷ 4294967295 ∷ 1 ∷ 0 ∷ 1 ∷ 9 ∷ 9 ∷ 9 ∷ [])
    (9 ∷ 9 ∷ 9 ∷ 9 ∷ [])
    (9 ∷ 9 ∷ 9 ∷ 9 ∷ 9 ∷ []))
    0 1 (0 ∷ 0 ∷ 1 ∷ []))
    ∷ []

-- two components `A` at the top, each with a property `K:v`: the text, which begins with these three bytes, and the words of the parameters
abbrev pub two_holders : List ℕ → List ℕ → Lent
two_holders text = lent text (4294967295 ∷ 1 ∷ 0 ∷ 1 ∷ 4294967295 ∷ 1 ∷ 0 ∷ 1 ∷ []) (0 ∷ 1 ∷ 1 ∷ 2 ∷ 1 ∷ 1 ∷ 1 ∷ 1 ∷ 2 ∷ 1 ∷ [])

-- twins by keys without case and parameters in any order (document 02, request 5): 0, 0 and 1
abbrev pub any_case_or_order : List Case
any_case_or_order =
    -- "compare property and parameter names without regard to ASCII case"
    case "a property key in another case"
    (compares (lent (bytes "AKvk")
    (4294967295 ∷ 1 ∷ 0 ∷ 1 ∷ 4294967295 ∷ 1 ∷ 0 ∷ 1 ∷ [])
    (0 ∷ 1 ∷ 1 ∷ 2 ∷ 1 ∷ 1 ∷ 3 ∷ 1 ∷ 2 ∷ 1 ∷ [])
    [])
    0 1 (0 ∷ 0 ∷ 1 ∷ []))
    -- a word of letters of both cases
    ∷ case "a longer property key in another case"
    (compares (lent (bytes "ADtStartvdTsTART")
    (4294967295 ∷ 1 ∷ 0 ∷ 1 ∷ 4294967295 ∷ 1 ∷ 0 ∷ 1 ∷ [])
    (0 ∷ 1 ∷ 7 ∷ 8 ∷ 1 ∷ 1 ∷ 9 ∷ 7 ∷ 8 ∷ 1 ∷ [])
    [])
    0 1 (0 ∷ 0 ∷ 1 ∷ []))
    -- "parameter names"
    ∷ case "a parameter key in another case"
    (compares (two_holders (bytes "AKvPp") (0 ∷ 3 ∷ 1 ∷ 0 ∷ 0 ∷ 0 ∷ 1 ∷ 4 ∷ 1 ∷ 0 ∷ 0 ∷ 0 ∷ [])) 0 1 (0 ∷ 0 ∷ 1 ∷ []))
    -- "a property's parameters as a multiset"
    ∷ case "two parameters in another order"
    (compares (two_holders (bytes "AKvPQ")
    (0 ∷ 3 ∷ 1 ∷ 0 ∷ 0 ∷ 0 ∷ 0 ∷ 4 ∷ 1 ∷ 0 ∷ 0 ∷ 0 ∷ 1 ∷ 4 ∷ 1 ∷ 0 ∷ 0 ∷ 0 ∷ 1 ∷ 3 ∷ 1 ∷ 0 ∷ 0 ∷ 0 ∷ []))
    0 1 (0 ∷ 0 ∷ 1 ∷ []))
    -- "`;A=1;B=2` against `;b=2;a=1` are twins"
    ∷ case "two parameters in another order and case"
    (compares (two_holders (bytes "AKvC1B2bc")
    (0 ∷ 3 ∷ 1 ∷ 1 ∷ 4 ∷ 1 ∷ 0 ∷ 5 ∷ 1 ∷ 1 ∷ 6 ∷ 1 ∷ 1 ∷ 7 ∷ 1 ∷ 1 ∷ 6 ∷ 1 ∷ 1 ∷ 8 ∷ 1 ∷ 1 ∷ 4 ∷ 1 ∷ []))
    0 1 (0 ∷ 0 ∷ 1 ∷ []))
    -- one present and one absent
    ∷ case "a value and none in another order"
    (compares (two_holders (bytes "AKvP1Q")
    (0 ∷ 3 ∷ 1 ∷ 1 ∷ 4 ∷ 1 ∷ 0 ∷ 5 ∷ 1 ∷ 0 ∷ 0 ∷ 0 ∷ 1 ∷ 5 ∷ 1 ∷ 0 ∷ 0 ∷ 0 ∷ 1 ∷ 3 ∷ 1 ∷ 1 ∷ 4 ∷ 1 ∷ []))
    0 1 (0 ∷ 0 ∷ 1 ∷ []))
    -- as many of each
    ∷ case "one parameter twice and one once, in another order"
    (compares (two_holders (bytes "AKvP1Q2")
    (0 ∷ 3 ∷ 1 ∷ 1 ∷ 4 ∷ 1 ∷ 0 ∷ 3 ∷ 1 ∷ 1 ∷ 4 ∷ 1 ∷ 0 ∷ 5 ∷ 1 ∷ 1 ∷ 6 ∷ 1 ∷ 1 ∷ 5 ∷ 1 ∷ 1 ∷ 6 ∷ 1 ∷ 1 ∷ 3 ∷ 1 ∷ 1 ∷ 4 ∷ 1 ∷ 1 ∷ 3 ∷ 1 ∷ 1 ∷ 4 ∷ 1 ∷ []))
    0 1 (0 ∷ 0 ∷ 1 ∷ []))
    -- one key with two values
    ∷ case "one key twice, in another order"
    (compares (two_holders (bytes "AKvP1p2")
    (0 ∷ 3 ∷ 1 ∷ 1 ∷ 4 ∷ 1 ∷ 0 ∷ 5 ∷ 1 ∷ 1 ∷ 6 ∷ 1 ∷ 1 ∷ 3 ∷ 1 ∷ 1 ∷ 6 ∷ 1 ∷ 1 ∷ 5 ∷ 1 ∷ 1 ∷ 4 ∷ 1 ∷ []))
    0 1 (0 ∷ 0 ∷ 1 ∷ []))
    -- all orders of three
    ∷ case "parameters PQR and PQR"
    (compares (two_holders (bytes "AKvP1Q2R3")
    (0 ∷ 3 ∷ 1 ∷ 1 ∷ 4 ∷ 1 ∷ 0 ∷ 5 ∷ 1 ∷ 1 ∷ 6 ∷ 1 ∷ 0 ∷ 7 ∷ 1 ∷ 1 ∷ 8 ∷ 1 ∷ 1 ∷ 3 ∷ 1 ∷ 1 ∷ 4 ∷ 1 ∷ 1 ∷ 5 ∷ 1 ∷ 1 ∷ 6 ∷ 1 ∷ 1 ∷ 7 ∷ 1 ∷ 1 ∷ 8 ∷ 1 ∷ []))
    0 1 (0 ∷ 0 ∷ 1 ∷ []))
    -- the same
    ∷ case "parameters PQR and PRQ"
    (compares (two_holders (bytes "AKvP1Q2R3")
    (0 ∷ 3 ∷ 1 ∷ 1 ∷ 4 ∷ 1 ∷ 0 ∷ 5 ∷ 1 ∷ 1 ∷ 6 ∷ 1 ∷ 0 ∷ 7 ∷ 1 ∷ 1 ∷ 8 ∷ 1 ∷ 1 ∷ 3 ∷ 1 ∷ 1 ∷ 4 ∷ 1 ∷ 1 ∷ 7 ∷ 1 ∷ 1 ∷ 8 ∷ 1 ∷ 1 ∷ 5 ∷ 1 ∷ 1 ∷ 6 ∷ 1 ∷ []))
    0 1 (0 ∷ 0 ∷ 1 ∷ []))
    -- the same
    ∷ case "parameters PQR and QPR"
    (compares (two_holders (bytes "AKvP1Q2R3")
    (0 ∷ 3 ∷ 1 ∷ 1 ∷ 4 ∷ 1 ∷ 0 ∷ 5 ∷ 1 ∷ 1 ∷ 6 ∷ 1 ∷ 0 ∷ 7 ∷ 1 ∷ 1 ∷ 8 ∷ 1 ∷ 1 ∷ 5 ∷ 1 ∷ 1 ∷ 6 ∷ 1 ∷ 1 ∷ 3 ∷ 1 ∷ 1 ∷ 4 ∷ 1 ∷ 1 ∷ 7 ∷ 1 ∷ 1 ∷ 8 ∷ 1 ∷ []))
    0 1 (0 ∷ 0 ∷ 1 ∷ []))
    -- the same
    ∷ case "parameters PQR and QRP"
    (compares (two_holders (bytes "AKvP1Q2R3")
    (0 ∷ 3 ∷ 1 ∷ 1 ∷ 4 ∷ 1 ∷ 0 ∷ 5 ∷ 1 ∷ 1 ∷ 6 ∷ 1 ∷ 0 ∷ 7 ∷ 1 ∷ 1 ∷ 8 ∷ 1 ∷ 1 ∷ 5 ∷ 1 ∷ 1 ∷ 6 ∷ 1 ∷ 1 ∷ 7 ∷ 1 ∷ 1 ∷ 8 ∷ 1 ∷ 1 ∷ 3 ∷ 1 ∷ 1 ∷ 4 ∷ 1 ∷ []))
    0 1 (0 ∷ 0 ∷ 1 ∷ []))
    -- the same
    ∷ case "parameters PQR and RPQ"
    (compares (two_holders (bytes "AKvP1Q2R3")
    (0 ∷ 3 ∷ 1 ∷ 1 ∷ 4 ∷ 1 ∷ 0 ∷ 5 ∷ 1 ∷ 1 ∷ 6 ∷ 1 ∷ 0 ∷ 7 ∷ 1 ∷ 1 ∷ 8 ∷ 1 ∷ 1 ∷ 7 ∷ 1 ∷ 1 ∷ 8 ∷ 1 ∷ 1 ∷ 3 ∷ 1 ∷ 1 ∷ 4 ∷ 1 ∷ 1 ∷ 5 ∷ 1 ∷ 1 ∷ 6 ∷ 1 ∷ []))
    0 1 (0 ∷ 0 ∷ 1 ∷ []))
    -- the same
    ∷ case "parameters PQR and RQP"
    (compares (two_holders (bytes "AKvP1Q2R3")
    (0 ∷ 3 ∷ 1 ∷ 1 ∷ 4 ∷ 1 ∷ 0 ∷ 5 ∷ 1 ∷ 1 ∷ 6 ∷ 1 ∷ 0 ∷ 7 ∷ 1 ∷ 1 ∷ 8 ∷ 1 ∷ 1 ∷ 7 ∷ 1 ∷ 1 ∷ 8 ∷ 1 ∷ 1 ∷ 5 ∷ 1 ∷ 1 ∷ 6 ∷ 1 ∷ 1 ∷ 3 ∷ 1 ∷ 1 ∷ 4 ∷ 1 ∷ []))
    0 1 (0 ∷ 0 ∷ 1 ∷ []))
    ∷ []

-- no twins, though keys are taken without case and parameters in any order: 0, 0 and 0
abbrev pub other_multiset : List Case
other_multiset =
    -- "`;A=1;A=1` against `;A=1` are not"
    case "a parameter twice and once"
    (compares (two_holders (bytes "AKvP1") (0 ∷ 3 ∷ 1 ∷ 1 ∷ 4 ∷ 1 ∷ 0 ∷ 3 ∷ 1 ∷ 1 ∷ 4 ∷ 1 ∷ 1 ∷ 3 ∷ 1 ∷ 1 ∷ 4 ∷ 1 ∷ [])) 0 1 (0 ∷ 0 ∷ 0 ∷ []))
    -- the other way round
    ∷ case "a parameter once and twice"
    (compares (two_holders (bytes "AKvP1") (0 ∷ 3 ∷ 1 ∷ 1 ∷ 4 ∷ 1 ∷ 1 ∷ 3 ∷ 1 ∷ 1 ∷ 4 ∷ 1 ∷ 1 ∷ 3 ∷ 1 ∷ 1 ∷ 4 ∷ 1 ∷ [])) 0 1 (0 ∷ 0 ∷ 0 ∷ []))
    -- as many, but not as many of each
    ∷ case "one of each and one twice"
    (compares (two_holders (bytes "AKvP12")
    (0 ∷ 3 ∷ 1 ∷ 1 ∷ 4 ∷ 1 ∷ 0 ∷ 3 ∷ 1 ∷ 1 ∷ 5 ∷ 1 ∷ 1 ∷ 3 ∷ 1 ∷ 1 ∷ 5 ∷ 1 ∷ 1 ∷ 3 ∷ 1 ∷ 1 ∷ 5 ∷ 1 ∷ []))
    0 1 (0 ∷ 0 ∷ 0 ∷ []))
    -- the other way round
    ∷ case "one twice and one of each"
    (compares (two_holders (bytes "AKvP21")
    (0 ∷ 3 ∷ 1 ∷ 1 ∷ 4 ∷ 1 ∷ 0 ∷ 3 ∷ 1 ∷ 1 ∷ 4 ∷ 1 ∷ 1 ∷ 3 ∷ 1 ∷ 1 ∷ 5 ∷ 1 ∷ 1 ∷ 3 ∷ 1 ∷ 1 ∷ 4 ∷ 1 ∷ []))
    0 1 (0 ∷ 0 ∷ 0 ∷ []))
    -- the first has two of the one, the second two of the other
    ∷ case "two and one, one and two"
    (compares (two_holders (bytes "AKvP1Q2")
    (0 ∷ 3 ∷ 1 ∷ 1 ∷ 4 ∷ 1 ∷ 0 ∷ 3 ∷ 1 ∷ 1 ∷ 4 ∷ 1 ∷ 0 ∷ 5 ∷ 1 ∷ 1 ∷ 6 ∷ 1 ∷ 1 ∷ 5 ∷ 1 ∷ 1 ∷ 6 ∷ 1 ∷ 1 ∷ 3 ∷ 1 ∷ 1 ∷ 4 ∷ 1 ∷ 1 ∷ 5 ∷ 1 ∷ 1 ∷ 6 ∷ 1 ∷ []))
    0 1 (0 ∷ 0 ∷ 0 ∷ []))
    -- a value goes with its key
    ∷ case "values of two keys exchanged"
    (compares (two_holders (bytes "AKvP1Q2")
    (0 ∷ 3 ∷ 1 ∷ 1 ∷ 4 ∷ 1 ∷ 0 ∷ 5 ∷ 1 ∷ 1 ∷ 6 ∷ 1 ∷ 1 ∷ 3 ∷ 1 ∷ 1 ∷ 6 ∷ 1 ∷ 1 ∷ 5 ∷ 1 ∷ 1 ∷ 4 ∷ 1 ∷ []))
    0 1 (0 ∷ 0 ∷ 0 ∷ []))
    -- presence goes with its key
    ∷ case "a value at the other key"
    (compares (two_holders (bytes "AKvP1Q")
    (0 ∷ 3 ∷ 1 ∷ 1 ∷ 4 ∷ 1 ∷ 0 ∷ 5 ∷ 1 ∷ 0 ∷ 0 ∷ 0 ∷ 1 ∷ 3 ∷ 1 ∷ 0 ∷ 0 ∷ 0 ∷ 1 ∷ 5 ∷ 1 ∷ 1 ∷ 4 ∷ 1 ∷ []))
    0 1 (0 ∷ 0 ∷ 0 ∷ []))
    -- "Values .. stay exact"
    ∷ case "a property value in another case"
    (compares (lent (bytes "AkxKX")
    (4294967295 ∷ 1 ∷ 0 ∷ 1 ∷ 4294967295 ∷ 1 ∷ 0 ∷ 1 ∷ [])
    (0 ∷ 1 ∷ 1 ∷ 2 ∷ 1 ∷ 1 ∷ 3 ∷ 1 ∷ 4 ∷ 1 ∷ [])
    [])
    0 1 (0 ∷ 0 ∷ 0 ∷ []))
    -- the values of parameters too
    ∷ case "a parameter value in another case"
    (compares (two_holders (bytes "AKvPxX") (0 ∷ 3 ∷ 1 ∷ 1 ∷ 4 ∷ 1 ∷ 1 ∷ 3 ∷ 1 ∷ 1 ∷ 5 ∷ 1 ∷ [])) 0 1 (0 ∷ 0 ∷ 0 ∷ []))
    -- ASCII letters alone: these two bytes are 32 apart as letters are
    ∷ case "key bytes behind the letters"
    (compares (lent (bytes "A[v{")
    (4294967295 ∷ 1 ∷ 0 ∷ 1 ∷ 4294967295 ∷ 1 ∷ 0 ∷ 1 ∷ [])
    (0 ∷ 1 ∷ 1 ∷ 2 ∷ 1 ∷ 1 ∷ 3 ∷ 1 ∷ 2 ∷ 1 ∷ [])
    [])
    0 1 (0 ∷ 0 ∷ 0 ∷ []))
    -- the same before the letters
    ∷ case "key bytes before the letters"
    (compares (lent (bytes "A@v`")
    (4294967295 ∷ 1 ∷ 0 ∷ 1 ∷ 4294967295 ∷ 1 ∷ 0 ∷ 1 ∷ [])
    (0 ∷ 1 ∷ 1 ∷ 2 ∷ 1 ∷ 1 ∷ 3 ∷ 1 ∷ 2 ∷ 1 ∷ [])
    [])
    0 1 (0 ∷ 0 ∷ 0 ∷ []))
    -- a key is no front of another
    ∷ case "a key and a longer one in another case"
    (compares (lent (bytes "AKvkk")
    (4294967295 ∷ 1 ∷ 0 ∷ 1 ∷ 4294967295 ∷ 1 ∷ 0 ∷ 1 ∷ [])
    (0 ∷ 1 ∷ 1 ∷ 2 ∷ 1 ∷ 1 ∷ 3 ∷ 2 ∷ 2 ∷ 1 ∷ [])
    [])
    0 1 (0 ∷ 0 ∷ 0 ∷ []))
    ∷ []

-- no twins, by a name or a value: 0, 0 and 0
abbrev pub unlike : List Case
unlike =
    -- "equal, byte by byte"
    case "two names that differ"
    (compares (lent (bytes "AB") (4294967295 ∷ 1 ∷ 0 ∷ 1 ∷ 4294967295 ∷ 1 ∷ 1 ∷ 1 ∷ []) [] []) 0 1 (0 ∷ 0 ∷ 0 ∷ []))
    -- the same
    ∷ case "a name and a longer one"
    (compares (lent (bytes "AB") (4294967295 ∷ 1 ∷ 0 ∷ 1 ∷ 4294967295 ∷ 1 ∷ 0 ∷ 2 ∷ []) [] []) 0 1 (0 ∷ 0 ∷ 0 ∷ []))
    -- "component names stay exact" (document 02, request 5)
    ∷ case "a name in another case"
    (compares (lent (bytes "Aa") (4294967295 ∷ 1 ∷ 0 ∷ 1 ∷ 4294967295 ∷ 1 ∷ 1 ∷ 1 ∷ []) [] []) 0 1 (0 ∷ 0 ∷ 0 ∷ []))
    -- the same
    ∷ case "a value that differs"
    (compares (lent (bytes "AKvw")
    (4294967295 ∷ 1 ∷ 0 ∷ 1 ∷ 4294967295 ∷ 1 ∷ 0 ∷ 1 ∷ [])
    (0 ∷ 1 ∷ 1 ∷ 2 ∷ 1 ∷ 1 ∷ 1 ∷ 1 ∷ 3 ∷ 1 ∷ [])
    [])
    0 1 (0 ∷ 0 ∷ 0 ∷ []))
    -- the same
    ∷ case "a value and one byte more"
    (compares (lent (bytes "AKvw")
    (4294967295 ∷ 1 ∷ 0 ∷ 1 ∷ 4294967295 ∷ 1 ∷ 0 ∷ 1 ∷ [])
    (0 ∷ 1 ∷ 1 ∷ 2 ∷ 1 ∷ 1 ∷ 1 ∷ 1 ∷ 2 ∷ 2 ∷ [])
    [])
    0 1 (0 ∷ 0 ∷ 0 ∷ []))
    -- "values stay as raw bytes": the quotes of a property value are part of it
    ∷ case "a value quoted and bare"
    (compares (lent (bytes "AK\"v\"v")
    (4294967295 ∷ 1 ∷ 0 ∷ 1 ∷ 4294967295 ∷ 1 ∷ 0 ∷ 1 ∷ [])
    (0 ∷ 1 ∷ 1 ∷ 2 ∷ 3 ∷ 1 ∷ 1 ∷ 1 ∷ 5 ∷ 1 ∷ [])
    [])
    0 1 (0 ∷ 0 ∷ 0 ∷ []))
    -- "either absent, or present with its start and length" (C-15)
    ∷ case "a value present and empty, and one absent"
    (compares (lent (bytes "AKvP")
    (4294967295 ∷ 1 ∷ 0 ∷ 1 ∷ 4294967295 ∷ 1 ∷ 0 ∷ 1 ∷ [])
    (0 ∷ 1 ∷ 1 ∷ 2 ∷ 1 ∷ 1 ∷ 1 ∷ 1 ∷ 2 ∷ 1 ∷ [])
    (0 ∷ 3 ∷ 1 ∷ 1 ∷ 0 ∷ 0 ∷ 1 ∷ 3 ∷ 1 ∷ 0 ∷ 0 ∷ 0 ∷ []))
    0 1 (0 ∷ 0 ∷ 0 ∷ []))
    ∷ []

-- no twins, by an order or a number of rows: 0, 0 and 0
abbrev pub other_shape : List Case
other_shape =
    -- "the properties in order"
    case "two properties in another order"
    (compares (lent (bytes "AKLv")
    (4294967295 ∷ 1 ∷ 0 ∷ 1 ∷ 4294967295 ∷ 1 ∷ 0 ∷ 1 ∷ [])
    (0 ∷ 1 ∷ 1 ∷ 3 ∷ 1 ∷ 0 ∷ 2 ∷ 1 ∷ 3 ∷ 1 ∷ 1 ∷ 2 ∷ 1 ∷ 3 ∷ 1 ∷ 1 ∷ 1 ∷ 1 ∷ 3 ∷ 1 ∷ [])
    [])
    0 1 (0 ∷ 0 ∷ 0 ∷ []))
    -- "the children in order"
    ∷ case "two children in another order"
    (compares (lent (bytes "ABC")
    (4294967295 ∷ 1 ∷ 0 ∷ 1 ∷ 0 ∷ 2 ∷ 1 ∷ 1 ∷ 0 ∷ 2 ∷ 2 ∷ 1 ∷ 4294967295 ∷ 1 ∷ 0 ∷ 1 ∷ 3 ∷ 2 ∷ 2 ∷ 1 ∷ 3 ∷ 2 ∷ 1 ∷ 1 ∷ [])
    []
    [])
    0 3 (0 ∷ 0 ∷ 0 ∷ []))
    -- a tree has all of its properties
    ∷ case "a property more"
    (compares (lent (bytes "AKv") (4294967295 ∷ 1 ∷ 0 ∷ 1 ∷ 4294967295 ∷ 1 ∷ 0 ∷ 1 ∷ []) (0 ∷ 1 ∷ 1 ∷ 2 ∷ 1 ∷ []) []) 0 1 (0 ∷ 0 ∷ 0 ∷ []))
    -- the same
    ∷ case "a property less"
    (compares (lent (bytes "AKv") (4294967295 ∷ 1 ∷ 0 ∷ 1 ∷ 4294967295 ∷ 1 ∷ 0 ∷ 1 ∷ []) (0 ∷ 1 ∷ 1 ∷ 2 ∷ 1 ∷ []) []) 1 0 (0 ∷ 0 ∷ 0 ∷ []))
    -- all of its parameters
    ∷ case "a parameter more"
    (compares (lent (bytes "AKvP")
    (4294967295 ∷ 1 ∷ 0 ∷ 1 ∷ 4294967295 ∷ 1 ∷ 0 ∷ 1 ∷ [])
    (0 ∷ 1 ∷ 1 ∷ 2 ∷ 1 ∷ 1 ∷ 1 ∷ 1 ∷ 2 ∷ 1 ∷ [])
    (0 ∷ 3 ∷ 1 ∷ 0 ∷ 0 ∷ 0 ∷ []))
    0 1 (0 ∷ 0 ∷ 0 ∷ []))
    -- and all of its children
    ∷ case "a subtree one row longer"
    (compares (lent (bytes "AB")
    (4294967295 ∷ 1 ∷ 0 ∷ 1 ∷ 0 ∷ 2 ∷ 1 ∷ 1 ∷ 4294967295 ∷ 1 ∷ 0 ∷ 1 ∷ 2 ∷ 2 ∷ 1 ∷ 1 ∷ 2 ∷ 2 ∷ 1 ∷ 1 ∷ [])
    []
    [])
    0 2 (0 ∷ 0 ∷ 0 ∷ []))
    -- the same
    ∷ case "a subtree one row shorter"
    (compares (lent (bytes "AB")
    (4294967295 ∷ 1 ∷ 0 ∷ 1 ∷ 0 ∷ 2 ∷ 1 ∷ 1 ∷ 4294967295 ∷ 1 ∷ 0 ∷ 1 ∷ 2 ∷ 2 ∷ 1 ∷ 1 ∷ 2 ∷ 2 ∷ 1 ∷ 1 ∷ [])
    []
    [])
    2 0 (0 ∷ 0 ∷ 0 ∷ []))
    -- "its children inside it"
    ∷ case "as many rows, nested otherwise"
    (compares (lent (bytes "AB")
    (4294967295 ∷ 1 ∷ 0 ∷ 1 ∷ 0 ∷ 2 ∷ 1 ∷ 1 ∷ 0 ∷ 2 ∷ 1 ∷ 1 ∷ 4294967295 ∷ 1 ∷ 0 ∷ 1 ∷ 3 ∷ 2 ∷ 1 ∷ 1 ∷ 4 ∷ 3 ∷ 1 ∷ 1 ∷ [])
    []
    [])
    0 3 (0 ∷ 0 ∷ 0 ∷ []))
    -- the one has a child more
    ∷ case "a component and its child"
    (compares (lent (bytes "A") (4294967295 ∷ 1 ∷ 0 ∷ 1 ∷ 0 ∷ 2 ∷ 0 ∷ 1 ∷ []) [] []) 0 1 (0 ∷ 0 ∷ 0 ∷ []))
    ∷ []

-- 14 by the table rule, before any row is compared: the row, numbered through the three tables, and 0
abbrev pub broken_rows : List Case
broken_rows =
    -- "at least one component (none: place 0)"
    case "no component to compare"
    (compares (lent (bytes "A") [] [] []) 0 0 (14 ∷ 0 ∷ 0 ∷ []))
    -- before any other row is looked at (C-09)
    ∷ case "no component to compare, but a property"
    (compares (lent (bytes "A") [] (9 ∷ 9 ∷ 9 ∷ 9 ∷ 9 ∷ []) []) 0 0 (14 ∷ 0 ∷ 0 ∷ []))
    -- "A broken table rule gives 14 with the row"
    ∷ case "a broken component"
    (compares (lent (bytes "A") (4294967295 ∷ 1 ∷ 0 ∷ 1 ∷ 4294967295 ∷ 2 ∷ 0 ∷ 1 ∷ []) [] []) 0 1 (14 ∷ 1 ∷ 0 ∷ []))
    -- a row that is not asked for
    ∷ case "a broken component behind both"
    (compares (lent (bytes "A") (4294967295 ∷ 1 ∷ 0 ∷ 1 ∷ 4294967295 ∷ 1 ∷ 0 ∷ 1 ∷ 4294967295 ∷ 1 ∷ 0 ∷ 2 ∷ []) [] []) 0 1 (14 ∷ 2 ∷ 0 ∷ []))
    -- numbered on from the components (C-10)
    ∷ case "a broken property"
    (compares (lent (bytes "AKv") (4294967295 ∷ 1 ∷ 0 ∷ 1 ∷ []) (1 ∷ 1 ∷ 1 ∷ 2 ∷ 1 ∷ []) []) 0 0 (14 ∷ 1 ∷ 0 ∷ []))
    -- and from the properties
    ∷ case "a broken parameter"
    (compares (lent (bytes "AKv") (4294967295 ∷ 1 ∷ 0 ∷ 1 ∷ []) (0 ∷ 1 ∷ 1 ∷ 2 ∷ 1 ∷ []) (0 ∷ 1 ∷ 1 ∷ 2 ∷ 2 ∷ 1 ∷ [])) 0 0 (14 ∷ 2 ∷ 0 ∷ []))
    -- the first such row
    ∷ case "a broken component and a broken property"
    (compares (lent (bytes "A") (4294967295 ∷ 2 ∷ 0 ∷ 1 ∷ []) (1 ∷ 0 ∷ 1 ∷ 0 ∷ 1 ∷ []) []) 0 0 (14 ∷ 0 ∷ 0 ∷ []))
    ∷ []

-- 14 by a row number: that number and 0
abbrev pub bad_numbers : List Case
bad_numbers =
    -- "then a row number not below the component count gives 14 with that number"
    case "a first number that is no row"
    (compares (lent (bytes "A") (4294967295 ∷ 1 ∷ 0 ∷ 1 ∷ []) [] []) 1 0 (14 ∷ 1 ∷ 0 ∷ []))
    -- the same
    ∷ case "a second number that is no row"
    (compares (lent (bytes "A") (4294967295 ∷ 1 ∷ 0 ∷ 1 ∷ []) [] []) 0 1 (14 ∷ 1 ∷ 0 ∷ []))
    -- "the first number first"
    ∷ case "two numbers that are no rows"
    (compares (lent (bytes "A") (4294967295 ∷ 1 ∷ 0 ∷ 1 ∷ []) [] []) 3 2 (14 ∷ 3 ∷ 0 ∷ []))
    -- the same
    ∷ case "two numbers that are no rows, the second larger"
    (compares (lent (bytes "A") (4294967295 ∷ 1 ∷ 0 ∷ 1 ∷ []) [] []) 1 2 (14 ∷ 1 ∷ 0 ∷ []))
    -- the same number twice is no row either
    ∷ case "one number twice that is no row"
    (compares (lent (bytes "A") (4294967295 ∷ 1 ∷ 0 ∷ 1 ∷ []) [] []) 1 1 (14 ∷ 1 ∷ 0 ∷ []))
    -- "4294967295 for none": it is no row
    ∷ case "the number for no parent"
    (compares (lent (bytes "A") (4294967295 ∷ 1 ∷ 0 ∷ 1 ∷ []) [] []) 0 4294967295 (14 ∷ 4294967295 ∷ 0 ∷ []))
    -- "rounded down": they are no row
    ∷ case "a number of words left over"
    (compares (lent (bytes "A") (4294967295 ∷ 1 ∷ 0 ∷ 1 ∷ 4294967295 ∷ 1 ∷ 0 ∷ []) [] []) 1 0 (14 ∷ 1 ∷ 0 ∷ []))
    -- "A broken table rule gives 14 with the row; then a row number"
    ∷ case "a broken component before a number"
    (compares (lent (bytes "A") (4294967295 ∷ 2 ∷ 0 ∷ 1 ∷ []) [] []) 5 4 (14 ∷ 0 ∷ 0 ∷ []))
    -- the same
    ∷ case "a broken parameter before a number"
    (compares (lent (bytes "AKv") (4294967295 ∷ 1 ∷ 0 ∷ 1 ∷ []) (0 ∷ 1 ∷ 1 ∷ 2 ∷ 1 ∷ []) (0 ∷ 1 ∷ 1 ∷ 0 ∷ 1 ∷ 0 ∷ [])) 5 0 (14 ∷ 2 ∷ 0 ∷ []))
    ∷ []

-- neighbours: 0, 0 and how many children of a row are twins of the child before them
abbrev pub neighbour_cases : List Case
neighbour_cases =
    -- it has none
    case "no child"
    (counts (lent (bytes "A") (4294967295 ∷ 1 ∷ 0 ∷ 1 ∷ []) [] []) 0 (0 ∷ 0 ∷ 0 ∷ []))
    -- none stands before it
    ∷ case "one child"
    (counts (lent (bytes "AB") (4294967295 ∷ 1 ∷ 0 ∷ 1 ∷ 0 ∷ 2 ∷ 1 ∷ 1 ∷ []) [] []) 0 (0 ∷ 0 ∷ 0 ∷ []))
    -- the second is like the first
    ∷ case "two children alike, counted"
    (counts (lent (bytes "AB") (4294967295 ∷ 1 ∷ 0 ∷ 1 ∷ 0 ∷ 2 ∷ 1 ∷ 1 ∷ 0 ∷ 2 ∷ 1 ∷ 1 ∷ []) [] []) 0 (0 ∷ 0 ∷ 1 ∷ []))
    -- the third is like the second
    ∷ case "three children alike"
    (counts (lent (bytes "AB") (4294967295 ∷ 1 ∷ 0 ∷ 1 ∷ 0 ∷ 2 ∷ 1 ∷ 1 ∷ 0 ∷ 2 ∷ 1 ∷ 1 ∷ 0 ∷ 2 ∷ 1 ∷ 1 ∷ []) [] []) 0 (0 ∷ 0 ∷ 2 ∷ []))
    -- "equal, byte by byte"
    ∷ case "two children that differ"
    (counts (lent (bytes "ABC") (4294967295 ∷ 1 ∷ 0 ∷ 1 ∷ 0 ∷ 2 ∷ 1 ∷ 1 ∷ 0 ∷ 2 ∷ 2 ∷ 1 ∷ []) [] []) 0 (0 ∷ 0 ∷ 0 ∷ []))
    -- only the child directly before counts
    ∷ case "alike, and another between them"
    (counts (lent (bytes "ABC") (4294967295 ∷ 1 ∷ 0 ∷ 1 ∷ 0 ∷ 2 ∷ 1 ∷ 1 ∷ 0 ∷ 2 ∷ 2 ∷ 1 ∷ 0 ∷ 2 ∷ 1 ∷ 1 ∷ []) [] []) 0 (0 ∷ 0 ∷ 0 ∷ []))
    -- two pairs
    ∷ case "two and two"
    (counts (lent (bytes "ABC")
    (4294967295 ∷ 1 ∷ 0 ∷ 1 ∷ 0 ∷ 2 ∷ 1 ∷ 1 ∷ 0 ∷ 2 ∷ 1 ∷ 1 ∷ 0 ∷ 2 ∷ 2 ∷ 1 ∷ 0 ∷ 2 ∷ 2 ∷ 1 ∷ [])
    []
    [])
    0 (0 ∷ 0 ∷ 2 ∷ []))
    -- they are the children of none
    ∷ case "two alike at the top"
    (counts (lent (bytes "A") (4294967295 ∷ 1 ∷ 0 ∷ 1 ∷ 4294967295 ∷ 1 ∷ 0 ∷ 1 ∷ []) [] []) 0 (0 ∷ 0 ∷ 0 ∷ []))
    -- the children of one row
    ∷ case "the children of the second"
    (counts (lent (bytes "AB") (4294967295 ∷ 1 ∷ 0 ∷ 1 ∷ 4294967295 ∷ 1 ∷ 0 ∷ 1 ∷ 1 ∷ 2 ∷ 1 ∷ 1 ∷ 1 ∷ 2 ∷ 1 ∷ 1 ∷ []) [] []) 1 (0 ∷ 0 ∷ 1 ∷ []))
    -- a grandchild is no child, and is compared with its parent
    ∷ case "a grandchild in each"
    (counts (lent (bytes "ABC")
    (4294967295 ∷ 1 ∷ 0 ∷ 1 ∷ 0 ∷ 2 ∷ 1 ∷ 1 ∷ 1 ∷ 3 ∷ 2 ∷ 1 ∷ 0 ∷ 2 ∷ 1 ∷ 1 ∷ 3 ∷ 3 ∷ 2 ∷ 1 ∷ [])
    []
    [])
    0 (0 ∷ 0 ∷ 1 ∷ []))
    -- the second has a child more
    ∷ case "a neighbour one row longer"
    (counts (lent (bytes "AB") (4294967295 ∷ 1 ∷ 0 ∷ 1 ∷ 0 ∷ 2 ∷ 1 ∷ 1 ∷ 0 ∷ 2 ∷ 1 ∷ 1 ∷ 2 ∷ 3 ∷ 1 ∷ 1 ∷ []) [] []) 0 (0 ∷ 0 ∷ 0 ∷ []))
    ∷ []

-- neighbours with properties: 0, 0 and the count
abbrev pub neighbours_with_properties : List Case
neighbours_with_properties =
    -- "One alone gives the inside"
    case "children quoted and bare"
    (counts (lent (bytes "AKPv\"a\"a")
    (4294967295 ∷ 1 ∷ 0 ∷ 1 ∷ 0 ∷ 2 ∷ 0 ∷ 1 ∷ 0 ∷ 2 ∷ 0 ∷ 1 ∷ [])
    (1 ∷ 1 ∷ 1 ∷ 3 ∷ 1 ∷ 2 ∷ 1 ∷ 1 ∷ 3 ∷ 1 ∷ [])
    (0 ∷ 2 ∷ 1 ∷ 1 ∷ 5 ∷ 1 ∷ 1 ∷ 2 ∷ 1 ∷ 1 ∷ 7 ∷ 1 ∷ []))
    0 (0 ∷ 0 ∷ 1 ∷ []))
    -- "without regard to ASCII case" (document 02, request 5)
    ∷ case "a key of a child in another case"
    (counts (lent (bytes "AKkv")
    (4294967295 ∷ 1 ∷ 0 ∷ 1 ∷ 0 ∷ 2 ∷ 0 ∷ 1 ∷ 0 ∷ 2 ∷ 0 ∷ 1 ∷ [])
    (1 ∷ 1 ∷ 1 ∷ 3 ∷ 1 ∷ 2 ∷ 2 ∷ 1 ∷ 3 ∷ 1 ∷ [])
    [])
    0 (0 ∷ 0 ∷ 1 ∷ []))
    -- "the properties in order"
    ∷ case "properties of children in another order"
    (counts (lent (bytes "AKLv")
    (4294967295 ∷ 1 ∷ 0 ∷ 1 ∷ 0 ∷ 2 ∷ 0 ∷ 1 ∷ 0 ∷ 2 ∷ 0 ∷ 1 ∷ [])
    (1 ∷ 1 ∷ 1 ∷ 3 ∷ 1 ∷ 1 ∷ 2 ∷ 1 ∷ 3 ∷ 1 ∷ 2 ∷ 2 ∷ 1 ∷ 3 ∷ 1 ∷ 2 ∷ 1 ∷ 1 ∷ 3 ∷ 1 ∷ [])
    [])
    0 (0 ∷ 0 ∷ 0 ∷ []))
    -- a property of the parent is none of theirs
    ∷ case "a property of the parent"
    (counts (lent (bytes "AKv") (4294967295 ∷ 1 ∷ 0 ∷ 1 ∷ 0 ∷ 2 ∷ 0 ∷ 1 ∷ 0 ∷ 2 ∷ 0 ∷ 1 ∷ []) (0 ∷ 1 ∷ 1 ∷ 2 ∷ 1 ∷ []) []) 0 (0 ∷ 0 ∷ 1 ∷ []))
    ∷ []

-- 14 in the count: by the table rule, then by the number
abbrev pub neighbours_refused : List Case
neighbours_refused =
    -- "at least one component (none: place 0)"
    case "no component to count"
    (counts (lent (bytes "A") [] [] []) 0 (14 ∷ 0 ∷ 0 ∷ []))
    -- "A broken table rule gives 14 with the row"
    ∷ case "a broken child"
    (counts (lent (bytes "A") (4294967295 ∷ 1 ∷ 0 ∷ 1 ∷ 0 ∷ 3 ∷ 0 ∷ 1 ∷ []) [] []) 0 (14 ∷ 1 ∷ 0 ∷ []))
    -- numbered on from the components
    ∷ case "a broken property to count"
    (counts (lent (bytes "AKv") (4294967295 ∷ 1 ∷ 0 ∷ 1 ∷ []) (0 ∷ 1 ∷ 1 ∷ 2 ∷ 2 ∷ []) []) 0 (14 ∷ 1 ∷ 0 ∷ []))
    -- "then a row number not below the component count gives 14 with that number"
    ∷ case "a parent that is no row"
    (counts (lent (bytes "A") (4294967295 ∷ 1 ∷ 0 ∷ 1 ∷ []) [] []) 1 (14 ∷ 1 ∷ 0 ∷ []))
    -- "4294967295 for none": it is no row
    ∷ case "no parent for a parent"
    (counts (lent (bytes "A") (4294967295 ∷ 1 ∷ 0 ∷ 1 ∷ []) [] []) 4294967295 (14 ∷ 4294967295 ∷ 0 ∷ []))
    -- the table rule first
    ∷ case "a broken component before the parent"
    (counts (lent (bytes "A") (4294967295 ∷ 2 ∷ 0 ∷ 1 ∷ []) [] []) 5 (14 ∷ 0 ∷ 0 ∷ []))
    ∷ []
