-- Serves laws only. What the writer refuses: 14 by the table rule, 15 and 19 by the writing rule, with the row, and their order. The buffer stays.
-- Assumes nothing.
use Rattle.std.specs.Prelude.{List, [], ◌∷◌, ◌++◌}
use Rattle.tables.specs.Lent.{lent}
use Rattle.octets.specs.Literals.{bytes}
use Rattle.worked.specs.Cases.{bytes₀, nested, Case, case, writes}

-- 14: components
abbrev pub broken_components : List Case
broken_components =
    -- "at least one component (none: place 0)"
    case "no component"
    (writes (lent (bytes "A") [] [] [])
    (bytes₀ 3) (14 ∷ 0 ∷ 0 ∷ []) (bytes₀ 3))
    -- before any other row is looked at (C-09)
    ∷ case "no component, but a property"
    (writes (lent (bytes "AKv") [] (9 ∷ 9 ∷ 9 ∷ 9 ∷ 9 ∷ []) [])
    (bytes₀ 3) (14 ∷ 0 ∷ 0 ∷ []) (bytes₀ 3))
    -- "rounded down": they are no row
    ∷ case "three words of a component"
    (writes (lent (bytes "A") (4294967295 ∷ 1 ∷ 0 ∷ []) [] [])
    (bytes₀ 3) (14 ∷ 0 ∷ 0 ∷ []) (bytes₀ 3))
    -- "(first row: none)"
    ∷ case "a first component with a parent"
    (writes (lent (bytes "A") (0 ∷ 2 ∷ 0 ∷ 1 ∷ []) [] [])
    (bytes₀ 3) (14 ∷ 0 ∷ 0 ∷ []) (bytes₀ 3))
    -- "4294967295 for none": any other number is a row
    ∷ case "4294967294 for none"
    (writes (lent (bytes "A") (4294967294 ∷ 1 ∷ 0 ∷ 1 ∷ []) [] [])
    (bytes₀ 3) (14 ∷ 0 ∷ 0 ∷ []) (bytes₀ 3))
    -- "depth 1 without a parent"
    ∷ case "depth 2 without a parent"
    (writes (lent (bytes "A") (4294967295 ∷ 2 ∷ 0 ∷ 1 ∷ []) [] [])
    (bytes₀ 3) (14 ∷ 0 ∷ 0 ∷ []) (bytes₀ 3))
    -- the same
    ∷ case "depth 0 without a parent"
    (writes (lent (bytes "A") (4294967295 ∷ 0 ∷ 0 ∷ 1 ∷ []) [] [])
    (bytes₀ 3) (14 ∷ 0 ∷ 0 ∷ []) (bytes₀ 3))
    -- "else the parent's plus 1"
    ∷ case "depth 3 in a component of depth 1"
    (writes (lent (bytes "A") (4294967295 ∷ 1 ∷ 0 ∷ 1 ∷ 0 ∷ 3 ∷ 0 ∷ 1 ∷ []) [] [])
    (bytes₀ 3) (14 ∷ 1 ∷ 0 ∷ []) (bytes₀ 3))
    ∷ []

-- 14: parents and views
abbrev pub broken_parents : List Case
broken_parents =
    -- "the row before it, or one of that row's ancestors"
    case "a component in itself"
    (writes (lent (bytes "A") (4294967295 ∷ 1 ∷ 0 ∷ 1 ∷ 1 ∷ 2 ∷ 0 ∷ 1 ∷ []) [] [])
    (bytes₀ 3) (14 ∷ 1 ∷ 0 ∷ []) (bytes₀ 3))
    -- row 1 is no ancestor of row 2
    ∷ case "a parent that is closed"
    (writes (lent (bytes "A") (4294967295 ∷ 1 ∷ 0 ∷ 1 ∷ 0 ∷ 2 ∷ 0 ∷ 1 ∷ 0 ∷ 2 ∷ 0 ∷ 1 ∷ 1 ∷ 3 ∷ 0 ∷ 1 ∷ []) [] [])
    (bytes₀ 3) (14 ∷ 3 ∷ 0 ∷ []) (bytes₀ 3))
    -- "and at most 64": all 64 are sound, and so is the first property, which is row 64
    ∷ case "64 levels and a bad owner"
    (writes (lent (bytes "A") (nested 0 0 64 4294967295 0) (0 ∷ 0 ∷ 1 ∷ 0 ∷ 1 ∷ 64 ∷ 0 ∷ 1 ∷ 0 ∷ 1 ∷ []) []) (bytes₀ 3) (14 ∷ 65 ∷ 0 ∷ []) (bytes₀ 3))
    -- "and at most 64"
    ∷ case "65 levels"
    (writes (lent (bytes "A") (nested 0 0 65 4294967295 0) [] []) (bytes₀ 3) (14 ∷ 64 ∷ 0 ∷ []) (bytes₀ 3))
    -- "views inside the text"
    ∷ case "a name that is too long"
    (writes (lent (bytes "A") (4294967295 ∷ 1 ∷ 0 ∷ 2 ∷ []) [] [])
    (bytes₀ 3) (14 ∷ 0 ∷ 0 ∷ []) (bytes₀ 3))
    -- start 2 lies outside a text of 1 (C-14)
    ∷ case "an empty name behind the end"
    (writes (lent (bytes "A") (4294967295 ∷ 1 ∷ 2 ∷ 0 ∷ []) [] [])
    (bytes₀ 3) (14 ∷ 0 ∷ 0 ∷ []) (bytes₀ 3))
    -- the sum does not wrap (C-12)
    ∷ case "a name of huge numbers"
    (writes (lent (bytes "A") (4294967295 ∷ 1 ∷ 4294967295 ∷ 2 ∷ []) [] [])
    (bytes₀ 3) (14 ∷ 0 ∷ 0 ∷ []) (bytes₀ 3))
    ∷ []

-- 14: properties and parameters, numbered on from the components
abbrev pub broken_properties : List Case
broken_properties =
    -- "owners in range"
    case "an owner that is no row"
    (writes (lent (bytes "AKv") (4294967295 ∷ 1 ∷ 0 ∷ 1 ∷ []) (1 ∷ 1 ∷ 1 ∷ 2 ∷ 1 ∷ []) [])
    (bytes₀ 3) (14 ∷ 1 ∷ 0 ∷ []) (bytes₀ 3))
    -- "views inside the text"
    ∷ case "a key outside the text"
    (writes (lent (bytes "AKv") (4294967295 ∷ 1 ∷ 0 ∷ 1 ∷ []) (0 ∷ 1 ∷ 1 ∷ 2 ∷ 1 ∷ 0 ∷ 3 ∷ 1 ∷ 2 ∷ 1 ∷ []) [])
    (bytes₀ 3) (14 ∷ 2 ∷ 0 ∷ []) (bytes₀ 3))
    -- "views inside the text"
    ∷ case "a value outside the text"
    (writes (lent (bytes "AKv") (4294967295 ∷ 1 ∷ 0 ∷ 1 ∷ []) (0 ∷ 1 ∷ 1 ∷ 2 ∷ 2 ∷ []) [])
    (bytes₀ 3) (14 ∷ 1 ∷ 0 ∷ []) (bytes₀ 3))
    -- its property is a row
    ∷ case "a parameter of no property"
    (writes (lent (bytes "AKv") (4294967295 ∷ 1 ∷ 0 ∷ 1 ∷ []) (0 ∷ 1 ∷ 1 ∷ 2 ∷ 1 ∷ []) (1 ∷ 1 ∷ 1 ∷ 0 ∷ 0 ∷ 0 ∷ []))
    (bytes₀ 3) (14 ∷ 2 ∷ 0 ∷ []) (bytes₀ 3))
    -- "parameter rows by rising property row, equal allowed"
    ∷ case "parameters that fall"
    (writes (lent (bytes "AKv") (4294967295 ∷ 1 ∷ 0 ∷ 1 ∷ []) (0 ∷ 1 ∷ 1 ∷ 2 ∷ 1 ∷ 0 ∷ 1 ∷ 1 ∷ 2 ∷ 1 ∷ []) (1 ∷ 1 ∷ 1 ∷ 0 ∷ 0 ∷ 0 ∷ 0 ∷ 1 ∷ 1 ∷ 0 ∷ 0 ∷ 0 ∷ []))
    (bytes₀ 3) (14 ∷ 4 ∷ 0 ∷ []) (bytes₀ 3))
    -- "the presence word 0 or 1"
    ∷ case "a presence of 2"
    (writes (lent (bytes "AKv") (4294967295 ∷ 1 ∷ 0 ∷ 1 ∷ []) (0 ∷ 1 ∷ 1 ∷ 2 ∷ 1 ∷ []) (0 ∷ 1 ∷ 1 ∷ 2 ∷ 2 ∷ 1 ∷ []))
    (bytes₀ 3) (14 ∷ 2 ∷ 0 ∷ []) (bytes₀ 3))
    -- "and 0 only with start and length 0" (C-15)
    ∷ case "an absent value with a start"
    (writes (lent (bytes "AKv") (4294967295 ∷ 1 ∷ 0 ∷ 1 ∷ []) (0 ∷ 1 ∷ 1 ∷ 2 ∷ 1 ∷ []) (0 ∷ 1 ∷ 1 ∷ 0 ∷ 1 ∷ 0 ∷ []))
    (bytes₀ 3) (14 ∷ 2 ∷ 0 ∷ []) (bytes₀ 3))
    -- the same
    ∷ case "an absent value with a length"
    (writes (lent (bytes "AKv") (4294967295 ∷ 1 ∷ 0 ∷ 1 ∷ []) (0 ∷ 1 ∷ 1 ∷ 2 ∷ 1 ∷ []) (0 ∷ 1 ∷ 1 ∷ 0 ∷ 0 ∷ 1 ∷ []))
    (bytes₀ 3) (14 ∷ 2 ∷ 0 ∷ []) (bytes₀ 3))
    ∷ []

-- 15: names and keys
abbrev pub unwritable_names : List Case
unwritable_names =
    -- "names and keys of key bytes, only parameter keys may be empty"
    case "an empty name"
    (writes (lent (bytes "A") (4294967295 ∷ 1 ∷ 1 ∷ 0 ∷ []) [] [])
    (bytes₀ 3) (15 ∷ 0 ∷ 0 ∷ []) (bytes₀ 3))
    -- a blank is no key byte
    ∷ case "a name with a blank to write"
    (writes (lent (bytes "A B") (4294967295 ∷ 1 ∷ 0 ∷ 3 ∷ []) [] [])
    (bytes₀ 3) (15 ∷ 0 ∷ 0 ∷ []) (bytes₀ 3))
    -- 15 and not 19 (C-44)
    ∷ case "a name of a byte of 200"
    (writes (lent (200 ∷ []) (4294967295 ∷ 1 ∷ 0 ∷ 1 ∷ []) [] [])
    (bytes₀ 3) (15 ∷ 0 ∷ 0 ∷ []) (bytes₀ 3))
    -- "only parameter keys may be empty"
    ∷ case "an empty property key"
    (writes (lent (bytes "AKv") (4294967295 ∷ 1 ∷ 0 ∷ 1 ∷ []) (0 ∷ 1 ∷ 0 ∷ 2 ∷ 1 ∷ []) [])
    (bytes₀ 3) (15 ∷ 1 ∷ 0 ∷ []) (bytes₀ 3))
    -- "no property key BEGIN or END in any case"
    ∷ case "a property Begin"
    (writes (lent (bytes "ABegin") (4294967295 ∷ 1 ∷ 0 ∷ 1 ∷ []) (0 ∷ 1 ∷ 5 ∷ 0 ∷ 1 ∷ []) [])
    (bytes₀ 3) (15 ∷ 1 ∷ 0 ∷ []) (bytes₀ 3))
    -- the same
    ∷ case "a property END"
    (writes (lent (bytes "AEND") (4294967295 ∷ 1 ∷ 0 ∷ 1 ∷ []) (0 ∷ 1 ∷ 3 ∷ 0 ∷ 1 ∷ []) [])
    (bytes₀ 3) (15 ∷ 1 ∷ 0 ∷ []) (bytes₀ 3))
    -- "names and keys of key bytes"
    ∷ case "a parameter key with an equals sign"
    (writes (lent (bytes "AK=") (4294967295 ∷ 1 ∷ 0 ∷ 1 ∷ []) (0 ∷ 1 ∷ 1 ∷ 0 ∷ 1 ∷ []) (0 ∷ 1 ∷ 2 ∷ 0 ∷ 0 ∷ 0 ∷ []))
    (bytes₀ 3) (15 ∷ 2 ∷ 0 ∷ []) (bytes₀ 3))
    ∷ []

-- 15: values
abbrev pub unwritable_values : List Case
unwritable_values =
    -- "values without CR or LF"
    case "a value with a CR"
    (writes (lent (bytes "AK\r") (4294967295 ∷ 1 ∷ 0 ∷ 1 ∷ []) (0 ∷ 1 ∷ 1 ∷ 2 ∷ 1 ∷ []) [])
    (bytes₀ 3) (15 ∷ 1 ∷ 0 ∷ []) (bytes₀ 3))
    -- the same
    ∷ case "a value with an LF"
    (writes (lent (bytes "AK\n") (4294967295 ∷ 1 ∷ 0 ∷ 1 ∷ []) (0 ∷ 1 ∷ 1 ∷ 2 ∷ 1 ∷ []) [])
    (bytes₀ 3) (15 ∷ 1 ∷ 0 ∷ []) (bytes₀ 3))
    -- the same
    ∷ case "a parameter value with an LF"
    (writes (lent (bytes "AK\n") (4294967295 ∷ 1 ∷ 0 ∷ 1 ∷ []) (0 ∷ 1 ∷ 1 ∷ 0 ∷ 1 ∷ []) (0 ∷ 1 ∷ 1 ∷ 1 ∷ 2 ∷ 1 ∷ []))
    (bytes₀ 3) (15 ∷ 2 ∷ 0 ∷ []) (bytes₀ 3))
    -- "a present parameter value is not empty" (C-15)
    ∷ case "a present value of no bytes"
    (writes (lent (bytes "AKv") (4294967295 ∷ 1 ∷ 0 ∷ 1 ∷ []) (0 ∷ 1 ∷ 1 ∷ 2 ∷ 1 ∷ []) (0 ∷ 1 ∷ 1 ∷ 1 ∷ 0 ∷ 0 ∷ []))
    (bytes₀ 3) (15 ∷ 2 ∷ 0 ∷ []) (bytes₀ 3))
    -- "either has no `"` or is a list of two or more quoted parts"
    ∷ case "a value of one quoted part"
    (writes (lent (bytes "AK\"a\"") (4294967295 ∷ 1 ∷ 0 ∷ 1 ∷ []) (0 ∷ 1 ∷ 1 ∷ 0 ∷ 1 ∷ []) (0 ∷ 1 ∷ 1 ∷ 1 ∷ 2 ∷ 3 ∷ []))
    (bytes₀ 3) (15 ∷ 2 ∷ 0 ∷ []) (bytes₀ 3))
    -- (C-46)
    ∷ case "a value of empty quotes"
    (writes (lent (bytes "AK\"\"") (4294967295 ∷ 1 ∷ 0 ∷ 1 ∷ []) (0 ∷ 1 ∷ 1 ∷ 0 ∷ 1 ∷ []) (0 ∷ 1 ∷ 1 ∷ 1 ∷ 2 ∷ 2 ∷ []))
    (bytes₀ 3) (15 ∷ 2 ∷ 0 ∷ []) (bytes₀ 3))
    -- the same
    ∷ case "a value with a quote in it"
    (writes (lent (bytes "AKa\"b") (4294967295 ∷ 1 ∷ 0 ∷ 1 ∷ []) (0 ∷ 1 ∷ 1 ∷ 0 ∷ 1 ∷ []) (0 ∷ 1 ∷ 1 ∷ 1 ∷ 2 ∷ 3 ∷ []))
    (bytes₀ 3) (15 ∷ 2 ∷ 0 ∷ []) (bytes₀ 3))
    ∷ []

-- 19 with its row
abbrev pub not_utf8_cases : List Case
not_utf8_cases =
    -- "19 NotUtf8 replaces 12 in the strict fold and writer, place as 12 had: ... in the writer the row"
    case "a value with a byte of 128"
    (writes (lent (bytes "AK" ++ 128 ∷ []) (4294967295 ∷ 1 ∷ 0 ∷ 1 ∷ []) (0 ∷ 1 ∷ 1 ∷ 2 ∷ 1 ∷ []) [])
    (bytes₀ 3) (19 ∷ 1 ∷ 0 ∷ []) (bytes₀ 3))
    -- "Writer rows are numbered through the three tables, components first."
    ∷ case "a parameter value with a byte of 255"
    (writes (lent (bytes "AK" ++ 255 ∷ []) (4294967295 ∷ 1 ∷ 0 ∷ 1 ∷ []) (0 ∷ 1 ∷ 1 ∷ 0 ∷ 1 ∷ []) (0 ∷ 1 ∷ 1 ∷ 1 ∷ 2 ∷ 1 ∷ []))
    (bytes₀ 3) (19 ∷ 2 ∷ 0 ∷ []) (bytes₀ 3))
    -- the property's value is U+00E9, and the parameter's a first byte alone
    ∷ case "a value of UTF-8 and a parameter value cut off"
    (writes (lent (bytes "AK" ++ 195 ∷ 169 ∷ 195 ∷ []) (4294967295 ∷ 1 ∷ 0 ∷ 1 ∷ []) (0 ∷ 1 ∷ 1 ∷ 2 ∷ 2 ∷ []) (0 ∷ 1 ∷ 1 ∷ 1 ∷ 4 ∷ 1 ∷ []))
    (bytes₀ 3) (19 ∷ 2 ∷ 0 ∷ []) (bytes₀ 3))
    -- the text is UTF-8, but the value is its first byte alone
    ∷ case "a view that cuts a character"
    (writes (lent (bytes "AK" ++ 195 ∷ 169 ∷ []) (4294967295 ∷ 1 ∷ 0 ∷ 1 ∷ []) (0 ∷ 1 ∷ 1 ∷ 2 ∷ 1 ∷ []) [])
    (bytes₀ 3) (19 ∷ 1 ∷ 0 ∷ []) (bytes₀ 3))
    ∷ []

-- which refusal is told
abbrev pub in_turn : List Case
in_turn =
    -- "15 winning in one row"
    case "19 and 15 in one row"
    (writes (lent (bytes "AK" ++ 128 ∷ bytes "\n") (4294967295 ∷ 1 ∷ 0 ∷ 1 ∷ []) (0 ∷ 1 ∷ 1 ∷ 2 ∷ 2 ∷ []) [])
    (bytes₀ 3) (15 ∷ 1 ∷ 0 ∷ []) (bytes₀ 3))
    -- "then the first row with 15 or 12"; "19 NotUtf8 replaces 12 in the strict fold and writer"
    ∷ case "a row of 19 before one of 15"
    (writes (lent (bytes "AK" ++ 128 ∷ bytes "\n") (4294967295 ∷ 1 ∷ 0 ∷ 1 ∷ []) (0 ∷ 1 ∷ 1 ∷ 2 ∷ 1 ∷ 0 ∷ 1 ∷ 1 ∷ 3 ∷ 1 ∷ []) [])
    (bytes₀ 3) (19 ∷ 1 ∷ 0 ∷ []) (bytes₀ 3))
    -- the same
    ∷ case "a row of 15 before one of 19"
    (writes (lent (bytes "AK" ++ 128 ∷ bytes "\n") (4294967295 ∷ 1 ∷ 0 ∷ 1 ∷ []) (0 ∷ 1 ∷ 1 ∷ 3 ∷ 1 ∷ 0 ∷ 1 ∷ 1 ∷ 2 ∷ 1 ∷ []) [])
    (bytes₀ 3) (15 ∷ 1 ∷ 0 ∷ []) (bytes₀ 3))
    -- table order, and not the order of writing (C-44)
    ∷ case "a parameter before a later property"
    (writes (lent (bytes "AK" ++ 128 ∷ bytes "\n") (4294967295 ∷ 1 ∷ 0 ∷ 1 ∷ []) (0 ∷ 1 ∷ 1 ∷ 0 ∷ 1 ∷ 0 ∷ 1 ∷ 1 ∷ 3 ∷ 1 ∷ []) (0 ∷ 1 ∷ 1 ∷ 1 ∷ 2 ∷ 1 ∷ []))
    (bytes₀ 3) (15 ∷ 2 ∷ 0 ∷ []) (bytes₀ 3))
    -- "14 for the first such row; then the first row with 15 or 12", which 19 replaces
    ∷ case "a row of 15 before one of 14"
    (writes (lent (bytes "AK") (4294967295 ∷ 1 ∷ 0 ∷ 1 ∷ []) (0 ∷ 1 ∷ 0 ∷ 0 ∷ 1 ∷ 1 ∷ 1 ∷ 1 ∷ 0 ∷ 1 ∷ []) [])
    (bytes₀ 3) (14 ∷ 2 ∷ 0 ∷ []) (bytes₀ 3))
    -- the same
    ∷ case "a row of 19 before one of 14"
    (writes (lent (bytes "AK" ++ 128 ∷ []) (4294967295 ∷ 1 ∷ 0 ∷ 1 ∷ []) (0 ∷ 1 ∷ 1 ∷ 2 ∷ 1 ∷ []) (1 ∷ 1 ∷ 1 ∷ 0 ∷ 0 ∷ 0 ∷ []))
    (bytes₀ 3) (14 ∷ 2 ∷ 0 ∷ []) (bytes₀ 3))
    -- "then 1, 13"
    ∷ case "14 and no buffer"
    (writes (lent (bytes "A") (4294967295 ∷ 2 ∷ 0 ∷ 1 ∷ []) [] [])
    [] (14 ∷ 0 ∷ 0 ∷ []) [])
    -- the same
    ∷ case "15 and no buffer"
    (writes (lent (bytes "A") (4294967295 ∷ 1 ∷ 1 ∷ 0 ∷ []) [] [])
    [] (15 ∷ 0 ∷ 0 ∷ []) [])
    -- the same
    ∷ case "19 and no buffer"
    (writes (lent (bytes "AK" ++ 128 ∷ []) (4294967295 ∷ 1 ∷ 0 ∷ 1 ∷ []) (0 ∷ 1 ∷ 1 ∷ 2 ∷ 1 ∷ []) [])
    [] (19 ∷ 1 ∷ 0 ∷ []) [])
    ∷ []
