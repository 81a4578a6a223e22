-- Serves laws only. Quoting: left, wrapped, and too little room (13).
-- Assumes nothing.
use Rattle.std.specs.Prelude.{List, [], ◌∷◌, ◌++◌}
use Rattle.octets.specs.Literals.{bytes}
use Rattle.worked.specs.Cases.{bytes₀, Case, case, quotes}

-- Done
abbrev pub quotings : List Case
quotings =
    -- "wrapped if it holds `:`, `;` or `,`, else left"
    case "a bare value"
    (quotes (bytes "a") (bytes₀ 3) (0 ∷ 0 ∷ 1 ∷ []) (bytes "a" ++ 171 ∷ 172 ∷ []))
    -- it holds none of these
    ∷ case "an empty value to quote"
    (quotes [] (bytes₀ 2) (0 ∷ 0 ∷ 0 ∷ []) (bytes₀ 2))
    -- "wrapped if it holds `:`, `;` or `,`"
    ∷ case "a value with a colon"
    (quotes (bytes "a:b") (bytes₀ 7) (0 ∷ 0 ∷ 5 ∷ []) (bytes "\"a:b\"" ++ 175 ∷ 176 ∷ []))
    -- the same
    ∷ case "a value with a semicolon"
    (quotes (bytes "a;b") (bytes₀ 7) (0 ∷ 0 ∷ 5 ∷ []) (bytes "\"a;b\"" ++ 175 ∷ 176 ∷ []))
    -- "quoting `a,b` wraps it"
    ∷ case "a value with a comma"
    (quotes (bytes "a,b") (bytes₀ 7) (0 ∷ 0 ∷ 5 ∷ []) (bytes "\"a,b\"" ++ 175 ∷ 176 ∷ []))
    -- "left alone if it starts and ends with `"`"
    ∷ case "a value in quotes"
    (quotes (bytes "\"a,b\"") (bytes₀ 7) (0 ∷ 0 ∷ 5 ∷ []) (bytes "\"a,b\"" ++ 175 ∷ 176 ∷ []))
    -- "a lone `"` stays"
    ∷ case "a lone quote"
    (quotes (bytes "\"") (bytes₀ 3) (0 ∷ 0 ∷ 1 ∷ []) (bytes "\"" ++ 171 ∷ 172 ∷ []))
    -- it does not end with one
    ∷ case "a quote at the start alone"
    (quotes (bytes "\"a,") (bytes₀ 7) (0 ∷ 0 ∷ 5 ∷ []) (bytes "\"\"a,\"" ++ 175 ∷ 176 ∷ []))
    -- it does not start with one
    ∷ case "a quote at the end alone"
    (quotes (bytes "a,\"") (bytes₀ 7) (0 ∷ 0 ∷ 5 ∷ []) (bytes "\"a,\"\"" ++ 175 ∷ 176 ∷ []))
    -- "in quoting, of any bytes: 1, 13"
    ∷ case "a value of any bytes to quote"
    (quotes (bytes "\n" ++ 200 ∷ []) (bytes₀ 4) (0 ∷ 0 ∷ 2 ∷ []) (bytes "\n" ++ 200 ∷ 172 ∷ 173 ∷ []))
    ∷ []

-- 13: the length needed, and the buffer stays
abbrev pub too_short : List Case
too_short =
    -- "output longer than the buffer"; "on 13 the length needed"
    case "a bare value and no room"
    (quotes (bytes "a") [] (13 ∷ 0 ∷ 1 ∷ []) [])
    -- the quotes count; "11 to 15 change nothing"
    ∷ case "no room for the second quote"
    (quotes (bytes "a,b") (bytes₀ 4) (13 ∷ 0 ∷ 5 ∷ []) (bytes₀ 4))
    -- a buffer of just that length is not too short
    ∷ case "just room for both quotes"
    (quotes (bytes "a,b") (bytes₀ 5) (0 ∷ 0 ∷ 5 ∷ []) (bytes "\"a,b\""))
    ∷ []
