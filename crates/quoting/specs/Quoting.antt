-- Quoting of a parameter value, `quote_special_chars` of src/properties.rs (document 01, "Writing and trees"; RFC 5545, section 3.2).
-- Here document 01 departs from the RFC: docs/DIFFERENCES.md, R-10.
-- Assumes nothing.
use Rattle.std.specs.Prelude.{ℕ, ◌-◌, Bool, not, ◌&&◌, ◌||◌, List, [], ◌∷◌, ◌++◌, length, get_or, eqb}
use Rattle.octets.specs.Choice.{pick}
use Rattle.octets.specs.Bytes.{quote, colon, semicolon, comma}
use Rattle.octets.specs.Runs.{only}

-- a byte that asks for no quotes: none of `:`, `;` and `,`
abbrev pub plain : ℕ → Bool
plain x = not (eqb x colon || (eqb x semicolon || eqb x comma))

-- the value starts and ends with `"`: so does a lone `"`, and the empty value does not
abbrev pub enclosed : List ℕ → Bool
enclosed value = eqb (get_or value 0 0) quote && eqb (get_or value (length value - 1) 0) quote

-- it is wrapped if it is not enclosed and holds `:`, `;` or `,`
abbrev pub wraps : List ℕ → Bool
wraps value = not (enclosed value) && not (only plain value)

abbrev pub quoted : List ℕ → List ℕ
quoted value = pick (wraps value) (quote ∷ (value ++ quote ∷ [])) value
