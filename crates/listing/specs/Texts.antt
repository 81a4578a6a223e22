-- The fields of a listing as bytes (document 01, "Examples": "Fields stand one space apart; an empty one prints nothing").
-- Assumes nothing.
use Rattle.std.specs.Prelude.{ℕ, zero, suc, ◌+◌, ◌/◌, ◌%◌, List, [], ◌∷◌, ◌++◌, eqb, ltb}
use Rattle.octets.specs.Choice.{pick}
use Rattle.octets.specs.Bytes.{space}
use Rattle.tables.specs.Rows.{no_parent}

-- a field and the byte behind it: a space, `=`, or the end of the line
abbrev pub field : List ℕ → ℕ → List ℕ
field bytes end = bytes ++ end ∷ []

-- the last digit of a number, in ASCII
abbrev pub digit : ℕ → ℕ
digit n = 48 + n % 10

-- the last digits of a number, as many as there are places, without zeros in front
unfoldable pub digits : ℕ → ℕ → List ℕ
digits zero n = []
digits (suc places) n = pick (ltb n 10) (digit n ∷ []) (digits places (n / 10) ++ digit n ∷ [])

-- a number of 64 bits in decimal: it has at most twenty digits
abbrev pub decimal : ℕ → List ℕ
decimal n = digits 20 n

-- "parent or `-`"
abbrev pub parent_field : ℕ → List ℕ
parent_field parent = pick (eqb parent no_parent) (field (45 ∷ []) space) (field (decimal parent) space)
