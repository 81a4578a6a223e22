-- The key of a property line (document 01, "Keys"; RFC 5545, section 3.1, `name`).
-- Here document 01 departs from the RFC: docs/DIFFERENCES.md, R-1.
-- Assumes nothing.
use Rattle.std.specs.Prelude.{ℕ, Bool, ◌&&◌, ◌||◌, List, Option, Some, None, length, get_or, eqb}
use Rattle.octets.specs.Choice.{pick}
use Rattle.octets.specs.Bytes.{key_byte, colon, semicolon}
use Rattle.octets.specs.Runs.{run}
use Rattle.octets.specs.Words.{starts_word, begin_word, end_word}

-- at n the line has `:`, `;` or its end, which counts as a colon here
abbrev pub stops_at : ℕ → List ℕ → Bool
stops_at n line = eqb (get_or line n colon) colon || eqb (get_or line n colon) semicolon

-- the word stands at the front, in any case, and ends there
abbrev pub stands_alone : List ℕ → List ℕ → Bool
stands_alone word line = starts_word word line && stops_at (length word) line

abbrev pub reserved : List ℕ → Bool
reserved line = stands_alone begin_word line || stands_alone end_word line

-- the byte is the first one of BEGIN or END, in any case
abbrev pub opens_reserved : ℕ → Bool
opens_reserved x = ((eqb x 66 || eqb x 98) || eqb x 69) || eqb x 101

-- how many bytes the key has; BEGIN and END are none
abbrev pub key_of : List ℕ → Option ℕ
key_of line = pick (reserved line) None (Some (run key_byte line))
