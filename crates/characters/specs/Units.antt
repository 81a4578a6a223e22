-- What is never cut: the characters of a text, by their first bytes (document 02, request 4; RFC 3629, section 3).
-- Bytes that are no character have their place among them too, so that every text has its units.
-- Assumes nothing.
use Rattle.std.specs.Prelude.{ℕ, zero, suc, ◌+◌, ◌-◌, min, Bool, List, [], ◌∷◌, length, take, leb}
use Rattle.octets.specs.Choice.{pick}
use Rattle.octets.specs.Bytes.{between}
use Rattle.octets.specs.Runs.{run}

-- UTF8-tail: 10xxxxxx
abbrev pub tail : ℕ → Bool
tail = between 128 191

-- "how many leading ones its first byte has": 110xxxxx asks for one tail behind it, 1110xxxx for two, 11110xxx for three, any other byte for none
abbrev pub wanted : ℕ → ℕ
wanted x = pick (between 192 223 x) 1 (pick (between 224 239 x) 2 (pick (between 240 247 x) 3 0))

-- as many of them as stand there
abbrev pub tails : ℕ → List ℕ → ℕ
tails x xs = min (wanted x) (run tail xs)

-- each byte with its tails; so many bytes in front belong to the unit before, and are passed over
unfoldable pub units_from : ℕ → List ℕ → List (List ℕ)
units_from passed [] = []
units_from (suc passed) (x ∷ xs) = units_from passed xs
units_from zero (x ∷ xs) = (x ∷ take (tails x xs) xs) ∷ units_from (tails x xs) xs

abbrev pub units : List ℕ → List (List ℕ)
units xs = units_from 0 xs

-- the octets of the units that go whole into so much room
unfoldable pub fitting : ℕ → List (List ℕ) → ℕ
fitting room [] = 0
fitting room (u ∷ us) = pick (leb (length u) room) (length u + fitting (room - length u) us) 0

-- "the last character start within the limit"
abbrev pub last_start : ℕ → List ℕ → ℕ
last_start room xs = fitting room (units xs)
