-- How many bytes at the front of a list are of a class: the longest run.
-- Assumes nothing.
use Rattle.std.specs.Prelude.{ℕ, suc, Bool, List, [], ◌∷◌, length, leb}
use Rattle.octets.specs.Choice.{pick}

unfoldable pub run : (ℕ → Bool) → List ℕ → ℕ
run class [] = 0
run class (x ∷ xs) = pick (class x) (suc (run class xs)) 0

-- the run is the whole list: every byte is of the class
abbrev pub only : (ℕ → Bool) → List ℕ → Bool
only class xs = leb (length xs) (run class xs)
