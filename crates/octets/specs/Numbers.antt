-- Serves inner contracts only. Bytes as one number, the first one lowest, and what is asked of each of them.
-- Assumes nothing.
use Rattle.std.specs.Prelude.{ℕ, ◌+◌, ◌*◌, Bool, List, [], ◌∷◌, get_or}
use Rattle.octets.specs.Choice.{pick}

-- what f makes of each byte, as one number
abbrev pub each : (ℕ → ℕ) → List ℕ → ℕ
each f [] = 0
each f (x ∷ xs) = f x + 256 * each f xs

abbrev pub number : List ℕ → ℕ
number = each (λ (x : ℕ). x)

-- the bytes that are not of the class have a mark, their top bit
abbrev pub marks : (ℕ → Bool) → List ℕ → ℕ
marks class = each (λ (x : ℕ). pick (class x) 0 128)

-- the eight bytes from `at` on
abbrev pub eight : List ℕ → ℕ → List ℕ
eight a at =
    get_or a at 0 ∷ get_or a (at + 1) 0 ∷ get_or a (at + 2) 0 ∷ get_or a (at + 3) 0
    ∷ get_or a (at + 4) 0 ∷ get_or a (at + 5) 0 ∷ get_or a (at + 6) 0 ∷ get_or a (at + 7) 0 ∷ []
