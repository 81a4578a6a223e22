-- Serves inner contracts only. How many of a list land on each place, as the tallies count them.
-- Assumes nothing.
use Rattle.std.specs.Prelude.{ℕ, ◌+◌, ◌<◌, ◌≡◌, Bool, false, List, [], ◌∷◌, get_or, eqb, Option, Some, None}
use Rattle.octets.specs.Choice.{pick}

-- no place is counted for
abbrev pub Empty : List ℕ → Type 0
Empty tally = (j : ℕ) → get_or tally j 0 ≡ 0

-- some place is counted for
abbrev pub Left : List ℕ → Type 0
Left tally = (j : ℕ) × (0 < get_or tally j 0)

-- whether a landing is on a place
abbrev pub lands_on : Option ℕ → ℕ → Bool
lands_on None j = false
lands_on (Some i) j = eqb i j

module _ {A : Type 0} (landing : A → Option ℕ) where
  -- how many of a list land on a place
  unfoldable pub landed : ℕ → List A → ℕ
  landed j [] = 0
  landed j (x ∷ xs) = pick (lands_on (landing x) j) 1 0 + landed j xs

  -- each tally and those of the one list make those of the other
  abbrev pub Balanced : List ℕ → List A → List A → Type 0
  Balanced tally less all = (j : ℕ) → get_or tally j 0 + landed j less ≡ landed j all

  -- as many of the one list as of the other land on each place
  abbrev pub Even : List A → List A → Type 0
  Even xs ys = (j : ℕ) → landed j xs ≡ landed j ys
