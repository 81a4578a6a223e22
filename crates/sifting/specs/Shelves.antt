-- Serves inner contracts only. A shelf: the numbers of some parameter rows, in order, and the place on it at which a parameter is looked for.
-- Assumes nothing.
use Rattle.std.specs.Prelude.{ℕ, zero, suc, ◌+◌, ◌/◌, ◌<◌, Bool, ◌&&◌, List, length, get_or, ltb, Option, Some, None}
use Rattle.octets.specs.Choice.{pick}
use Rattle.tables.specs.Trees.{Parameter}
use Rattle.comparing.specs.Pieces.{same_parameter}
use Rattle.comparing.specs.Runs.{parameter_in}
use Rattle.sifting.specs.Orders.{precedes}

-- how many rows a shelf holds
abbrev pub shelf_size : ℕ
shelf_size = 768

-- what is on the shelf are numbers of rows, of which there are `rows`
abbrev pub Stand : ℕ → List ℕ → Type 0
Stand rows shelf = (j : ℕ) → j < length shelf → get_or shelf j 0 < rows

-- after rows on it were moved: whatever rows there are, it holds only such
abbrev pub Moved : List ℕ → List ℕ → Type 0
Moved old new = (rows : ℕ) → Stand rows old → Stand rows new

-- the place between lo and hi that halving leads to: behind the middle where that is below what is looked for, and otherwise before it
unfoldable pub halve : (ℕ → Bool) → ℕ → ℕ → ℕ → ℕ
halve below zero lo hi = lo
halve below (suc fuel) lo hi =
    pick (ltb lo hi) (pick (below ((lo + hi) / 2)) (halve below fuel ((lo + hi) / 2 + 1) hi) (halve below fuel lo ((lo + hi) / 2))) lo

module _ (text table shelf : List ℕ) where
  -- the parameter in a place of the shelf
  abbrev pub shelved : ℕ → Parameter
  shelved j = parameter_in text table (get_or shelf j 0)

  -- where a parameter is looked for: behind those on the shelf that stand before it
  abbrev pub looked_for : Parameter → ℕ
  looked_for p = halve (λ j. precedes (shelved j) p) (length shelf) 0 (length shelf)

  -- the place where one that is the same stands, if it stands where it is looked for
  abbrev pub landing : Parameter → Option ℕ
  landing p = pick (ltb (looked_for p) (length shelf) && same_parameter (shelved (looked_for p)) p) (Some (looked_for p)) None
