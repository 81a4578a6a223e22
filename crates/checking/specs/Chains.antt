-- Serves inner contracts only. How an array with a depth stands for the rows that a later row may name as its parent.
-- Assumes nothing.
use Rattle.std.specs.Prelude.{ℕ, zero, suc, ◌<◌, List, [], ◌∷◌, get_or}
use Rattle.tables.specs.TableRule.{Opened}

-- the first d rows, the last of them first; the row in place i has depth i + 1
unfoldable pub chain : List ℕ → ℕ → List Opened
chain rows zero = []
chain rows (suc d) = record { row = get_or rows d 0; depth = suc d } ∷ chain rows d

-- the first d rows rise: each stands behind those around it
pub record Rising (rows : List ℕ) (d : ℕ) : Type 0 where
  pub rise : (i j : ℕ) → i < j → j < d → get_or rows i 0 < get_or rows j 0
