-- Serves inner contracts and laws only. What rows weigh together, by the weight of each row number.
-- Assumes nothing.
use Rattle.std.specs.Prelude.{ℕ, zero, suc, ◌+◌}

-- so many rows from `from` on
unfoldable pub total : (ℕ → ℕ) → ℕ → ℕ → ℕ
total weight from zero = 0
total weight from (suc n) = weight from + total weight (from + 1) n
