-- Serves inner contracts only. A table whose words are all zero.
-- Assumes nothing.
use Rattle.std.specs.Prelude.{ℕ, Bool, eqb}

abbrev pub is_zero : ℕ → Bool
is_zero word = eqb word 0
