-- A list each element of which is so.
-- Assumes nothing.
use Rattle.std.specs.Prelude.{List, [], ◌∷◌}

unfoldable pub All : {A : Type 0} → (A → Type 0) → List A → Type 0
All so [] = Unit {0}
All so (x ∷ xs) = so x × All so xs
