-- Serves examples only: the bytes of a string literal, so that an example reads as document 01 has it.
-- Assumes nothing.
use Rattle.std.specs.Prelude.{ℕ, List, [], ◌∷◌}
use Prim.Native.Char.{code}
use Prim.Native.String as strings

-- a text as bytes: the number of each character
unfoldable pub bytes : strings.String → List ℕ
bytes strings.[] = []
bytes (strings.◌∷◌ c cs) = code c ∷ bytes cs
