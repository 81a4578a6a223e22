-- Equal bytes, equal words in any case of their letters, and a word at the front of a line.
-- Assumes nothing.
use Rattle.std.specs.Prelude.{ℕ, Bool, true, false, ◌&&◌, List, [], ◌∷◌, map, eqb}
use Rattle.octets.specs.Bytes.{lowered}

unfoldable pub same_bytes : List ℕ → List ℕ → Bool
same_bytes [] [] = true
same_bytes [] (y ∷ ys) = false
same_bytes (x ∷ xs) [] = false
same_bytes (x ∷ xs) (y ∷ ys) = eqb x y && same_bytes xs ys

-- the same bytes whatever the case of the letters (RFC 5545, section 2): both in lower case are the same
abbrev pub same_word : List ℕ → List ℕ → Bool
same_word xs ys = same_bytes (map lowered xs) (map lowered ys)

-- the word stands at the front of the line, whatever the case of the letters (RFC 5545, section 2)
unfoldable pub starts_word : List ℕ → List ℕ → Bool
starts_word [] line = true
starts_word (w ∷ ws) [] = false
starts_word (w ∷ ws) (x ∷ xs) = eqb (lowered x) (lowered w) && starts_word ws xs

abbrev pub begin_word : List ℕ
begin_word = 66 ∷ 69 ∷ 71 ∷ 73 ∷ 78 ∷ []

abbrev pub end_word : List ℕ
end_word = 69 ∷ 78 ∷ 68 ∷ []
