-- Serves inner contracts only. A look that most texts pass: each byte beside the two before it, so that all may be tried at once.
-- It knows characters of three bytes at most and no control bytes. A text that does not pass it may be UTF-8 all the same.
-- Assumes nothing.
use Rattle.std.specs.Prelude.{ℕ, Bool, not, ◌&&◌, ◌||◌, List, [], ◌∷◌, length, eqb, leb, ltb}
use Rattle.octets.specs.Choice.{pick}
use Rattle.octets.specs.Bytes.{between, common}
use Rattle.characters.specs.Units.{tail}

-- no control byte but DEL
abbrev pub shown : ℕ → Bool
shown x = leb 32 x

-- a byte is asked for where c stands before it, and b before that: it has to be a tail
abbrev pub asked : ℕ → ℕ → Bool
asked b c = leb 194 c || leb 224 b

-- any other begins a character of one, two or three bytes
abbrev pub begins : ℕ → Bool
begins x = common x || between 194 239 x

-- the byte that does not take this tail: E0 the lower ones, which would make a longer form than is needed, and ED the upper ones, which are for surrogates
abbrev pub barred : ℕ → ℕ
barred x = pick (ltb x 160) 224 237

abbrev pub beside : ℕ → ℕ → ℕ → Bool
beside b c x = ((asked b c && tail x) || (not (asked b c) && begins x)) && not (eqb c (barred x))

-- each of them is so, and the last asks for none
unfoldable pub looked : ℕ → ℕ → List ℕ → Bool
looked b c [] = not (asked b c)
looked b c (x ∷ xs) = beside b c x && looked c x xs

-- as if two bytes of 0 stood before a text; it has two of its own at least
abbrev pub common_text : List ℕ → Bool
common_text xs = leb 2 (length xs) && looked 0 0 xs
