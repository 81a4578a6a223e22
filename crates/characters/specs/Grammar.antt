-- Serves laws only. A text of UTF-8 in the words of the grammar (RFC 3629, section 4), whatever its units are.
-- Assumes nothing.
use Rattle.std.specs.Prelude.{ℕ, ◌<◌, ◌≡◌, true, List, [], ◌++◌, length, take, drop}
use Rattle.characters.specs.Utf8.{utf8_char}

-- UTF8-octets = *( UTF8-char )
pub data Utf8 : List ℕ → Type 0 where
  no_octet : Utf8 []
  a_char : (u : List ℕ) {rest : List ℕ} → utf8_char u ≡ true → Utf8 rest → Utf8 (u ++ rest)

-- where the first ill-formed character begins: all before it is UTF-8, and no character stands there
pub record IllFormedAt (xs : List ℕ) (place : ℕ) : Type 0 where
  pub inside : place < length xs
  pub before : Utf8 (take place xs)
  pub none : (u rest : List ℕ) → utf8_char u ≡ true → drop place xs ≡ u ++ rest → ⊥
