-- Escaped text (RFC 5545, section 3.3.11; document 02, request 1): what a backslash and the byte behind it stand for, what a value is read as, and how a
-- text is written.
-- Here document 02 departs from the RFC: docs/DIFFERENCES.md, R-26, R-27.
-- Assumes nothing.
use Rattle.std.specs.Prelude.{ℕ, suc, Bool, not, ◌||◌, List, [], ◌∷◌, ◌++◌, length, eqb, leb}
use Rattle.octets.specs.Choice.{pick}
use Rattle.octets.specs.Bytes.{lf, comma, colon, semicolon}
use Rattle.escapes.specs.declared.Mode.{Mode}

abbrev pub backslash : ℕ
backslash = 92

abbrev pub small_n : ℕ
small_n = 110

abbrev pub capital_n : ℕ
capital_n = 78

-- ---- reading

-- ESCAPED-CHAR: "backslash before backslash, semicolon, comma, and n or N for a line break"
abbrev pub escaped : ℕ → Bool
escaped x = eqb x backslash || (eqb x semicolon || (eqb x comma || (eqb x small_n || eqb x capital_n)))

-- what a backslash may stand before: the second mode "also turns `\:` into a colon"
abbrev pub escapable : Mode → ℕ → Bool
escapable Mode.Strict x = escaped x
escapable Mode.Repository x = escaped x || eqb x colon

-- what a byte behind a backslash stands for: n and N for a line break, any other for itself
abbrev pub meant : ℕ → ℕ
meant x = pick (eqb x small_n || eqb x capital_n) lf x

-- how many bytes stand before the first backslash that begins no escape of the mode: one before another byte, or at the end
unfoldable pub fine : Mode → List ℕ → ℕ
fine mode [] = 0
fine mode (x ∷ []) = pick (eqb x backslash) 0 1
fine mode (x ∷ (y ∷ ys)) = pick (eqb x backslash) (pick (escapable mode y) (suc (suc (fine mode ys))) 0) (suc (fine mode (y ∷ ys)))

-- there is no such backslash
abbrev pub escapes_fine : Mode → List ℕ → Bool
escapes_fine mode value = leb (length value) (fine mode value)

-- the text that a value stands for: an escape is one byte, and any other byte is itself
unfoldable pub text_of : List ℕ → List ℕ
text_of [] = []
text_of (x ∷ []) = x ∷ []
text_of (x ∷ (y ∷ ys)) = pick (eqb x backslash) (meant y ∷ text_of ys) (x ∷ text_of (y ∷ ys))

-- ---- writing

-- a byte that is written as it is: none of backslash, `;`, `,` and LF
abbrev pub safe : ℕ → Bool
safe x = not (eqb x backslash || (eqb x semicolon || (eqb x comma || eqb x lf)))

-- what stands behind the backslash for any other: n for LF, and the byte itself
abbrev pub letter : ℕ → ℕ
letter x = pick (eqb x lf) small_n x

abbrev pub spelt : ℕ → List ℕ
spelt x = pick (safe x) (x ∷ []) (backslash ∷ letter x ∷ [])

-- "both modes write alike, LF as `\n`"
unfoldable pub as_value : List ℕ → List ℕ
as_value [] = []
as_value (x ∷ xs) = spelt x ++ as_value xs
