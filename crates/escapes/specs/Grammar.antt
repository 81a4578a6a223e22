-- Serves laws only. A value and its text in the words of a grammar (RFC 5545, section 3.3.11; document 02, request 1): bytes and escapes one after the other.
-- It is the second wording of specs/Text.antt, and shares nothing with it.
-- Here document 02 departs from the RFC: docs/DIFFERENCES.md, R-26, R-27.
-- Assumes nothing.
use Rattle.std.specs.Prelude.{ℕ, ◌≡◌, List, [], ◌∷◌}
use Rattle.escapes.specs.declared.Mode.{Mode}

-- what may stand behind a backslash, and what the two stand for
pub data Escape : Mode → ℕ → ℕ → Type 0 where
  a_backslash : {mode : Mode} → Escape mode 92 92
  a_semicolon : {mode : Mode} → Escape mode 59 59
  a_comma : {mode : Mode} → Escape mode 44 44
  as_small_n : {mode : Mode} → Escape mode 110 10
  as_capital_n : {mode : Mode} → Escape mode 78 10
  -- the repository's tests have this one too
  a_colon : Escape Mode.Repository 58 58

-- in the mode the value stands for the text
pub data StandsFor (mode : Mode) : List ℕ → List ℕ → Type 0 where
  no_byte : StandsFor mode [] []
  a_byte : {x : ℕ} {value text : List ℕ} → (x ≡ 92 → ⊥) → StandsFor mode value text → StandsFor mode (x ∷ value) (x ∷ text)
  an_escape : {y b : ℕ} {value text : List ℕ} → Escape mode y b → StandsFor mode value text → StandsFor mode (92 ∷ y ∷ value) (b ∷ text)
