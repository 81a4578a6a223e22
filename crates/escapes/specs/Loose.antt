-- When two values are alike as texts (document 02, request 1): "compares property values as read in the strict mode, or as bytes if either is refused there".
-- Here document 02 departs from the RFC: docs/DIFFERENCES.md, R-28.
-- Assumes nothing.
use Rattle.std.specs.Prelude.{ℕ, Bool, ◌&&◌, List, length, leb}
use Rattle.octets.specs.Choice.{pick}
use Rattle.octets.specs.Answers.{longest}
use Rattle.octets.specs.Words.{same_bytes}
use Rattle.escapes.specs.Text.{escapes_fine, text_of}
use Rattle.escapes.specs.declared.Mode.{Mode}

-- the strict mode refuses it neither as too long nor for an escape
abbrev pub strictly_read : List ℕ → Bool
strictly_read value = leb (length value) longest && escapes_fine Mode.Strict value

abbrev pub same_text : List ℕ → List ℕ → Bool
same_text v w = pick (strictly_read v && strictly_read w) (same_bytes (text_of v) (text_of w)) (same_bytes v w)
