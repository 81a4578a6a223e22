-- Serves laws only. Where a value is refused for an escape (document 02, request 1: "16 BadEscape, place of the backslash").
-- Assumes nothing.
use Rattle.std.specs.Prelude.{ℕ, ◌+◌, ◌<◌, ◌≡◌, true, false, List, length, get_or, take}
use Rattle.escapes.specs.Text.{backslash, escapable, escapes_fine}
use Rattle.escapes.specs.declared.Mode.{Mode}

-- at this place of the value stands a backslash, no escape of the mode begins there, and all before it is fine
pub record BadAt (mode : Mode) (value : List ℕ) (place : ℕ) : Type 0 where
  pub inside : place < length value
  pub is_backslash : get_or value place 0 ≡ backslash
  -- behind the end of the value get_or is 0, which no backslash may stand before
  pub no_escape : escapable mode (get_or value (place + 1) 0) ≡ false
  pub fine_before : escapes_fine mode (take place value) ≡ true
