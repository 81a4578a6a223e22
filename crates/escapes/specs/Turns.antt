-- Serves inner contracts only. One byte of a text at the front of its value, what a look through a value finds, and what a value leaves that is laid.
-- Assumes nothing.
use Rattle.std.specs.Prelude.{ℕ, ◌+◌, ◌<◌, ◌≡◌, Bool, ◌&&◌, Option, MatchOption, Result, Ok, Err, List, ◌∷◌, length}
use denote.Ref.{Bor}
use Rattle.octets.specs.Choice.{pick}
use Rattle.octets.specs.Words.{same_bytes}
use Rattle.octets.specs.Laid.{laid}
use Rattle.escapes.specs.Text.{fine, escapes_fine, text_of, as_value}
use Rattle.escapes.specs.declared.Mode.{Mode}

-- the length of the text, or the place of the first bad escape
abbrev pub scanned : Mode → List ℕ → Result ℕ ℕ
scanned mode value = pick (escapes_fine mode value) (Ok (length (text_of value))) (Err (fine mode value))

-- a byte of the text stands at the front of a value, and the rest of the value for the rest of the text; as many bytes are fine as before
pub record Unit (mode : Mode) (value : List ℕ) (byte : ℕ) (rest : List ℕ) : Type 0 where
  pub shorter : length rest < length value
  pub onward : fine mode value + length rest ≡ length value + fine mode rest
  pub text : text_of value ≡ byte ∷ text_of rest

-- such a byte and the rest, or none, where no byte is fine: at the end, or where a backslash begins no escape
abbrev pub Turns : Mode → List ℕ → Option (ℕ × Bor (List ℕ)) → Type 0
Turns mode value found = MatchOption found (fine mode value ≡ 0) (λ unit. Unit mode value unit.0 unit.1.now)

-- two values that the mode reads, and as the same text
abbrev pub read_alike : Mode → List ℕ → List ℕ → Bool
read_alike mode v w = (escapes_fine mode v && escapes_fine mode w) && same_bytes (text_of v) (text_of w)

-- the value of a text lies over the front of a buffer, and its bytes are counted
pub record Written (text old new : List ℕ) (n : ℕ) : Type 0 where
  pub count : n ≡ length (as_value text)
  pub is : new ≡ laid (as_value text) old
