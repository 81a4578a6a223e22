-- Laws of quoting: what stays, what is wraps, and each way out. Assumes nothing.
use mathlib.Core.Path.{◌≡◌, sym, ap, ◌∙◌}
use mathlib.Core.Bool.{Bool, true, false}
use mathlib.Core.List.{List, [], ◌∷◌, ◌++◌}
use Prim.Native.Nat.{ℕ, ◌+◌, ◌≤◌, ◌<◌}
use native.Mathlib.Nat.{min-eq_left}
use native.Mathlib.Omega.{arith}
use lib.ListN.{length, length-append}
use borrow.Author.Tests.{le-leb, lt-leb}
use Rattle.octets.specs.Choice.{pick}
use Rattle.octets.specs.Bytes.{quote}
use Rattle.octets.specs.Laid.{counted}
use Rattle.octets.specs.Answers.{longest, too_long, output, room_answer}
use Rattle.octets.specs.declared.Output.{Output}
use Rattle.quoting.specs.Quoting.{wraps, quoted}
use Rattle.quoting.specs.Answers.{quote_answer}

pub stays : (value : List ℕ) → wraps value ≡ false → value ≡ quoted value
stays value e = sym (ap (λ (t : Bool). pick t (quote ∷ (value ++ quote ∷ [])) value) e)

pub in_quotes : (value : List ℕ) → wraps value ≡ true → quoted value ≡ (quote ∷ []) ++ (value ++ (quote ∷ []))
in_quotes value e = ap (λ (t : Bool). pick t (quote ∷ (value ++ quote ∷ [])) value) e

pub quoted_length : (value : List ℕ) → length (quoted value) ≤ length value + 2
quoted_length value = by (wraps value)
  where
    by : (t : Bool) → length (pick t (quote ∷ (value ++ quote ∷ [])) value) ≤ length value + 2
    by true = omega (arith, length-append value (quote ∷ []))
    by false = omega arith

pub when_too_long : (value : List ℕ) (room : ℕ) → longest < length value → output too_long 0 0 ≡ quote_answer value room
when_too_long value room h = rw (lt-leb (length value) longest h)

-- the count is exact, since the value is not too long
pub counts : (value : List ℕ) (room : ℕ) → length value ≤ longest → {n : ℕ} → n ≡ counted (length (quoted value))
    → {told : Output} → told ≡ room_answer n room → told ≡ quote_answer value room
counts value room h {n} c e =
    let exact : n ≡ length (quoted value) = c ∙ min-eq_left (omega (arith, quoted_length value)) in
    rw (le-leb (length value) longest h) (e ∙ ap (λ (k : ℕ). room_answer k room) exact)
