-- Laws of what is told of an output, and of what its buffer holds then. Assumes nothing.
use mathlib.Core.Path.{◌≡◌, ap, ◌∙◌}
use mathlib.Core.List.{List}
use Prim.Native.Nat.{ℕ, suc, ◌≤◌, ◌<◌}
use native.Mathlib.Omega.{arith}
use lib.Dec.{leb}
use borrow.Author.Tests.{ne_eqb, le-leb, lt-leb}
use Rattle.octets.specs.Choice.{pick}
use Rattle.octets.specs.Laid.{counted}
use Rattle.octets.specs.Answers.{longest, done, too_long, output, room_answer, out_after}
use Rattle.octets.specs.declared.Output.{Output}

-- with what is told, `r` is that; a refusal keeps the buffer
module _ {told r : Output} (e : r ≡ told) (bytes old : List ℕ) where
  pub kept : (r.answer ≡ done → ⊥) → (r ≡ told) × (old ≡ out_after told bytes old)
  kept h = (e, rw (← e, ne_eqb r.answer done h))

-- a refusal is not Done
pub told_no_done : {answer place : ℕ} {r : Output} → r ≡ output (suc answer) place 0 → r.answer ≡ done → ⊥
told_no_done p e = omega (arith, ap (λ (r : Output). r.answer) p)

-- by the length of what is to be written, of which n bytes are counted: too long, or as the room decides
module _ (needed room : ℕ) {n : ℕ} (e : n ≡ counted needed) where
  pub when_too_long : longest < n → {r : Output} → r ≡ output too_long 0 0 → r ≡ pick (leb needed longest) (room_answer needed room) (output too_long 0 0)
  when_too_long h p = p ∙ rw (lt-leb needed longest (omega arith))

  pub by_room : n ≤ longest → {r : Output} → r ≡ room_answer n room → r ≡ pick (leb needed longest) (room_answer needed room) (output too_long 0 0)
  by_room h p =
      let same : n ≡ needed = omega arith in
      p ∙ (ap (λ (k : ℕ). room_answer k room) same ∙ rw (le-leb needed longest (omega arith)))
