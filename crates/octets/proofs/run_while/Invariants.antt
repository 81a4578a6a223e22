use Rattle.std.proofs.Common.{◌≡◌, ℕ, ◌<◌, Bool}
use Rattle.octets.proofs.Runs.{Ran}
use Rattle.octets.proofs.run_while.Given as goal

abbrev pub invariant-loop-i : goal.invariant-loop-i
invariant-loop-i g l = (class : ℕ → Bool) → ((x : ℕ) (b : Bool) → x < 256 → goal.F-post g l.is_in x b → b ≡ class x) → Ran class l.a l.i
