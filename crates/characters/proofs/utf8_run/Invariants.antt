-- The bytes passed are characters, and those to come decide.
use Rattle.std.proofs.Common.{◌≡◌, ◌+◌, ◌≤◌, length}
use Rattle.characters.specs.Utf8.{utf8_run}
use Rattle.characters.proofs.utf8_run.Given as goal

abbrev pub invariant-loop-n : goal.invariant-loop-n
invariant-loop-n l = (length l.rest ≤ length l.line) × (utf8_run l.line + length l.rest ≡ length l.line + utf8_run l.rest)

abbrev pub decreases-loop-n : goal.decreases-loop-n
decreases-loop-n l = length l.rest
