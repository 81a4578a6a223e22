-- What is left of the two decides.
use Rattle.std.proofs.Common.{◌≡◌, length}
use Rattle.escapes.specs.Turns.{read_alike}
use Rattle.escapes.proofs.read_alike.Given as goal

abbrev pub invariant-loop-x : goal.invariant-loop-x
invariant-loop-x l = read_alike l.mode l.v l.w ≡ read_alike l.mode l.a l.b

abbrev pub decreases-loop-x : goal.decreases-loop-x
decreases-loop-x l = length l.v
