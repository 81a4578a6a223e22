use Rattle.std.proofs.Common.{◌-◌}
use Rattle.octets.proofs.Numbers.{Passed}
use Rattle.octets.proofs.all_of.Given as goal

abbrev pub invariant-loop-i : goal.invariant-loop-i
invariant-loop-i g l = Passed g.C.Class.has l.text l.at l.n l.i

abbrev pub decreases-loop-i : goal.decreases-loop-i
decreases-loop-i g l = l.n - l.i
