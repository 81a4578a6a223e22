-- `parameters::further_len`: at each turn the parts passed so far are further parts.
-- Assumes nothing.
use Rattle.std.proofs.Common.{◌-◌, length}
use Rattle.parameters.proofs.Values.{Joined}
use Rattle.parameters.proofs.further_len.Given as goal

abbrev pub invariant-loop-next : goal.invariant-loop-next
invariant-loop-next l = Joined l.a l.at

abbrev pub decreases-loop-next : goal.decreases-loop-next
decreases-loop-next l = length l.a - l.at
