-- `parameters::parameters`: at each turn the parameters passed so far are counted, with their bytes.
-- Assumes nothing.
use Rattle.std.proofs.Common.{◌-◌, length}
use Rattle.parameters.proofs.Lists.{Passing}
use Rattle.parameters.proofs.parameters.Given as goal

abbrev pub invariant-loop-p : goal.invariant-loop-p
invariant-loop-p l = Passing l.rest l.count l.used

abbrev pub decreases-loop-p : goal.decreases-loop-p
decreases-loop-p l = length l.rest - l.used
