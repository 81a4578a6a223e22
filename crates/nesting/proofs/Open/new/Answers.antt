-- `nesting::Open::new`: nothing is open.
-- Assumes nothing.
use Rattle.std.proofs.Common.{refl, arith}
use Rattle.nesting.specs.Held.{stack, array_of}
use Rattle.nesting.proofs.Open.new.Goals as goal

pub invariant_of-result : goal.invariant_of-result
unfolding stack array_of
invariant_of-result c = (omega arith, (refl, refl))

pub returns : goal.returns
unfolding stack
returns c = refl
