-- `nesting::Open::pop`: one less is open, where one is, and the array has no entry there.
-- Assumes nothing.
use Rattle.std.proofs.Common.{length-set, ◌∙◌, arith}
use Rattle.nesting.proofs.Stacks.{popped, popped_whole}
use Rattle.nesting.proofs.Open.pop.Goals as goal

pub invariant_of-self : goal.invariant_of-self
invariant_of-self c = (
  omega (arith, c.saturating_sub-self-inside.ensures, c.self.invariant.0),
  (
    length-set c.self.inside.entries c.saturating_sub-self-inside.result _ ∙ c.self.invariant.1.0,
    popped_whole _ _ c.self.invariant.1.1 _ c.saturating_sub-self-inside.ensures c.self.invariant.0,
  ),
)

pub returns : goal.returns
returns c = popped _ _ _ c.self.view_is _ _ c.saturating_sub-self-inside.ensures
