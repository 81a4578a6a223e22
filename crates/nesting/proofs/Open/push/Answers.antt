-- `nesting::Open::push`: the entry at the depth is the first of the list.
-- Assumes nothing.
use Rattle.std.proofs.Common.{length, ◌∷◌, ap, ◌∙◌, length-set, arith}
use Rattle.nesting.specs.Held.{length_stack}
use Rattle.nesting.proofs.Stacks.{pushed, pushed_whole}
use Rattle.nesting.proofs.Open.push.Goals as goal

pub bounds-self-inside-self-inside : goal.bounds-self-inside-self-inside
bounds-self-inside-self-inside c = omega (arith, length_stack c.self.inside.entries c.self.inside.depth, ap length c.self.view_is)

pub invariant_of-self : goal.invariant_of-self
invariant_of-self c = (
  omega (arith, length_stack c.self.inside.entries c.self.inside.depth, ap length c.self.view_is),
  (
    length-set c.self.inside.entries c.self.inside.depth c.args.e ∙ c.self.invariant.1.0,
    pushed_whole _ _ c.self.invariant.1.1 c.args.e
        (omega (arith, length_stack c.self.inside.entries c.self.inside.depth, ap length c.self.view_is)) c.self.invariant.1.0,
  ),
)

pub returns : goal.returns
returns c =
    pushed c.self.inside.entries c.self.inside.depth c.args.e
    (omega (arith, length_stack c.self.inside.entries c.self.inside.depth, ap length c.self.view_is, c.self.invariant.1.0))
    ∙ ap (◌∷◌ c.args.e) c.self.view_is
