-- `nesting::Open::depth`: the list has as many entries.
-- Assumes nothing.
use Rattle.std.proofs.Common.{length, sym, ap, ◌∙◌}
use Rattle.nesting.specs.Held.{length_stack}
use Rattle.nesting.proofs.Open.depth.Goals as goal

pub returns : goal.returns
returns c = sym (length_stack _ _) ∙ ap length c.self.view_is
