-- `nesting::Open::innermost`: the last entry is the first of the list.
-- Assumes nothing.
use Rattle.nesting.proofs.Stacks.{nothing_open, last_open}
use Rattle.nesting.proofs.Open.innermost.Goals as goal

pub returns-then-self-eq0 : goal.returns-then-self-eq0
returns-then-self-eq0 c = nothing_open _ _ _ c.self.view_is c.if-self-eq0.true

pub returns : goal.returns
returns c = last_open _ _ _ c.self.view_is c.if-self-eq0.false
