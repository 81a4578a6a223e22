-- A piece is cut off, and the remainder is one.
use Rattle.std.proofs.Common.{arith}
use Rattle.folding.proofs.Repository.{turn, finish}
use Rattle.folding.proofs.fold_repository.Goals as goal

pub loop-rest-preserved : goal.loop-rest-preserved
loop-rest-preserved c =
    rw (c.split_at.ensures.back, c.cut_at.ensures)
    (turn c.loop-rest.invariant c.loop-rest-test.true (omega arith) (rw (c.split_at.ensures.front, c.cut_at.ensures) at c.lay_line-length.ensures))

pub returns : goal.returns
returns c = finish c.loop-rest.invariant c.loop-rest-test.false c.lay.ensures
