-- A row that takes the place of another is one of them.
use Rattle.std.proofs.Common.{◌+◌, ◌-◌, length, get_or, arith}
use Rattle.sifting.proofs.Shelves.{stand_set}
use Rattle.sifting.proofs.last_to.Goals as goal

pub loop-k-preserved : goal.loop-k-preserved
loop-k-preserved c n s =
    let so = c.loop-k.invariant n s in
    let k = c.loop-k.k - 1 in
    stand_set n c.loop-k.rows (k + 1) (get_or c.loop-k.rows k 0) (omega arith) (so k (omega arith)) so

pub returns : goal.returns
returns c n s =
    let old = c.args.rows.now in
    stand_set n c.loop-k.rows c.args.place (get_or old (length old - 1) 0) (omega arith) (s (length old - 1) (omega arith)) (c.loop-k.invariant n s)
