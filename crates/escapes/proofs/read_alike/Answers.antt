-- Bytes that differ, a byte more of both, or the end of one.
use Rattle.std.proofs.Common.{◌∙◌}
use Rattle.escapes.proofs.Alike.{pair_differs, pair_more, ends_one, ends_other}
use Rattle.escapes.proofs.read_alike.Goals as goal
use Rattle.escapes.proofs.read_alike.Goals.{in_default, in_default-2}

pub returns-then-x-y : goal.returns-then-x-y
returns-then-x-y c = pair_differs c.loop-x.invariant c.in-Some-Some.ensures c.in-Some-Some.ensures' c.if-x-y.true

pub loop-x-preserved : goal.loop-x-preserved
loop-x-preserved c = pair_more c.loop-x.invariant c.in-Some-Some.ensures c.in-Some-Some.ensures' c.if-x-y.false

pub returns : goal.returns
returns c =
    let v = c.loop-x.v.now in
    let w' = c.loop-x.w.now in
    rw (c.is_empty.ensures, c.is_empty-2.ensures)
    (elim c.match-next_unit.branch [ in_default w ↦ ends_other _ v w' w.in_default.ensures' ∙ c.loop-x.invariant | in_default-2 w ↦ ends_one _ v w' w.in_default.ensures ∙ c.loop-x.invariant ])
