-- `unfolding::unfold_into` lays piece after piece.
-- Assumes nothing.
use Rattle.std.proofs.Common.{◌-◌, take, drop, length-drop, drop_of_length-le, ap, ◌∙◌, arith}
use lib.Seq.{length-take-le}
use Rattle.octets.proofs.Writing.{more, end, stays}
use Rattle.unfolding.specs.Unfold.{unfolded}
use Rattle.unfolding.proofs.Laws.{nothing, length_unfolded}
use Rattle.unfolding.proofs.unfold_into.Goals as goal

pub loop-i-preserved : goal.loop-i-preserved
loop-i-preserved c =
    let l = c.loop-i in
    let rest = drop l.i c.args.feed.now in
    let k = c.piece_at-piece.result.end - l.i in
    let e = length-take-le k rest (omega (arith, length-drop l.i c.args.feed.now)) in
    let w = c.lay-n.ensures in
    (omega (arith, e, w.count), omega arith, more l.invariant.2 (omega arith) (take k rest) _ c.piece_at-piece.ensures.is w)

pub returns : goal.returns
returns c =
    let l = c.loop-i in
    let feed = c.args.feed.now in
    let e = ap unfolded (drop_of_length-le feed {i = l.i} c.loop-i-test.false) ∙ nothing 0 in
    let f = end (rw e at l.invariant.2) (stays l.n l.text (omega arith)) in
    record { count = omega (arith, f.count, length_unfolded feed); text = f.is }
