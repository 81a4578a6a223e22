-- `reading::zeros::all_zero`: whether the run of zeros ends before the end.
-- Assumes nothing.
use Rattle.std.proofs.Common.{◌≡◌, ℕ, ap, ◌∙◌, length, eqb, arith}
use Rattle.reading.proofs.NewTables.{zero_more, none_hit}
use Rattle.reading.proofs.zeros.all_zero.Goals as goal

pub loop-word-preserved : goal.loop-word-preserved
loop-word-preserved c = rw c.from-hit.ensures (zero_more c.args.table.now c.loop-word.word-index c.loop-word-test.true c.loop-word.invariant)

pub returns : goal.returns
returns c =
    let end : c.loop-word.word-index ≡ length c.args.table.now = omega arith in
    ap (λ (n : ℕ). eqb n 0) (rw end at c.loop-word.invariant) ∙ none_hit c.args.table.now
