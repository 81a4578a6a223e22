-- The next row is the same, or it is not.
use Rattle.std.proofs.Common.{◌+◌, sym, ◌∙◌, arith}
use Rattle.comparing.proofs.Rows.{count_none, count_more}
use Rattle.comparing.proofs.Runs.many_before.Goals as goal
use Rattle.comparing.proofs.Runs.many_before.Goals.{then-same_rows, else-same_rows}

pub loop-k-init : goal.loop-k-init
loop-k-init c = let s = c.args.self.now in (omega arith, sym (count_none s.text.now s.parameters.now (s.a + c.args.i) s.a))

pub loop-k-preserved : goal.loop-k-preserved
loop-k-preserved c =
    let s = c.args.self.now in
    elim c.if-same_rows.branch [
      | then-same_rows w ↦ (omega arith, omega (arith, count_more s.text.now s.parameters.now (s.a + c.args.i) s.a c.loop-k.k (omega arith) (sym c.same_rows.ensures ∙ w.if-same_rows.true)))
      | else-same_rows w ↦ (omega arith, omega (arith, count_more s.text.now s.parameters.now (s.a + c.args.i) s.a c.loop-k.k (omega arith) (sym c.same_rows.ensures ∙ w.if-same_rows.false)))
    ]
