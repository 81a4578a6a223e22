-- Each turn leaves out one row more at the end that agrees; the first that does not is left.
use Rattle.std.proofs.Common.{sym, ◌∙◌, arith}
use Rattle.comparing.proofs.Ends.{back_on, back_over}
use Rattle.comparing.proofs.Runs.without_agreeing_back.Goals as goal

pub loop-left-preserved : goal.loop-left-preserved
loop-left-preserved c =
    let s = c.args.self.now in (
      omega arith,
      sym (back_on s.text.now s.parameters.now s.a s.b c.loop-left.left c.loop-left-test.true (sym c.same_rows.ensures ∙ c.if-same_rows.true))
          ∙ c.loop-left.invariant.1,
    )

pub returns-else-same_rows-clause-value : goal.returns-else-same_rows-clause-value
returns-else-same_rows-clause-value c =
    let s = c.args.self.now in
    sym (back_on s.text.now s.parameters.now s.a s.b c.loop-left.left c.loop-left-test.true (sym c.same_rows.ensures ∙ c.if-same_rows.false))
    ∙ c.loop-left.invariant.1

pub returns-after-loop-left-clause-value : goal.returns-after-loop-left-clause-value
returns-after-loop-left-clause-value c =
    let s = c.args.self.now in
    sym (back_over s.text.now s.parameters.now s.a s.b c.loop-left.left c.loop-left-test.false) ∙ c.loop-left.invariant.1
