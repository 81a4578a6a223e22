-- Each turn counts one row more that agrees; the first that does not ends the front.
use Rattle.std.proofs.Common.{sym, ◌∙◌, arith}
use Rattle.comparing.proofs.Ends.{front_on, front_over}
use Rattle.comparing.proofs.Runs.agreeing_front.Goals as goal

pub returns-then-not-same_rows-clause-value : goal.returns-then-not-same_rows-clause-value
returns-then-not-same_rows-clause-value c =
    let s = c.args.self.now in
    omega (
      arith,
      c.loop-i.invariant,
      front_on s.text.now s.parameters.now s.a s.b s.count c.loop-i.i (omega arith) (sym c.same_rows.ensures ∙ c.if-not-same_rows.true),
    )

pub loop-i-preserved : goal.loop-i-preserved
loop-i-preserved c =
    let s = c.args.self.now in
    omega (
      arith,
      c.loop-i.invariant,
      front_on s.text.now s.parameters.now s.a s.b s.count c.loop-i.i (omega arith) (sym c.same_rows.ensures ∙ c.if-not-same_rows.false),
    )

pub returns-clause-value : goal.returns-clause-value
returns-clause-value c =
    let s = c.args.self.now in
    omega (arith, c.loop-i.invariant, front_over s.text.now s.parameters.now s.a s.b s.count c.loop-i.i (omega arith))
