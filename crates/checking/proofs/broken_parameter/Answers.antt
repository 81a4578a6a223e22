use Rattle.std.proofs.Common.{arith, sym, ◌∙◌}
use Rattle.checking.proofs.Passing.{fitting, breaking, end}
use Rattle.checking.proofs.broken_parameter.Goals as goal

pub returns-then-not-parameter_fits : goal.returns-then-not-parameter_fits
returns-then-not-parameter_fits c =
    breaking c.loop-row.invariant (omega arith) c.at-p.ensures (sym c.parameter_fits.ensures ∙ c.if-not-parameter_fits.true)

pub loop-row-preserved : goal.loop-row-preserved
loop-row-preserved c =
    fitting c.loop-row.invariant (omega arith) c.at-p.ensures (sym c.parameter_fits.ensures ∙ c.if-not-parameter_fits.false)

pub returns : goal.returns
returns c = end c.loop-row.invariant (omega arith)
