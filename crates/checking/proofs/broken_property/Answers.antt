use Rattle.std.proofs.Common.{arith, sym, ◌∙◌}
use Rattle.checking.proofs.Passing.{fitting, breaking, end}
use Rattle.checking.proofs.broken_property.Goals as goal

pub returns-then-not-property_fits : goal.returns-then-not-property_fits
returns-then-not-property_fits c =
    breaking c.loop-row.invariant (omega arith) c.at.ensures (sym c.property_fits.ensures ∙ c.if-not-property_fits.true)

pub loop-row-preserved : goal.loop-row-preserved
loop-row-preserved c =
    fitting c.loop-row.invariant (omega arith) c.at.ensures (sym c.property_fits.ensures ∙ c.if-not-property_fits.false)

pub returns : goal.returns
returns c = end c.loop-row.invariant (omega arith)
