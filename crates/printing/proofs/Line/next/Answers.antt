-- `printing::Line::next`: the rows are over, or the row belongs to another property.
use native.Mathlib.Omega.{arith}
use mathlib.Core.Path.{ap}
use Rattle.tables.specs.declared.ParameterRow.{ParameterRow}
use Rattle.printing.proofs.Pens.{one_more, no_more, over}
use Rattle.printing.proofs.Line.next.Goals as goal

pub returns-then-at-self : goal.returns-then-at-self
returns-then-at-self c =
    let l = c.args.self.now in
    no_more l.tables.now.parameters.now l.number l.first c.loop-row.invariant (omega arith) (λ e. c.if-at-self.true (omega (arith, ap (λ (p : ParameterRow). p.property) c.at.ensures)))

pub loop-row-preserved : goal.loop-row-preserved
loop-row-preserved c =
    let l = c.args.self.now in
    one_more l.tables.now.parameters.now l.number l.first c.loop-row.invariant (omega arith) (omega (arith, ap (λ (p : ParameterRow). p.property) c.at.ensures))

pub returns : goal.returns
returns c =
    let l = c.args.self.now in
    rw (c.max.ensures, c.count-rows.ensures) (over l.tables.now.parameters.now l.number l.first c.loop-row.invariant (omega arith))
