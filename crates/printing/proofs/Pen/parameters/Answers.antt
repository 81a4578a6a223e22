-- `printing::Pen::parameters`: the row is the property's own, and laid.
use native.Mathlib.Omega.{arith}
use mathlib.Core.Path.{ap}
use Rattle.tables.specs.Trees.{parameter_of}
use Rattle.tables.specs.declared.ParameterRow.{ParameterRow}
use Rattle.printing.specs.Lines.{parameter_text}
use Rattle.printing.proofs.Pens.{inside, turn, listed, piece_as}
use Rattle.printing.proofs.Pen.parameters.Goals as goal

pub at-p-requires : goal.at-p-requires
at-p-requires g c =
    let l = c.args.line.now in
    inside l.tables.now.parameters.now l.number l.first c.loop-row.invariant.along (omega arith)

pub loop-row-preserved : goal.loop-row-preserved
loop-row-preserved g c =
    turn c.loop-row.invariant (omega arith) (omega (arith, g.met.S.Sink.no_longer c.args.out.now))
    (piece_as (ap (λ (p : ParameterRow). parameter_text (parameter_of c.args.line.now.tables.now.text.now p)) c.at-p.ensures) c.parameter-pen.ensures)

pub returns : goal.returns
returns g c = listed c.loop-row.invariant (omega arith)
