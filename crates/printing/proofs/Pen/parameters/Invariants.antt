-- `printing::Pen::parameters`: those before the row are laid, and the others are to come.
use Rattle.printing.proofs.Pens.{Listing}
use Rattle.printing.proofs.Pen.parameters.Given as goal

abbrev pub invariant-loop-row : goal.invariant-loop-row
invariant-loop-row g l = Listing l.line l.fn.self (g.S.Sink.seen l.fn.out) (g.S.Sink.seen l.out) l.pen l.row
