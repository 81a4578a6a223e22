-- `printing::Line::next`: the run goes on at the row.
use Rattle.printing.proofs.Pens.{Within}
use Rattle.printing.proofs.Line.next.Given as goal

abbrev pub invariant-loop-row : goal.invariant-loop-row
invariant-loop-row l = Within l.self.tables.now.parameters.now l.self.number l.self.first l.row
