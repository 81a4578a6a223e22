-- `printing::Line::print`: the line, and CRLF.
use native.Mathlib.Omega.{arith}
use Rattle.printing.proofs.Pens.{closed}
use Rattle.printing.proofs.Line.print.Goals as goal

pub returns-clause-lays : goal.returns-clause-lays
returns-clause-lays g c = closed c.lay-end.ensures c.close.ensures (omega (arith, g.met.S.Sink.no_longer c.args.out.now))
