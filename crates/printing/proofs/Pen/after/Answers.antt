-- `printing::Pen::after`: the byte, and then the piece.
use native.Mathlib.Omega.{arith}
use Rattle.printing.proofs.Pens.{behind_mark, one_mark}
use Rattle.printing.proofs.Pen.after.Goals as goal

pub returns : goal.returns
returns g c = behind_mark c.byte-marked.ensures c.piece.ensures (omega (arith, g.met.S.Sink.no_longer c.args.out.now)) (one_mark _ c.requires)
