-- `printing::Pen::close`: CR, and then LF.
use native.Mathlib.Omega.{arith}
use Rattle.octets.proofs.Writing.{both}
use Rattle.printing.proofs.Pen.close.Goals as goal

pub returns : goal.returns
returns g c = both c.lay_byte-next.ensures c.lay_byte.ensures (omega (arith, g.met.S.Sink.no_longer c.args.out.now))
