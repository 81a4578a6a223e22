-- The three bytes, one behind the other.
use Rattle.std.proofs.Common.{arith}
use Rattle.octets.proofs.Writing.{both}
use Rattle.folding.proofs.lay_break.Goals as goal

pub returns : goal.returns
returns c = both (both c.lay_byte-cr.ensures c.lay_byte-lf.ensures (omega arith)) c.lay_byte.ensures (omega arith)
