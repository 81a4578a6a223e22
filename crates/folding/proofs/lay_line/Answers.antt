-- The piece, and then the break.
use Rattle.std.proofs.Common.{arith}
use Rattle.octets.proofs.Writing.{both}
use Rattle.folding.proofs.lay_line.Goals as goal

pub returns : goal.returns
returns c = both c.lay-end.ensures c.lay_break.ensures (omega arith)
