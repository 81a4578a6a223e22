-- `listing::lay_field`: the bytes, then the byte that ends them.
-- Assumes nothing.
use Rattle.std.proofs.Common.{arith}
use Rattle.octets.proofs.Writing.{both}
use Rattle.listing.proofs.lay_field.Goals as goal

pub returns : goal.returns
returns c = both c.lay-to.ensures c.lay.ensures (omega arith)
