-- `listing::lay_number`: the digits, then the byte that ends them.
-- Assumes nothing.
use Rattle.std.proofs.Common.{arith}
use Rattle.octets.proofs.Writing.{both}
use Rattle.listing.proofs.lay_number.Goals as goal

pub returns : goal.returns
returns c = both c.lay_digits-to.ensures c.lay.ensures (omega arith)
