-- The leading ones of the byte, less one where they are two, three or four.
use Rattle.std.proofs.Common.{arith}
use Rattle.std.proofs.lemmas.Bool.Decides.{nat_tests}
use Rattle.characters.proofs.Leading.{by_ones}
use Rattle.characters.proofs.tails_wanted.Goals as goal

pub returns-in-2-to-4 : goal.returns-in-2-to-4
returns-in-2-to-4 c = let e = by_ones c.args.b (omega arith) in grind (arith, nat_tests)

pub returns-in_default : goal.returns-in_default
returns-in_default c = let e = by_ones c.args.b (omega arith) in grind (arith, nat_tests)

pub returns-in_default-2 : goal.returns-in_default-2
returns-in_default-2 c = let e = by_ones c.args.b (omega arith) in grind (arith, nat_tests)
