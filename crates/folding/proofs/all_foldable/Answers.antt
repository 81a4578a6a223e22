-- A byte more is tried.
use Rattle.std.proofs.Common.{◌≡◌, ℕ, arith}
use Rattle.std.proofs.lemmas.Bool.Decides.{nat_tests}
use Rattle.std.specs.Char.{is_ascii}
use Rattle.octets.specs.Bytes.{ascii}
use Rattle.octets.proofs.Runs.{tried_more}
use Rattle.folding.proofs.all_foldable.Goals as goal

ascii_is : (x : ℕ) → is_ascii x ≡ ascii x
ascii_is x = grind (arith, nat_tests)

pub loop-b-preserved : goal.loop-b-preserved
loop-b-preserved c = rw (c.is_ascii.ensures, ascii_is) (tried_more c.loop-b.invariant c.loop-b-test.true)
