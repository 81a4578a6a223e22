-- A byte more is tried.
use Rattle.std.proofs.Common.{◌≡◌, ◌&&◌, ◌||◌, Bool, true, false, not, refl}
use Rattle.octets.proofs.Runs.{tried_more}
use Rattle.quoting.proofs.all_plain.Goals as goal

none_of : (a b c : Bool) → (not a && not b) && not c ≡ not (a || (b || c))
none_of true b c = refl
none_of false true c = refl
none_of false false c = refl

pub loop-b-preserved : goal.loop-b-preserved
loop-b-preserved c = rw none_of (tried_more c.loop-b.invariant c.loop-b-test.true)
