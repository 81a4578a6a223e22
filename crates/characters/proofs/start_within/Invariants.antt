-- The last bytes up to the place are tails.
use Rattle.characters.proofs.Cuts.{Back}
use Rattle.characters.proofs.start_within.Given as goal

abbrev pub invariant-loop-back : goal.invariant-loop-back
invariant-loop-back l = Back l.rest l.room l.back
