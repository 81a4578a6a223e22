-- The rows up to there are taken off.
use Rattle.sifting.specs.Rounds.{Reduced}
use Rattle.sifting.proofs.Shelf.count_down.Given as goal

abbrev pub invariant-loop-i : goal.invariant-loop-i
invariant-loop-i l = Reduced l.self l.tally l.i
