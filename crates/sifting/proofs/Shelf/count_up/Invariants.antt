-- The rows up to there are counted.
use Rattle.sifting.specs.Rounds.{Counted}
use Rattle.sifting.proofs.Shelf.count_up.Given as goal

abbrev pub invariant-loop-i : goal.invariant-loop-i
invariant-loop-i l = Counted l.self l.tally l.i
