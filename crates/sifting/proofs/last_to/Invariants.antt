-- Each place holds a row all the time.
use Rattle.sifting.specs.Shelves.{Moved}
use Rattle.sifting.proofs.last_to.Given as goal

abbrev pub invariant-loop-k : goal.invariant-loop-k
invariant-loop-k l = Moved l.initial.rows l.rows
