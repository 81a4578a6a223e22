-- No parameter stands oftener among the rows up to there than in the second run.
use Rattle.comparing.specs.Runs.{SettledTo}
use Rattle.sifting.proofs.Shelf.settle.Given as goal

abbrev pub invariant-loop-k : goal.invariant-loop-k
invariant-loop-k l = let r = l.self.runs in SettledTo r.text.now r.parameters.now r.a r.b r.count l.k
