-- What is left to go, and those of the rows up to there that are the same, make the whole.
use Rattle.std.proofs.Common.{◌≡◌, ◌+◌}
use Rattle.comparing.specs.Runs.{many_in}
use Rattle.comparing.proofs.Runs.more_than.Given as goal

abbrev pub invariant-loop-k : goal.invariant-loop-k
invariant-loop-k l =
    let s = l.self in
    l.left + many_in s.text.now s.parameters.now (s.a + l.i) s.b l.k ≡ l.many
