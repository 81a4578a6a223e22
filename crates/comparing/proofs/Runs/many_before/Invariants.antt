-- What is found so far is how many of the rows up to there are the same, so no more than they are.
use Rattle.std.proofs.Common.{◌≡◌, ◌+◌, ◌≤◌}
use Rattle.comparing.specs.Runs.{many_in}
use Rattle.comparing.proofs.Runs.many_before.Given as goal

abbrev pub invariant-loop-k : goal.invariant-loop-k
invariant-loop-k l =
    let s = l.self in
    (l.found ≤ l.k) × (l.found ≡ many_in s.text.now s.parameters.now (s.a + l.i) s.a l.k)
