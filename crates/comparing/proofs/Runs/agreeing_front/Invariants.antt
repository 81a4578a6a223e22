-- Wherever the loop stands, the rows up to there agree, and those that do from there on make the whole.
use Rattle.std.proofs.Common.{◌≡◌, ◌+◌, ◌-◌}
use Rattle.comparing.specs.Runs.{agreeing_front}
use Rattle.comparing.proofs.Runs.agreeing_front.Given as goal

abbrev pub invariant-loop-i : goal.invariant-loop-i
invariant-loop-i l =
    let s = l.self in
    l.i + agreeing_front s.text.now s.parameters.now (s.a + l.i) (s.b + l.i) (s.count - l.i) ≡ agreeing_front s.text.now s.parameters.now s.a s.b s.count
