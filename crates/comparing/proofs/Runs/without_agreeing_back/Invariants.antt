-- Wherever the loop stands, as much is left of the runs up to there as of the whole of them.
use Rattle.std.proofs.Common.{◌≡◌, ◌≤◌}
use Rattle.comparing.specs.Runs.{without_agreeing_back}
use Rattle.comparing.proofs.Runs.without_agreeing_back.Given as goal

abbrev pub invariant-loop-left : goal.invariant-loop-left
invariant-loop-left l =
    let s = l.self in
    (l.left ≤ s.count) × (without_agreeing_back s.text.now s.parameters.now s.a s.b l.left ≡ without_agreeing_back s.text.now s.parameters.now s.a s.b s.count)

abbrev pub decreases-loop-left : goal.decreases-loop-left
decreases-loop-left l = l.left
