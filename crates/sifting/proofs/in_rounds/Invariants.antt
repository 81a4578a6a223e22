-- Where a round begins, no parameter stands oftener among the rows before it than in the second run.
use Rattle.std.proofs.Common.{◌≡◌, ◌-◌, ◌≤◌}
use Rattle.comparing.specs.Runs.{SettledTo}
use Rattle.sifting.proofs.in_rounds.Given as goal

abbrev pub invariant-loop-from : goal.invariant-loop-from
invariant-loop-from l =
    let r = l.runs in
    record {
      same_runs : l.shelf.runs ≡ r;
      in_run : l.from ≤ r.count;
      settled : SettledTo r.text.now r.parameters.now r.a r.b r.count l.from;
    }

abbrev pub decreases-loop-from : goal.decreases-loop-from
decreases-loop-from l = l.runs.count - l.from
