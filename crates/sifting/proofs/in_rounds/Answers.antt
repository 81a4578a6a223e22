-- No row is settled before the first round, and behind the last all are.
use Rattle.std.proofs.Common.{refl, arith}
use Rattle.comparing.proofs.Rows.{settle_none, all_told}
use Rattle.sifting.proofs.in_rounds.Goals as goal

pub loop-from-init : goal.loop-from-init
loop-from-init c =
    let r = c.args.runs.now in
    record { same_runs = refl; in_run = omega arith; settled = settle_none r.text.now r.parameters.now r.a r.b r.count }

pub returns : goal.returns
returns c =
    let r = c.args.runs.now in
    all_told r.text.now r.parameters.now r.a r.b r.count r.a_inside r.b_inside c.loop-from.from (omega arith) c.loop-from.invariant.settled
