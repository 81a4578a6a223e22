-- What lies between the front and the end that agree compares as the whole.
use Rattle.std.proofs.Common.{◌∙◌}
use Rattle.comparing.proofs.Ends.{between_ends}
use Rattle.sifting.proofs.same_runs.Goals as goal

pub returns-then-between-le-FEW : goal.returns-then-between-le-FEW
returns-then-between-le-FEW c =
    let r = c.args.runs.now in
    c.all_settled.ensures
    ∙ between_ends r.text.now r.parameters.now r.a r.b r.count r.a_inside r.b_inside c.agreeing_front-front.ensures.value
    c.without_agreeing_back.ensures.value

pub returns : goal.returns
returns c =
    let r = c.args.runs.now in
    c.in_rounds.ensures
    ∙ between_ends r.text.now r.parameters.now r.a r.b r.count r.a_inside r.b_inside c.agreeing_front-front.ensures.value
    c.without_agreeing_back.ensures.value
