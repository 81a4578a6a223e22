-- `writable::judge`: each table before those behind it.
use Rattle.std.proofs.lemmas.Result.{err_from_is_err_and}
use Rattle.tables.specs.Lent.{held}
use Rattle.writable.proofs.Laws.{in_components, in_properties, in_parameters}
use Rattle.writable.proofs.judge.Goals as goal

pub returns-in_err-judge_rows : goal.returns-in_err-judge_rows
returns-in_err-judge_rows c =
    let p = err_from_is_err_and c.from_residual.result c.from_residual.ensures.1 in
    rw (p.1, p.2) (in_components (held c.args.tables.now) c.judge_rows.ensures c.in_err-judge_rows.was)

pub returns-in_err-judge_rows-2 : goal.returns-in_err-judge_rows-2
returns-in_err-judge_rows-2 c =
    let r = c.from_residual-in_err-judge_rows-2 in
    let p = err_from_is_err_and r.result r.ensures.1 in
    rw (p.1, p.2)
    (in_properties (held c.args.tables.now) c.judge_rows.ensures c.in_ok-judge_rows.was c.count-first.ensures
    c.judge_rows-2.ensures c.in_err-judge_rows-2.was)

pub returns : goal.returns
returns c =
    in_parameters (held c.args.tables.now) c.judge_rows.ensures c.in_ok-judge_rows.was c.count-first.ensures
    c.judge_rows-2.ensures c.in_ok-judge_rows-2.was c.count.ensures c.judge_rows-3.ensures
