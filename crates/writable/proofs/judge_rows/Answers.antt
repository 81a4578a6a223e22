-- `writable::judge_rows`: a row with a fault is told, and behind one without the others are judged.
use native.Mathlib.Omega.{arith}
use mathlib.Core.Path.{ap, ◌∙◌}
use Rattle.tables.specs.Rows.{row_at}
use Rattle.writable.proofs.Laws.{on, off, end}
use Rattle.writable.proofs.judge_rows.Goals as goal

pub returns-in-Err : goal.returns-in-Err
returns-in-Err g c =
    let r = g.R.Row in
    let verdict_of = g.R.Writable.verdict_of c.args.text.now in
    off verdict_of r.WORDS (row_at r.WORDS r.from) c.args.table.now c.args.first c.loop-i.invariant (omega arith)
    (c.verdict.ensures ∙ ap verdict_of c.at.ensures) c.in-Err.is

pub loop-i-preserved : goal.loop-i-preserved
loop-i-preserved g c =
    let r = g.R.Row in
    let verdict_of = g.R.Writable.verdict_of c.args.text.now in
    on verdict_of r.WORDS (row_at r.WORDS r.from) c.args.table.now c.args.first c.loop-i.invariant (omega arith)
    (c.verdict.ensures ∙ ap verdict_of c.at.ensures) c.in_default.is

pub returns : goal.returns
returns g c =
    let r = g.R.Row in
    let verdict_of = g.R.Writable.verdict_of c.args.text.now in
    end verdict_of r.WORDS (row_at r.WORDS r.from) c.args.table.now c.args.first c.loop-i.invariant (omega arith)
