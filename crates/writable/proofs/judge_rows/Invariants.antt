-- `writable::judge_rows`: the rows from i on give what all give.
use Rattle.tables.specs.Rows.{row_at}
use Rattle.writable.proofs.Laws.{Judging}
use Rattle.writable.proofs.judge_rows.Given as goal

abbrev pub invariant-loop-i : goal.invariant-loop-i
invariant-loop-i g l = Judging (g.R.Writable.verdict_of l.text) g.R.Row.WORDS (row_at g.R.Row.WORDS g.R.Row.from) l.table l.first l.i
