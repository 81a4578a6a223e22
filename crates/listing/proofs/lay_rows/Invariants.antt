-- `listing::lay_rows`: the lines so far, and those to come.
-- Assumes nothing.
use Rattle.std.proofs.Common.{ℕ, ◌-◌, ◌≤◌}
use Rattle.tables.specs.Rows.{row_at}
use Rattle.octets.specs.Laid.{most}
use Rattle.octets.proofs.Writing.{Writing}
use Rattle.listing.specs.Lines.{listed_rows}
use Rattle.listing.proofs.lay_rows.Given as goal

abbrev pub invariant-loop-row : goal.invariant-loop-row
invariant-loop-row g l =
    (l.to ≤ most)
    × Writing l.at l.fn.out (listed_rows (λ (n : ℕ). g.R.Listed.line l.text (row_at g.R.Row.WORDS g.R.Row.from l.table n)) 0 l.count) l.out
    (listed_rows (λ (n : ℕ). g.R.Listed.line l.text (row_at g.R.Row.WORDS g.R.Row.from l.table n)) l.row (l.count - l.row)) l.to
