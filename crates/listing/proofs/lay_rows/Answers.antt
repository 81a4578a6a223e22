-- `listing::lay_rows`: one line more, until there are no more rows.
-- Assumes nothing.
use Rattle.std.proofs.Common.{◌≡◌, ℕ, List, ◌+◌, ◌-◌, arith}
use Rattle.tables.specs.Rows.{row_at}
use Rattle.octets.proofs.Writing.{start, more, end, stays}
use Rattle.listing.specs.Lines.{listed_rows}
use Rattle.listing.proofs.Laws.{next_line, no_lines}
use Rattle.listing.proofs.lay_rows.Goals as goal

pub loop-row-init : goal.loop-row-init
loop-row-init g c =
    let e : c.args.count - 0 ≡ c.args.count = omega arith in
    (omega arith, rw e (start c.args.at c.args.out.now _))

pub loop-row-preserved : goal.loop-row-preserved
loop-row-preserved g c =
    let line : ℕ → List ℕ = λ (n : ℕ). g.R.Listed.line c.args.text.now (row_at g.R.Row.WORDS g.R.Row.from c.args.table.now n) in
    let row = c.loop-row.row in (
      omega (arith, c.lay-to.ensures.count),
      more c.loop-row.invariant.1 (omega arith) (line row) (listed_rows line (row + 1) (c.args.count - (row + 1))) (next_line line row c.args.count (omega arith))
          (rw c.at.ensures at c.lay-to.ensures),
    )

pub returns : goal.returns
returns g c =
    let line : ℕ → List ℕ = λ (n : ℕ). g.R.Listed.line c.args.text.now (row_at g.R.Row.WORDS g.R.Row.from c.args.table.now n) in
    end c.loop-row.invariant.1 (rw (no_lines line c.loop-row.row c.args.count (omega arith)) (stays c.loop-row.to c.loop-row.out c.loop-row.invariant.0))
