-- `listing::lay_section`: heading, count and rows.
-- Assumes nothing.
use Rattle.std.proofs.Common.{ℕ, List, ◌++◌, refl, arith}
use Rattle.octets.specs.Bytes.{lf}
use Rattle.octets.proofs.Writing.{start, more, end}
use Rattle.tables.specs.Rows.{row_at}
use Rattle.listing.specs.Texts.{field, decimal}
use Rattle.listing.specs.Lines.{listed_rows, section}
use Rattle.listing.proofs.lay_section.Goals as goal

pub returns : goal.returns
returns g c =
    let count = c.args.count in
    let line : ℕ → List ℕ = λ (n : ℕ). g.R.Listed.line c.args.text.now (row_at g.R.Row.WORDS g.R.Row.from c.args.table.now n) in
    let lines = listed_rows line 0 count in
    let w0 = start c.args.at c.args.out.now (section g.R.Listed.title line count) in
    let w1 = more w0 (omega arith) g.R.Listed.title (field (decimal count) lf ++ lines) refl c.lay_heading-to.ensures in
    let w2 = more w1 (omega arith) (field (decimal count) lf) lines refl c.lay_number-to.ensures in
    end w2 c.lay_rows.ensures
