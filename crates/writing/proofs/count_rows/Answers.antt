-- `writing::count_rows`: the lines of all rows are the lines of the trees.
use native.Mathlib.Omega.{arith}
use mathlib.Core.Path.{ap}
use lib.ListN.{length}
use Rattle.tables.specs.Lent.{held, properties_in}
use Rattle.tables.specs.declared.Tables.{Tables}
use Rattle.walking.specs.Totals.{total}
use Rattle.writing.specs.Lengths.{line_length}
use Rattle.writing.proofs.Lengths.{rows_long}
use Rattle.writing.proofs.count_rows.Goals as goal

pub returns : goal.returns
returns c =
    let checked = c.args.checked.now in
    omega (
      arith,
      c.count_lines.ensures,
      c.count_marks-marks.ensures,
      ap (λ (t : Tables). total (line_length (held t)) 0 (length (properties_in (held t).properties))) c.new.ensures.0,
      rows_long (held checked.tables) checked.meets,
    )
