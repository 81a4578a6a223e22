-- `writing::count_marks`: each row has both lines.
use native.Mathlib.Omega.{arith}
use mathlib.Core.Path.{◌≡◌, ap}
use lib.ListN.{length}
use Rattle.tables.specs.Rows.{component_size, component_at}
use Rattle.tables.specs.Lent.{held, components_in}
use Rattle.tables.proofs.Laws.{length_rows}
use Rattle.walking.specs.Totals.{total}
use Rattle.writing.specs.Lengths.{mark_lengths, marks_length}
use Rattle.writing.proofs.Lengths.{no_row, one_row}
use Rattle.writing.proofs.count_marks.Goals as goal

pub loop-row-init : goal.loop-row-init
loop-row-init c = no_row _ 0 (omega arith)

pub name_of-name-requires : goal.name_of-name-requires
name_of-name-requires c = omega (arith, c.count-row-end.ensures, length_rows component_size component_at c.args.tables.now.components.now)

pub loop-row-preserved : goal.loop-row-preserved
loop-row-preserved c =
    one_row _ 0 c.loop-row.row c.loop-row.invariant (omega (arith, c.saturating_add-at.ensures, c.count_marks.ensures, ap mark_lengths c.name_of-name.ensures))

pub returns : goal.returns
returns c =
    let t = c.args.tables.now in
    let e : c.loop-row.row ≡ length (components_in t.components.now) =
    omega (arith, c.count-row-end.ensures, length_rows component_size component_at t.components.now) in
    omega (arith, c.loop-row.invariant, ap (total (marks_length (held t)) 0) e)
