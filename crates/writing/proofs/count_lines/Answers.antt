-- `writing::count_lines`: each row has one line.
use native.Mathlib.Omega.{arith}
use mathlib.Core.Path.{◌≡◌, ap}
use Prim.Native.Nat.{ℕ, zero-le}
use lib.ListN.{length}
use Rattle.tables.specs.Rows.{property_size, property_at}
use Rattle.tables.specs.Lent.{held, properties_in}
use Rattle.tables.proofs.Laws.{length_rows}
use Rattle.walking.specs.Totals.{total}
use Rattle.writing.specs.Lengths.{line_length}
use Rattle.writing.proofs.Lengths.{no_row, one_row}
use Rattle.writing.proofs.count_lines.Goals as goal

pub loop-number-init : goal.loop-number-init
loop-number-init c = (zero-le, no_row _ c.args.at (omega arith))

pub loop-number-preserved : goal.loop-number-preserved
loop-number-preserved c =
    let own = c.count_property-own.ensures in (
      omega (arith, own.next_value, c.line_at.ensures.next_bound),
      one_row _ c.args.at c.loop-number.number c.loop-number.invariant.1 (omega (arith, c.saturating_add.ensures, own.length_value, ap (length {A = ℕ}) c.line_at.ensures.value)),
    )

pub returns : goal.returns
returns c =
    let t = c.args.walk.now.tables in
    let e : c.loop-number.number ≡ length (properties_in t.properties.now) =
    omega (arith, c.count-number-end.ensures, length_rows property_size property_at t.properties.now) in
    omega (arith, c.loop-number.invariant.1, ap (total (line_length (held t)) 0) e)
