-- `writing::write_properties`: of the window's rows those of the component are laid, and these are all that it has.
use native.Mathlib.Omega.{arith}
use mathlib.Core.Path.{sym, ap, ◌∙◌}
use mathlib.Core.List.{[], ◌∷◌}
use Rattle.octets.proofs.Writing.{from_as}
use Rattle.tables.specs.Rows.{property_size, property_at}
use Rattle.tables.specs.Lent.{held, properties_in, parameters_in}
use Rattle.tables.specs.Trees.{property_of}
use Rattle.tables.specs.declared.PropertyRow.{PropertyRow}
use Rattle.tables.proofs.Laws.{length_rows, row_here}
use Rattle.printing.specs.Lines.{property_lines}
use Rattle.walking.proofs.Found.{in_window}
use Rattle.writing.proofs.Laws.{line_laid, line_passed, all_laid}
use Rattle.writing.proofs.write_properties.Goals as goal
use Rattle.writing.proofs.write_properties.Goals.{then-at-row, else-at-row}

pub at-requires : goal.at-requires
at-requires c = omega (arith, c.requires.holds.last, length_rows property_size property_at c.args.walk.now.tables.properties.now)

pub line_at-requires-clause-there : goal.line_at-requires-clause-there
line_at-requires-clause-there c = omega (arith, c.requires.holds.last, length_rows property_size property_at c.args.walk.now.tables.properties.now)

pub loop-number-preserved : goal.loop-number-preserved
loop-number-preserved c =
    let b = held c.args.walk.now.tables in
    let p = property_at b.properties c.loop-number.number in
    let here = row_here property_size property_at b.properties c.loop-number.number
    (omega (arith, c.requires.holds.last, length_rows property_size property_at b.properties)) in
    let passing = c.loop-number.invariant in
    elim c.if-at-row.branch [
      | then-at-row w ↦ rw (w.out-is, w.printed-is)
          (line_laid passing (omega arith) p here (sym (ap (λ (p : PropertyRow). p.owner) c.at.ensures) ∙ w.if-at-row.true) (omega arith)
          (from_as w.line_at.ensures.value w.write_property-printed.ensures.lays) (omega (arith, w.write_property-printed.ensures.next_value, w.line_at.ensures.next_bound)))
      | else-at-row w ↦ rw (w.out-is, w.printed-is)
          (line_passed passing (omega arith) p here (λ o. w.if-at-row.false (ap (λ (p : PropertyRow). p.owner) c.at.ensures ∙ o)))
    ]

pub returns : goal.returns
returns c =
    let b = held c.args.walk.now.tables in
    from_as (ap property_lines (sym (in_window (λ n p rest. property_of b.text (parameters_in b.parameters) n p ∷ rest) [] (properties_in b.properties) c.requires.holds)))
    (all_laid c.loop-number.invariant (omega arith))
