-- `writing::line_at`: the parameters of the run are all that the property has.
use native.Mathlib.Omega.{arith}
use mathlib.Core.Path.{ap, ◌∙◌}
use Rattle.tables.specs.Rows.{property_at}
use Rattle.tables.specs.Fronts.{own_property}
use Rattle.tables.specs.Lent.{held, parameters_in}
use Rattle.tables.specs.Trees.{Property}
use Rattle.tables.specs.declared.PropertyRow.{PropertyRow}
use Rattle.printing.specs.Lines.{closed_line, property_line}
use Rattle.walking.proofs.Own.{behind_own, own_property_holds}
use Rattle.walking.proofs.Rows.{walk_ruled}
use Rattle.writing.proofs.line_at.Goals as goal

pub returns-clause-value : goal.returns-clause-value
returns-clause-value c =
    let b = held c.args.walk.now.tables in
    let rows = parameters_in b.parameters in
    let own = own_property_holds rows c.args.number c.requires.before c.first_held.ensures b.text (walk_ruled c.args.walk.now).parameters in
    ap (λ (p : PropertyRow). closed_line (property_line (own_property b.text p c.args.number c.first_held.result rows))) c.at.ensures
    ∙ ap (λ (p : Property). closed_line (property_line p)) (own (property_at b.properties c.args.number))

pub returns-clause-next_bound : goal.returns-clause-next_bound
returns-clause-next_bound c =
    let rows = parameters_in (held c.args.walk.now.tables).parameters in
    omega (arith, behind_own rows c.args.number c.requires.before c.first_held.ensures)
