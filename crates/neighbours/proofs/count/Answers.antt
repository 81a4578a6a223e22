-- `neighbours::count`: the table rule, the number of the parent, and then its children.
use native.Mathlib.Omega.{arith}
use mathlib.Core.Path.{sym, ◌∙◌}
use Rattle.tables.specs.Lent.{held}
use Rattle.twins.proofs.Answers.{sound, counted}
use Rattle.neighbours.proofs.Answers.{broken_row, no_parent_holds, told, told_on}
use Rattle.neighbours.proofs.count.Goals as goal

pub returns-in_err-checked : goal.returns-in_err-checked
returns-in_err-checked c =
    told_on c.from_residual.result c.from_residual.ensures.0 c.from_residual.ensures.1
    ∙ sym (broken_row (held c.args.tables.now) c.args.parent c.in_err-checked.ensures)

pub returns-then-count-parent : goal.returns-then-count-parent
returns-then-count-parent c =
    let t = c.args.tables.now in
    let rows = counted t.components.now c.count.ensures in
    sym (no_parent_holds (held t) c.args.parent (sound c.in_ok-checked.checked c.in_ok-checked.ensures) (omega (arith, rows, c.if-count-parent.true)))

pub returns : goal.returns
returns c =
    let t = c.args.tables.now in
    let rows = counted t.components.now c.count.ensures in
    rw (c.count_children.ensures, c.new.ensures.0, c.in_ok-checked.ensures)
    (sym (told (held t) c.args.parent (sound c.in_ok-checked.checked c.in_ok-checked.ensures) (omega (arith, rows, c.if-count-parent.false))))
