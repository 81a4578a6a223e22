-- `twins::compare`: the table rule, the two numbers, and then the trees.
use native.Mathlib.Omega.{arith}
use mathlib.Core.Path.{sym, ◌∙◌}
use Rattle.tables.specs.Lent.{held}
use Rattle.twins.proofs.Answers.{broken_row, no_first, no_second, told, told_on, sound, counted}
use Rattle.twins.proofs.Pairs.{arrived}
use Rattle.twins.proofs.compare.Goals as goal

pub returns-in_err-checked : goal.returns-in_err-checked
returns-in_err-checked g c =
    told_on c.from_residual.result c.from_residual.ensures.0 c.from_residual.ensures.1
    ∙ sym (broken_row g.V.Values.test (held c.args.tables.now) c.args.first c.args.second c.in_err-checked.ensures)

pub returns-then-rows-first : goal.returns-then-rows-first
returns-then-rows-first g c =
    let t = c.args.tables.now in
    let rows = counted t.components.now c.count-rows.ensures in
    sym (no_first g.V.Values.test (held t) c.args.first c.args.second (sound c.in_ok-checked.checked c.in_ok-checked.ensures) (omega (arith, rows, c.if-rows-first.true)))

pub returns-then-rows-second : goal.returns-then-rows-second
returns-then-rows-second g c =
    let t = c.args.tables.now in
    let rows = counted t.components.now c.count-rows.ensures in
    sym (no_second g.V.Values.test (held t) c.args.first c.args.second (sound c.in_ok-checked.checked c.in_ok-checked.ensures)
    (omega (arith, rows, c.if-rows-first.false)) (omega (arith, rows, c.if-rows-second.true)))

pub same_trees-requires-clause-first_arrived : goal.same_trees-requires-clause-first_arrived
same_trees-requires-clause-first_arrived g c =
    let rows = counted c.args.tables.now.components.now c.count-rows.ensures in
    rw (c.with_order-walk.ensures, c.new.ensures.0, c.in_ok-checked.ensures, c.start.ensures) (arrived (held c.args.tables.now) c.args.first (omega (arith, rows, c.if-rows-first.false)))

pub same_trees-requires-clause-second_arrived : goal.same_trees-requires-clause-second_arrived
same_trees-requires-clause-second_arrived g c =
    let rows = counted c.args.tables.now.components.now c.count-rows.ensures in
    rw (c.with_order-walk.ensures, c.new.ensures.0, c.in_ok-checked.ensures, c.start-2.ensures) (arrived (held c.args.tables.now) c.args.second (omega (arith, rows, c.if-rows-second.false)))

pub returns : goal.returns
returns g c =
    let t = c.args.tables.now in
    let rows = counted t.components.now c.count-rows.ensures in
    rw (c.same_trees.ensures, c.with_order-walk.ensures, c.new.ensures.0, c.in_ok-checked.ensures, c.start.ensures, c.start-2.ensures)
    (sym (told g.V.Values.test (held t) c.args.first c.args.second (sound c.in_ok-checked.checked c.in_ok-checked.ensures)
    (omega (arith, rows, c.if-rows-first.false)) (omega (arith, rows, c.if-rows-second.false))))
