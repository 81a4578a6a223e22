-- `reading::fill_used`: the rows are counted first, and put only where there is room for all of them.
-- Assumes nothing.
use Rattle.std.proofs.Common.{sym, ◌∙◌}
use borrow.Author.Tests.{eqb-true, eqb-false}
use Rattle.tables.specs.Lent.{lent}
use Rattle.reading.proofs.Pair.{fill_reads, unfilled, fills}
use Rattle.reading.proofs.fill_used.Goals as goal

pub returns-then-is_done-clause-value : goal.returns-then-is_done-clause-value
returns-then-is_done-clause-value c =
    let b = lent c.args.text.now c.args.components.now c.args.properties.now c.args.parameters.now in
    c.ask_room-told.ensures _ c.measure_text.ensures ∙ fill_reads b c.requires

pub returns-then-is_done-clause-tables_after : goal.returns-then-is_done-clause-tables_after
returns-then-is_done-clause-tables_after c =
    let b = lent c.args.text.now c.args.components.now c.args.properties.now c.args.parameters.now in
    fills b c.requires (c.ask_room-told.ensures _ c.measure_text.ensures ∙ fill_reads b c.requires) (eqb-true _ _ (sym c.is_done.ensures ∙ c.if-is_done.true)) _ _ _
    c.pass.ensures.tabled

pub returns-else-is_done-clause-value : goal.returns-else-is_done-clause-value
returns-else-is_done-clause-value c =
    let b = lent c.args.text.now c.args.components.now c.args.properties.now c.args.parameters.now in
    c.ask_room-told.ensures _ c.measure_text.ensures ∙ fill_reads b c.requires

pub returns-else-is_done-clause-tables_after : goal.returns-else-is_done-clause-tables_after
returns-else-is_done-clause-tables_after c =
    let b = lent c.args.text.now c.args.components.now c.args.properties.now c.args.parameters.now in
    unfilled b (c.ask_room-told.ensures _ c.measure_text.ensures ∙ fill_reads b c.requires) (eqb-false _ _ (sym c.is_done.ensures ∙ c.if-is_done.false))
