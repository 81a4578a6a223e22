-- `reading::fill_new`: the rows that were put are those of the text, or all is as it was, which is zero.
-- Assumes nothing.
use Rattle.std.proofs.Common.{sym, ◌∙◌, arith}
use borrow.Author.Tests.{eqb-true, eqb-false}
use Rattle.tables.specs.Lent.{lent}
use Rattle.reading.proofs.Laws.{measured_place}
use Rattle.reading.proofs.Pair.{told_with, unfilled, fills}
use Rattle.reading.proofs.NewTables.{back, put_back}
use Rattle.reading.proofs.fill_new.Goals as goal

pub tell_outcome-requires : goal.tell_outcome-requires
tell_outcome-requires c = rw c.pass-outcome.ensures.value (omega (arith, measured_place c.args.text.now, c.requires.text_len_bound))

pub returns-else-not-is_done-clause-value : goal.returns-else-not-is_done-clause-value
returns-else-not-is_done-clause-value c =
    let b = lent c.args.text.now c.args.components.now c.args.properties.now c.args.parameters.now in
    let k = c.pass-outcome.auto in
    told_with b c.requires.text_len_bound _ _ _ c.pass-outcome.ensures.value c.tell_outcome.ensures k.components k.properties k.parameters c.ask_room-told.ensures

pub returns-else-not-is_done-clause-tables_after : goal.returns-else-not-is_done-clause-tables_after
returns-else-not-is_done-clause-tables_after c =
    let b = lent c.args.text.now c.args.components.now c.args.properties.now c.args.parameters.now in
    let k = c.pass-outcome.auto in
    let told = told_with b c.requires.text_len_bound _ _ _ c.pass-outcome.ensures.value c.tell_outcome.ensures k.components k.properties k.parameters c.ask_room-told.ensures in
    fills b c.requires.text_len_bound told (eqb-true _ _ (sym c.is_done.ensures ∙ c.if-not-is_done.false)) _ _ _ c.pass-outcome.ensures.tabled

pub returns-then-not-is_done-clause-value : goal.returns-then-not-is_done-clause-value
returns-then-not-is_done-clause-value c =
    let b = lent c.args.text.now c.args.components.now c.args.properties.now c.args.parameters.now in
    let k = c.pass-outcome.auto in
    told_with b c.requires.text_len_bound _ _ _ c.pass-outcome.ensures.value c.tell_outcome.ensures k.components k.properties k.parameters c.ask_room-told.ensures

pub returns-then-not-is_done-clause-tables_after : goal.returns-then-not-is_done-clause-tables_after
returns-then-not-is_done-clause-tables_after c =
    let b = lent c.args.text.now c.args.components.now c.args.properties.now c.args.parameters.now in
    let k = c.pass-outcome.auto in
    let told = told_with b c.requires.text_len_bound _ _ _ c.pass-outcome.ensures.value c.tell_outcome.ensures k.components k.properties k.parameters c.ask_room-told.ensures in
    let zero = c.requires.all_zero in
    put_back b (back _ _ zero.0 k.components c.clear.ensures) (back _ _ zero.1 k.properties c.clear-then-not-is_done.ensures) (back _ _ zero.2 k.parameters c.clear-then-not-is_done-2.ensures)
    ∙ unfilled b told (eqb-false _ _ (sym c.is_done.ensures ∙ c.if-not-is_done.true))
