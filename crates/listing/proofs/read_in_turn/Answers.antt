-- `listing::read_in_turn`: what measuring refuses, and else filling from as much of the text as it told.
-- Assumes nothing.
use Rattle.std.proofs.Common.{refl, sym, ◌∙◌, length-take, arith}
use borrow.Author.Tests.{eqb-true, eqb-false}
use Rattle.tables.specs.Lent.{lent}
use Rattle.reading.proofs.Unfolds.{lent_fits}
use Rattle.reading.proofs.Pair.{refused_first, measured, filled_next}
use Rattle.listing.proofs.read_in_turn.Goals as goal

pub returns-then-not-is_done-clause-value : goal.returns-then-not-is_done-clause-value
returns-then-not-is_done-clause-value c =
    let b = lent c.args.text.now c.args.components.now c.args.properties.now c.args.parameters.now in
    let x = c.measure_components-measured.ensures in
    (refused_first c.args.feed.now b x.value (eqb-false _ _ (sym c.is_done.ensures ∙ c.if-not-is_done.true)) x.text_after).0

pub returns-then-not-is_done-clause-lent_after : goal.returns-then-not-is_done-clause-lent_after
returns-then-not-is_done-clause-lent_after c =
    let b = lent c.args.text.now c.args.components.now c.args.properties.now c.args.parameters.now in
    let x = c.measure_components-measured.ensures in
    (refused_first c.args.feed.now b x.value (eqb-false _ _ (sym c.is_done.ensures ∙ c.if-not-is_done.true)) x.text_after).1

pub slice_bounds-fill_components-end : goal.slice_bounds-fill_components-end
slice_bounds-fill_components-end c =
    let b = lent c.args.text.now c.args.components.now c.args.properties.now c.args.parameters.now in
    let x = c.measure_components-measured.ensures in
    let w = measured c.args.feed.now b x.value (eqb-true _ _ (sym c.is_done.ensures ∙ c.if-not-is_done.false)) in
    lent_fits c.args.feed.now b.text w x.text_after

pub slice_bounds-fill_components-end-2 : goal.slice_bounds-fill_components-end-2
slice_bounds-fill_components-end-2 c =
    let b = lent c.args.text.now c.args.components.now c.args.properties.now c.args.parameters.now in
    let x = c.measure_components-measured.ensures in
    let w = measured c.args.feed.now b x.value (eqb-true _ _ (sym c.is_done.ensures ∙ c.if-not-is_done.false)) in
    let n = c.measure_components-measured.result.length in
    let t = c.measure_components-measured.new.text in
    omega (arith, length-take n t, lent_fits c.args.feed.now b.text w x.text_after)

pub returns-clause-value : goal.returns-clause-value
returns-clause-value c =
    let b = lent c.args.text.now c.args.components.now c.args.properties.now c.args.parameters.now in
    let x = c.measure_components-measured.ensures in
    let y = c.fill_components.ensures in
    (filled_next c.args.feed.now b x.value (eqb-true _ _ (sym c.is_done.ensures ∙ c.if-not-is_done.false)) x.text_after refl y.value y.tables_after).0

pub returns-clause-lent_after : goal.returns-clause-lent_after
returns-clause-lent_after c =
    let b = lent c.args.text.now c.args.components.now c.args.properties.now c.args.parameters.now in
    let x = c.measure_components-measured.ensures in
    let y = c.fill_components.ensures in
    (filled_next c.args.feed.now b x.value (eqb-true _ _ (sym c.is_done.ensures ∙ c.if-not-is_done.false)) x.text_after refl y.value y.tables_after).1
