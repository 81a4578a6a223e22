-- `reading::read_components`: what unfolding refuses, and else filling from the unfolded text.
-- Assumes nothing.
use Rattle.std.proofs.Common.{length, refl, sym, ◌∙◌}
use borrow.Author.Tests.{eqb-true, eqb-false}
use Rattle.tables.specs.Lent.{lent}
use Rattle.reading.proofs.Unfolds.{was_unfolded, lent_text}
use Rattle.reading.proofs.Pair.{unread_unfolded, read_by_filling}
use Rattle.reading.proofs.read_components.Goals as goal

pub returns-then-not-is_done-clause-value : goal.returns-then-not-is_done-clause-value
returns-then-not-is_done-clause-value c =
    let b = lent c.args.text.now c.args.components.now c.args.properties.now c.args.parameters.now in
    let u = c.unfold_feed-unfolded in
    (unread_unfolded c.args.feed.now b u.ensures.value (eqb-false _ _ (sym c.is_done.ensures ∙ c.if-not-is_done.true)) c.from.ensures u.ensures.text_after).0

pub returns-then-not-is_done-clause-lent_after : goal.returns-then-not-is_done-clause-lent_after
returns-then-not-is_done-clause-lent_after c =
    let b = lent c.args.text.now c.args.components.now c.args.properties.now c.args.parameters.now in
    let u = c.unfold_feed-unfolded in
    (unread_unfolded c.args.feed.now b u.ensures.value (eqb-false _ _ (sym c.is_done.ensures ∙ c.if-not-is_done.true)) c.from.ensures u.ensures.text_after).1

pub returns-clause-value : goal.returns-clause-value
returns-clause-value c =
    let b = lent c.args.text.now c.args.components.now c.args.properties.now c.args.parameters.now in
    let u = c.unfold_feed-unfolded in
    let x = c.fill_components.ensures in
    let w = was_unfolded c.args.feed.now (length b.text) u.ensures.value (eqb-true _ _ (sym c.is_done.ensures ∙ c.if-not-is_done.false)) in
    (read_by_filling c.args.feed.now b w (lent_text c.args.feed.now b.text w refl u.ensures.text_after) u.ensures.text_after x.value x.tables_after).0

pub returns-clause-lent_after : goal.returns-clause-lent_after
returns-clause-lent_after c =
    let b = lent c.args.text.now c.args.components.now c.args.properties.now c.args.parameters.now in
    let u = c.unfold_feed-unfolded in
    let x = c.fill_components.ensures in
    let w = was_unfolded c.args.feed.now (length b.text) u.ensures.value (eqb-true _ _ (sym c.is_done.ensures ∙ c.if-not-is_done.false)) in
    (read_by_filling c.args.feed.now b w (lent_text c.args.feed.now b.text w refl u.ensures.text_after) u.ensures.text_after x.value x.tables_after).1
