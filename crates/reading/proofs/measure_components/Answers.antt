-- `reading::measure_components`: what unfolding refuses, and else what the unfolded text answers.
-- Assumes nothing.
use Rattle.std.proofs.Common.{length, refl, sym, ap, ◌∙◌, arith}
use borrow.Author.Tests.{eqb-true, eqb-false}
use Rattle.unfolding.proofs.Laws.{length_unfolded}
use Rattle.reading.specs.Answers.{measure_text, measuring_of}
use Rattle.reading.proofs.Unfolds.{not_unfolded, was_unfolded, text_answers, lent_text}
use Rattle.reading.proofs.measure_components.Goals as goal

pub returns-then-not-is_done-clause-value : goal.returns-then-not-is_done-clause-value
unfolding measuring_of
returns-then-not-is_done-clause-value c =
    c.from.ensures
    ∙ not_unfolded c.args.feed.now (length c.args.text.now) _ c.unfold_feed-unfolded.ensures.value (eqb-false _ _ (sym c.is_done.ensures ∙ c.if-not-is_done.true))

pub measure_text-requires : goal.measure_text-requires
measure_text-requires c =
    let u = c.unfold_feed-unfolded in
    let w = was_unfolded c.args.feed.now (length c.args.text.now) u.ensures.value (eqb-true _ _ (sym c.is_done.ensures ∙ c.if-not-is_done.false)) in
    rw (lent_text c.args.feed.now c.args.text.now w refl u.ensures.text_after) (omega (arith, length_unfolded c.args.feed.now, w.short))

pub returns-clause-value : goal.returns-clause-value
unfolding measuring_of
returns-clause-value c =
    let u = c.unfold_feed-unfolded in
    let w = was_unfolded c.args.feed.now (length c.args.text.now) u.ensures.value (eqb-true _ _ (sym c.is_done.ensures ∙ c.if-not-is_done.false)) in
    c.measure_text.ensures
    ∙ ap measure_text (lent_text c.args.feed.now c.args.text.now w refl u.ensures.text_after)
    ∙ text_answers c.args.feed.now (length c.args.text.now) _ w
