-- `reading::unfold_where_it_fits`: what is never longer than the feed fits where the feed does.
-- Assumes nothing.
use Rattle.std.proofs.Common.{◌∙◌, arith}
use Rattle.unfolding.specs.Unfold.{unfolded}
use Rattle.unfolding.proofs.Laws.{length_unfolded}
use Rattle.reading.proofs.Unfolds.{text_fits}
use Rattle.reading.proofs.unfold_where_it_fits.Goals as goal

pub returns-then-feed-text-clause-text_after : goal.returns-then-feed-text-clause-text_after
returns-then-feed-text-clause-text_after c =
    c.unfold_into.ensures.text ∙ text_fits (unfolded c.args.feed.now) c.args.text.now (omega (arith, length_unfolded c.args.feed.now))
