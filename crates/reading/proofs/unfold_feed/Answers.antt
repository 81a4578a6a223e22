-- `reading::unfold_feed`: the limit, the room for the text, and else all of it is there.
-- Assumes nothing.
use Rattle.reading.proofs.Unfolds.{when_too_long, when_no_room, all_there}
use Rattle.reading.proofs.unfold_feed.Goals as goal

pub returns-then-feed-gt-LONGEST-clause-text_after : goal.returns-then-feed-gt-LONGEST-clause-text_after
returns-then-feed-gt-LONGEST-clause-text_after c = (when_too_long c.args.feed.now c.args.text.now c.if-feed-gt-LONGEST.true).1

pub returns-then-text-length-clause-text_after : goal.returns-then-text-length-clause-text_after
returns-then-text-length-clause-text_after c =
    let w = c.unfold_where_it_fits-length in
    (when_no_room c.args.feed.now c.args.text.now c.if-feed-gt-LONGEST.false w.new.text w.result w.ensures.value w.ensures.text_after c.if-text-length.true).1

pub returns-clause-text_after : goal.returns-clause-text_after
returns-clause-text_after c =
    let w = c.unfold_where_it_fits-length in
    (all_there c.args.feed.now c.args.text.now c.if-feed-gt-LONGEST.false w.new.text w.result w.ensures.value w.ensures.text_after c.if-text-length.false).1
