-- `listing::list`: too long a feed, or what its reading left.
-- Assumes nothing.
use Rattle.tables.specs.Lent.{lent}
use Rattle.listing.proofs.Rooms.{has_rows}
use Rattle.listing.proofs.list.Goals as goal

pub lay_listing-requires : goal.lay_listing-requires
lay_listing-requires c =
    let a = c.args in
    has_rows a.feed.now (lent a.text.now a.components.now a.properties.now a.parameters.now) c.read_in_turn-r.ensures.value c.read_in_turn-r.ensures.lent_after
