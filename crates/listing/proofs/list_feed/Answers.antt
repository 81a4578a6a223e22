-- `listing::list_feed`: the listing in rooms of the lister's own.
-- Assumes nothing.
use Rattle.listing.specs.Listing.{listing_of}
use Rattle.listing.proofs.list_feed.Goals as goal

pub returns : goal.returns
unfolding listing_of
returns c = c.list.ensures.lays
