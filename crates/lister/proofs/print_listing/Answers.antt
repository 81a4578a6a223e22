-- The listing fits the buffer (listing's `listing_fits`), so that all of it is printed.
use Rattle.std.proofs.Common.{arith}
use Rattle.listing.proofs.Fits.{listing_fits}
use Rattle.lister.proofs.print_listing.Goals as goal

pub slice_bounds-write_all-end : goal.slice_bounds-write_all-end
slice_bounds-write_all-end g c = omega (arith, c.list_feed-n.ensures.count, listing_fits c.args.feed.now)
