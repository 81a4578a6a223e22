-- `listing::lay_digits`: each call has one place less.
-- Assumes nothing.
use Rattle.listing.proofs.+lay_digits.Given as goal

abbrev pub decreases-lay_digits : goal.decreases-lay_digits
decreases-lay_digits l = l.places
