-- `listing::lay_digits`: no place, or the digits before the last, if there are any, and the last.
-- Assumes nothing.
use Rattle.std.proofs.Common.{sym, arith}
use Rattle.octets.proofs.Writing.{both, from_as, stays}
use Rattle.listing.proofs.Laws.{no_digits, one_digit, more_digits}
use Rattle.listing.proofs.+lay_digits.Goals.{then-n-lt10, else-n-lt10}
use Rattle.listing.proofs.+lay_digits.Goals as goal

pub returns-then-places-eq0 : goal.returns-then-places-eq0
returns-then-places-eq0 t c =
    from_as (no_digits c.args.places c.args.n c.if-places-eq0.true) (stays c.args.at c.args.out.now (omega arith))

pub returns : goal.returns
returns t c =
    elim c.if-n-lt10.branch [
      | then-n-lt10 w ↦
          from_as (one_digit c.args.places c.args.n c.if-places-eq0.false w.if-n-lt10.true) (rw (w.to-is, w.out-is, c.digit_of.ensures) at c.lay.ensures)
      | else-n-lt10 w ↦
          from_as (sym (more_digits c.args.places c.args.n c.if-places-eq0.false w.if-n-lt10.false))
          (both w.lay_digits-to.ensures (rw (w.to-is, w.out-is, c.digit_of.ensures) at c.lay.ensures) (omega arith))
    ]
