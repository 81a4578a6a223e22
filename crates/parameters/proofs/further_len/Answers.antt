-- `parameters::further_len` meets its contract: reading stops where no comma stands, and where no quoted part follows one.
-- Assumes nothing.
use Rattle.std.proofs.Common.{◌+◌, sym, ◌∙◌, drop, length-drop, arith}
use Rattle.octets.proofs.Lists.{lent}
use Rattle.parameters.proofs.Values.{inside_of, joined_end, joined_unfit, joined_more, quoted_le}
use Rattle.parameters.proofs.further_len.Goals as goal

pub returns-then-n-eq0 : goal.returns-then-n-eq0
returns-then-n-eq0 c =
    joined_unfit c.loop-next.invariant (inside_of _ _ (sym c.byte_at.ensures ∙ c.loop-next-test.true))
    (sym (rw lent at c.quoted_len-n.ensures) ∙ c.if-n-eq0.true)

pub overflow_add-at : goal.overflow_add-at
overflow_add-at c =
    let xs = c.args.a.now in
    let next = c.loop-next.at + 1 in
    omega (arith, rw lent at c.quoted_len-n.ensures, quoted_le (drop next xs), length-drop next xs, inside_of xs _ (sym c.byte_at.ensures ∙ c.loop-next-test.true))

pub loop-next-preserved : goal.loop-next-preserved
loop-next-preserved c =
    let comma_at = sym c.byte_at.ensures ∙ c.loop-next-test.true in
    joined_more c.loop-next.invariant (inside_of _ _ comma_at) _ comma_at (rw lent at c.quoted_len-n.ensures) c.if-n-eq0.false

pub returns : goal.returns
returns c = joined_end c.loop-next.invariant (λ e. c.loop-next-test.false (c.byte_at.ensures ∙ e))
