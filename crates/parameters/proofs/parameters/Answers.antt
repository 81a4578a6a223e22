-- `parameters::parameters` meets its contract: reading stops where no parameter begins, and each takes its bytes.
-- Assumes nothing.
use Rattle.std.proofs.Common.{◌≡◌, None, sym, ◌∙◌, drop, length-drop, arith}
use Rattle.octets.proofs.Lists.{lent}
use Rattle.parameters.proofs.Laws.{front_other, found_inside}
use Rattle.parameters.proofs.Lists.{passing_more, passing_none}
use Rattle.parameters.proofs.parameters.Goals as goal

pub overflow_add-used : goal.overflow_add-used
overflow_add-used c = omega (arith, (passing_more c.loop-p.invariant _ (sym (rw lent at c.parameter.ensures) ∙ c.in-Some.is)).inside)

pub loop-p-smaller : goal.loop-p-smaller
loop-p-smaller c =
    let at = c.loop-p.used in
    let i = found_inside (drop at c.args.rest.now) (sym (rw lent at c.parameter.ensures) ∙ c.in-Some.is) in
    omega (arith, i.some, i.all, length-drop at c.args.rest.now)

pub loop-p-preserved : goal.loop-p-preserved
loop-p-preserved c = passing_more c.loop-p.invariant _ (sym (rw lent at c.parameter.ensures) ∙ c.in-Some.is)

pub returns-after-loop-p : goal.returns-after-loop-p
returns-after-loop-p c = passing_none c.loop-p.invariant (front_other c.args.rest.now c.loop-p.used (λ e. c.loop-p-test.false (c.byte_at.ensures ∙ e)))

pub returns-in-loop-p : goal.returns-in-loop-p
returns-in-loop-p c =
    let none : c.parameter.result ≡ None = cc in
    passing_none c.loop-p.invariant (sym (rw lent at c.parameter.ensures) ∙ none)
