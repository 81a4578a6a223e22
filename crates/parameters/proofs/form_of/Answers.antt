-- `parameters::form_of` meets its contract: a law for each form.
-- Assumes nothing.
use Rattle.std.proofs.Common.{sym, ◌∙◌, drop, length-drop, arith}
use Rattle.octets.proofs.Lists.{lent}
use Rattle.parameters.proofs.Values.{quoted_le, quoted_has, quoted_is, further_le, form_nothing, form_bare, form_quoted, form_listed}
use Rattle.parameters.proofs.form_of.Goals as goal

pub returns-in-0 : goal.returns-in-0
returns-in-0 c = form_nothing _ (sym c.quoted_len-first.ensures ∙ c.if-first-eq0.true) _ c.bare_run.ensures c.in-0.is

pub returns-in_default : goal.returns-in_default
returns-in_default c = form_bare _ (sym c.quoted_len-first.ensures ∙ c.if-first-eq0.true) _ c.bare_run.ensures (λ e. omega arith)

pub slice_bounds-further_len-count : goal.slice_bounds-further_len-count
slice_bounds-further_len-count c = omega (arith, quoted_le c.args.a.now)

pub slice_bounds-further_len-start : goal.slice_bounds-further_len-start
slice_bounds-further_len-start c = omega (arith, quoted_le c.args.a.now)

pub overflow_sub-result : goal.overflow_sub-result
overflow_sub-result c = omega (arith, quoted_is (quoted_has _ (λ z. c.if-first-eq0.false (c.quoted_len-first.ensures ∙ z))))

pub overflow_add-result : goal.overflow_add-result
overflow_add-result c =
    let xs = c.args.a.now in
    let first = c.quoted_len-first.result in
    omega (arith, quoted_le xs, rw lent at c.further_len.ensures, further_le 0 (drop first xs), length-drop first xs)

pub returns-in-0-further_len : goal.returns-in-0-further_len
returns-in-0-further_len c =
    form_quoted _ _ c.quoted_len-first.ensures c.if-first-eq0.false _ (rw lent at c.further_len.ensures) c.in-0-further_len.is

pub returns-in_default-further_len : goal.returns-in_default-further_len
returns-in_default-further_len c =
    form_listed _ _ c.quoted_len-first.ensures c.if-first-eq0.false _ (rw lent at c.further_len.ensures) (λ e. omega arith)
