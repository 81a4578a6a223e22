-- `parameters::parameter` meets its contract: where the key starts and ends, and what the form of its value takes.
-- Assumes nothing.
use Rattle.std.proofs.Common.{◌+◌, drop, ap, sym, ◌∙◌, length-drop, arith}
use Rattle.octets.proofs.Lists.{lent}
use Rattle.parameters.proofs.Values.{inside_of, form_le}
use Rattle.parameters.proofs.Laws.{front_none, key_starts, key_ends, front_bare, front_form}
use Rattle.parameters.proofs.parameter.Goals as goal

pub returns-then-byte_at-ne59 : goal.returns-then-byte_at-ne59
returns-then-byte_at-ne59 c = front_none _ (λ e. c.if-byte_at-ne59.true (c.byte_at.ensures ∙ e))

pub overflow_add-start : goal.overflow_add-start
overflow_add-start c =
    let opens = sym c.byte_at.ensures ∙ c.if-byte_at-ne59.false in
    omega (arith, key_starts c.args.rest.now opens (1 + c.blank_run-start.result) (ap (◌+◌ 1) (rw lent at c.blank_run-start.ensures)))

pub slice_bounds-key_run-count : goal.slice_bounds-key_run-count
slice_bounds-key_run-count c =
    key_starts _ (sym c.byte_at.ensures ∙ c.if-byte_at-ne59.false) _ (ap (◌+◌ 1) (rw lent at c.blank_run-start.ensures))

pub slice_bounds-key_run-start : goal.slice_bounds-key_run-start
slice_bounds-key_run-start c =
    omega (arith, key_starts c.args.rest.now (sym c.byte_at.ensures ∙ c.if-byte_at-ne59.false) (1 + c.blank_run-start.result) (ap (◌+◌ 1) (rw lent at c.blank_run-start.ensures)))

pub overflow_add-end : goal.overflow_add-end
overflow_add-end c =
    omega (arith, key_ends _ (sym c.byte_at.ensures ∙ c.if-byte_at-ne59.false) _ (ap (◌+◌ 1) (rw lent at c.blank_run-start.ensures)) _ (rw lent at c.key_run-len.ensures))

pub returns-then-byte_at-ne61 : goal.returns-then-byte_at-ne61
returns-then-byte_at-ne61 c =
    front_bare _ (sym c.byte_at.ensures ∙ c.if-byte_at-ne59.false) _ (ap (◌+◌ 1) (rw lent at c.blank_run-start.ensures)) _ (rw lent at c.key_run-len.ensures)
    (λ e. c.if-byte_at-ne61.true (c.byte_at-2.ensures ∙ e))

pub value_at-requires : goal.value_at-requires
value_at-requires c =
    let xs = c.args.rest.now in
    let end = 1 + c.blank_run-start.result + c.key_run-len.result in
    rw (rw lent at c.form_of-form.ensures)
    (omega (arith, inside_of xs end (sym c.byte_at-2.ensures ∙ c.if-byte_at-ne61.false), form_le (drop (end + 1) xs), length-drop (end + 1) xs))

pub form_used-requires : goal.form_used-requires
form_used-requires c =
    let xs = c.args.rest.now in
    let end = 1 + c.blank_run-start.result + c.key_run-len.result in
    rw (rw lent at c.form_of-form.ensures)
    (omega (arith, inside_of xs end (sym c.byte_at-2.ensures ∙ c.if-byte_at-ne61.false), form_le (drop (end + 1) xs), length-drop (end + 1) xs))

pub overflow_add-result : goal.overflow_add-result
overflow_add-result c =
    let xs = c.args.rest.now in
    let end = 1 + c.blank_run-start.result + c.key_run-len.result in
    rw (c.form_used.ensures, rw lent at c.form_of-form.ensures)
    (omega (arith, inside_of xs end (sym c.byte_at-2.ensures ∙ c.if-byte_at-ne61.false), form_le (drop (end + 1) xs), length-drop (end + 1) xs))

pub returns : goal.returns
returns c =
    rw (c.form_used.ensures, c.value_at.ensures)
    (front_form _ (sym c.byte_at.ensures ∙ c.if-byte_at-ne59.false) _ (ap (◌+◌ 1) (rw lent at c.blank_run-start.ensures)) _ (rw lent at c.key_run-len.ensures)
    (sym c.byte_at-2.ensures ∙ c.if-byte_at-ne61.false) _ (rw lent at c.form_of-form.ensures))
