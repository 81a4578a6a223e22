-- `nesting::put_parameters` meets its contract: a parameter lies within the rest of the line, and its row is put before those of the others.
-- Assumes nothing.
use Rattle.std.proofs.Common.{◌≡◌, None, drop, length-drop, sym, ap, ◌∙◌, arith}
use borrow.Author.Tests.{eqb-true}
use Rattle.tables.specs.Rows.{put_row, parameter_size, parameter_words}
use Rattle.tables.specs.declared.ParameterRow.{ParameterRow}
use Rattle.octets.proofs.Lists.{lent}
use Rattle.parameters.proofs.Laws.{front_other, found_inside}
use Rattle.nesting.proofs.Parameters.{more, none, end}
use Rattle.nesting.proofs.Tables.{put_empty}
use Rattle.nesting.proofs.put_parameters.Goals as goal

pub returns-then-is_empty : goal.returns-then-is_empty
returns-then-is_empty c = put_empty parameter_size parameter_words _ _ _ (eqb-true _ _ (sym c.if-is_empty.ensures))

pub parameter_row-requires-clause-used_bound : goal.parameter_row-requires-clause-used_bound
parameter_row-requires-clause-used_bound c =
    let rest = drop c.loop-at.at c.args.line.now in
    let i = found_inside rest (sym (rw lent at c.parameter.ensures) ∙ c.in-Some.is) in
    omega (arith, i.all, length-drop c.loop-at.at c.args.line.now)

pub parameter_row-requires-clause-len_bound : goal.parameter_row-requires-clause-len_bound
parameter_row-requires-clause-len_bound c =
    let i = found_inside _ (sym (rw lent at c.parameter.ensures) ∙ c.in-Some.is) in
    (i.key, i.value)

pub overflow_add-at : goal.overflow_add-at
overflow_add-at c =
    let rest = drop c.loop-at.at c.args.line.now in
    let i = found_inside rest (sym (rw lent at c.parameter.ensures) ∙ c.in-Some.is) in
    omega (arith, i.all, length-drop c.loop-at.at c.args.line.now)

pub loop-at-smaller : goal.loop-at-smaller
loop-at-smaller c =
    let i = found_inside _ (sym (rw lent at c.parameter.ensures) ∙ c.in-Some.is) in
    omega (arith, i.all, i.some)

pub loop-at-preserved : goal.loop-at-preserved
loop-at-preserved c =
    more _ _ _ c.loop-at.invariant c.in-Some.p (sym (rw lent at c.parameter.ensures) ∙ c.in-Some.is) _
    (c.put.ensures ∙ ap (λ (r : ParameterRow). put_row parameter_size c.loop-at.row (parameter_words r) c.loop-at.table) c.parameter_row.ensures)

pub returns-after-loop-at : goal.returns-after-loop-at
returns-after-loop-at c = end _ _ _ c.loop-at.invariant c.loop-at-test.false

pub returns-else-line-at-eq59 : goal.returns-else-line-at-eq59
returns-else-line-at-eq59 c = none _ _ _ c.loop-at.invariant (front_other c.args.line.now c.loop-at.at c.if-line-at-eq59.false)

pub returns-then-line-at-eq59 : goal.returns-then-line-at-eq59
returns-then-line-at-eq59 c =
    let no_more : c.parameter.result ≡ None = cc in
    none _ _ _ c.loop-at.invariant (sym (rw lent at c.parameter.ensures) ∙ no_more)
