-- `lines::property_of`: by its key, and by what stands behind its parameters.
-- Assumes nothing.
use Rattle.std.proofs.Common.{sym, ◌∙◌, arith}
use Rattle.octets.proofs.Lists.{lent}
use Rattle.lines.proofs.Rule.{key_within, passed_within, from_end, from_colon}
use Rattle.lines.proofs.property_of.Goals as goal
use Rattle.lines.proofs.property_of.Goals.{then-at-line, else-at-line+then-line-at-eq58}

pub slice_bounds-parameters-count : goal.slice_bounds-parameters-count
slice_bounds-parameters-count c = key_within _ _ (sym c.property_key.ensures ∙ c.in_ok-len.ensures.ok_part)

pub slice_bounds-parameters-start : goal.slice_bounds-parameters-start
slice_bounds-parameters-start c = omega (arith, key_within c.args.line.now c.in_ok-len.len (sym c.property_key.ensures ∙ c.in_ok-len.ensures.ok_part))

pub overflow_add-at : goal.overflow_add-at
overflow_add-at c =
    let inside = key_within c.args.line.now c.in_ok-len.len (sym c.property_key.ensures ∙ c.in_ok-len.ensures.ok_part) in
    omega (arith, passed_within c.args.line.now c.in_ok-len.len c.parameters-passed.result inside (rw lent at c.parameters-passed.ensures))

pub bounds-line-at : goal.bounds-line-at
bounds-line-at c =
    let inside = key_within c.args.line.now c.in_ok-len.len (sym c.property_key.ensures ∙ c.in_ok-len.ensures.ok_part) in
    omega (arith, passed_within c.args.line.now c.in_ok-len.len c.parameters-passed.result inside (rw lent at c.parameters-passed.ensures))

pub returns : goal.returns
returns c =
    let key = sym c.property_key.ensures ∙ c.in_ok-len.ensures.ok_part in
    let passed = rw lent at c.parameters-passed.ensures in
    elim c.if-at-line.branch [
      | then-at-line w ↦ from_end _ _ _ key c.if-len-eq0.false passed _ w.start-is w.if-at-line.true
      | else-at-line+then-line-at-eq58 w ↦ from_colon _ _ _ key c.if-len-eq0.false passed _ w.start-is w.if-at-line.false w.if-line-at-eq58.true
    ]
