use Rattle.std.proofs.Common.{arith, sym, ◌∙◌}
use Rattle.checking.proofs.Components.{nothing, none, breaks, behind, onward}
use Rattle.checking.proofs.broken_component.Goals as goal

pub loop-row-init : goal.loop-row-init
loop-row-init c = rw c.new-rows.ensures (omega arith, nothing _ _)

pub returns-then-not-component_fits : goal.returns-then-not-component_fits
returns-then-not-component_fits c =
    breaks _ _ c.loop-row.invariant.1 (omega arith) _ c.at-c.ensures
    (rw (← c.as_slice.ensures.value) (sym c.component_fits.ensures ∙ c.if-not-component_fits.true))

pub put-requires-clause-behind : goal.put-requires-clause-behind
put-requires-clause-behind c =
    behind c.args.size c.args.table.now c.loop-row.rows.items c.loop-row.depth c.loop-row.invariant.0 c.at-c.result
    (rw (← c.as_slice.ensures.value) (sym c.component_fits.ensures ∙ c.if-not-component_fits.false))

pub loop-row-preserved : goal.loop-row-preserved
loop-row-preserved c = (
  c.put.ensures.len,
  rw c.put.ensures.items
      (onward _ _ c.loop-row.rows.items c.loop-row.depth c.loop-row.invariant.0 _
      (rw (← c.as_slice.ensures.value) (sym c.component_fits.ensures ∙ c.if-not-component_fits.false))
      c.loop-row.invariant.1 (omega arith) c.at-c.ensures),
)

pub returns : goal.returns
returns c = none _ _ c.loop-row.invariant.1 (omega arith)
