-- Each turn halves what lies between the ends, as the definition does.
use Rattle.std.proofs.Common.{ap, sym, ◌∙◌, length, arith}
use Rattle.sifting.proofs.Shelves.{sought_all, sought_left, sought_right, sought_end}
use Rattle.sifting.proofs.Shelf.place_of.Goals as goal

pub loop-lo-init : goal.loop-lo-init
loop-lo-init c = record {
  in_order = omega arith;
  on_shelf = omega (arith, ap length c.as_slice-rows.ensures.value);
  sought = rw c.as_slice-rows.ensures.value (sought_all _ _);
}

pub loop-lo-preserved-then-row_before : goal.loop-lo-preserved-then-row_before
loop-lo-preserved-then-row_before c = record {
  in_order = omega arith;
  on_shelf = omega arith;
  sought = sought_right _ c.loop-lo-test.true (sym (rw c.as_slice-rows.ensures.value at c.row_before.ensures) ∙ c.if-row_before.true) c.loop-lo.invariant.sought;
}

pub loop-lo-preserved : goal.loop-lo-preserved
loop-lo-preserved c = record {
  in_order = omega arith;
  on_shelf = omega arith;
  sought = sought_left _ c.loop-lo-test.true (sym (rw c.as_slice-rows.ensures.value at c.row_before.ensures) ∙ c.if-row_before.false) c.loop-lo.invariant.sought;
}

pub returns-clause-value : goal.returns-clause-value
returns-clause-value c = sought_end _ c.loop-lo-test.false c.loop-lo.invariant.sought
