-- `writing::write_trees`: the rows at the top stand side by side.
use native.Mathlib.Omega.{arith}
use mathlib.Core.Path.{refl, sym, ap}
use Prim.Native.Nat.{ℕ, ◌<◌, zero-le}
use lib.ListN.{length}
use Rattle.octets.proofs.Writing.{from_as}
use Rattle.tables.specs.Rows.{component_size, component_at}
use Rattle.tables.specs.Lent.{held}
use Rattle.tables.proofs.Laws.{length_rows}
use Rattle.tables.proofs.Nested.{Nested, rows_nested}
use Rattle.walking.specs.declared.Walk.{Walk}
use Rattle.walking.proofs.Walks.{reached_start}
use Rattle.walking.proofs.Siblings.{tops, top_trees}
use Rattle.walking.proofs.Along.{comps, props, params, begin, placed}
use Rattle.printing.specs.Lines.{written}
use Rattle.writing.proofs.Laws.{going, one_written, all_written}
use Rattle.writing.proofs.write_trees.Goals as goal

nested_of : (w : Walk) (row : ℕ) → row < length (comps (held w.tables)) → Nested (comps (held w.tables)) row
nested_of w = rows_nested (comps (held w.tables)) (length (held w.tables).text) w.nested

pub loop-place-init : goal.loop-place-init
loop-place-init c =
    let w = c.args.walk.now in
    let b = held w.tables in
    going b 63 c.args.out.now refl (begin b zero-le (λ l. tops (comps b) (nested_of w)) (reached_start (props b) (params b))) (omega arith)

pub write_component-place-requires : goal.write_component-place-requires
write_component-place-requires c =
    let b = held c.args.walk.now.tables in
    placed b c.loop-place.invariant.along (omega (arith, c.count-rows.ensures, length_rows component_size component_at b.components))

pub loop-place-preserved : goal.loop-place-preserved
loop-place-preserved c =
    let b = held c.args.walk.now.tables in
    one_written b 63 c.loop-place.invariant (omega (arith, c.count-rows.ensures, length_rows component_size component_at b.components)) (omega arith)
    c.write_component-place.ensures

pub returns : goal.returns
returns c =
    let w = c.args.walk.now in
    let b = held w.tables in
    from_as (ap written (sym (top_trees (comps b) (nested_of w) b.text (props b) (params b) 63)))
    (all_written b 63 c.loop-place.invariant (omega (arith, c.count-rows.ensures, length_rows component_size component_at b.components)))
