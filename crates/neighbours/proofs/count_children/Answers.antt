-- `neighbours::count_children`: the first child, one more, and no more.
use native.Mathlib.Omega.{arith}
use Prim.Native.Nat.{ℕ, ◌<◌, ◌/◌}
use lib.ListN.{length}
use Rattle.tables.specs.Rows.{component_size, component_at}
use Rattle.tables.specs.Lent.{held}
use Rattle.tables.proofs.Laws.{length_rows}
use Rattle.walking.proofs.Along.{comps, placed}
use Rattle.walking.proofs.Rows.{row_there, walk_ruled}
use Rattle.walking.specs.declared.Walk.{Walk}
use Rattle.neighbours.proofs.Counting.{counted, as_many, no_child, child_there, begin_count, end_count}
use Rattle.neighbours.proofs.count_children.Goals as goal

-- the parent is a row
there : (w : Walk) {row : ℕ} → row < length w.tables.components.now / component_size → row < length (comps (held w.tables))
there w h = omega (arith, h, length_rows component_size component_at w.tables.components.now)

pub returns-then-last-before : goal.returns-then-last-before
returns-then-last-before c =
    let w = c.args.walk.now in
    no_child (held w.tables) c.args.parent c.end_of-last.result (walk_ruled w) (there w c.requires) c.end_of-last.ensures c.start-before.ensures c.if-last-before.true

pub spot_behind-next-requires-clause-row_in_bounds : goal.spot_behind-next-requires-clause-row_in_bounds
spot_behind-next-requires-clause-row_in_bounds c =
    let w = c.args.walk.now in
    let b = held w.tables in
    let h : c.start-before.result.row < c.end_of-last.result = omega (arith, c.if-last-before.false) in
    row_there w.tables.components.now c.start-before.result.row
    (placed b (child_there b c.args.parent c.end_of-last.result (walk_ruled w) (there w c.requires) c.end_of-last.ensures c.start-before.ensures h) h).there

pub loop-next-init : goal.loop-next-init
loop-next-init c =
    let w = c.args.walk.now in
    let n = c.spot_behind-next.ensures in (
      begin_count (held w.tables) c.args.parent c.end_of-last.result (walk_ruled w) (there w c.requires) c.end_of-last.ensures c.start-before.ensures
          (omega (arith, c.if-last-before.false)) n.0 n.1,
      tt,
    )

pub spot_behind-next-requires-in-loop-next-clause-row_in_bounds : goal.spot_behind-next-requires-in-loop-next-clause-row_in_bounds
spot_behind-next-requires-in-loop-next-clause-row_in_bounds c =
    let w = c.args.walk.now in
    row_there w.tables.components.now c.loop-next.next.row (placed (held w.tables) c.loop-next.invariant.0.ahead c.loop-next-test.true).there

pub loop-next-preserved : goal.loop-next-preserved
loop-next-preserved c =
    let n = c.spot_behind-next-in-loop-next.ensures in (
      counted (held c.args.walk.now.tables) c.args.parent c.end_of-last.result c.loop-next.invariant.0 c.loop-next-test.true
          (as_many c.compare.result c.from-found.ensures c.compare.ensures.twins) n.0 n.1,
      c.compare.ensures.same_tables_after,
    )

pub returns : goal.returns
returns c =
    let w = c.args.walk.now in
    end_count (held w.tables) c.args.parent c.end_of-last.result (walk_ruled w) (there w c.requires) c.end_of-last.ensures c.loop-next.invariant.0 c.loop-next-test.false
