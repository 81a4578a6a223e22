use Rattle.std.proofs.Common.{arith, ◌≡◌, length}
use Rattle.tables.specs.Rows.{component_size, property_size, component_at, property_at}
use Rattle.tables.specs.Lent.{components_in}
use Rattle.tables.proofs.Laws.{length_rows}
use Rattle.walking.specs.Walk.{in_order}
use Rattle.walking.proofs.Counting.{start, inside, fits, one_more}
use Rattle.walking.proofs.in_order.Goals as goal

pub loop-row-init : goal.loop-row-init
loop-row-init c = start _ _

pub own_rows-found-requires : goal.own_rows-found-requires
own_rows-found-requires c =
    let h = inside _ _ c.loop-row.invariant c.first_from-first.ensures c.end_of.ensures c.last_within-last.ensures in
    omega (arith, length_rows property_size property_at c.args.properties.now)

pub overflow_add-found : goal.overflow_add-found
overflow_add-found c =
    let h = fits _ _ c.loop-row.invariant c.first_from-first.ensures c.end_of.ensures c.last_within-last.ensures c.own_rows-found.ensures in
    omega (arith, length_rows property_size property_at c.args.properties.now)

pub loop-row-preserved : goal.loop-row-preserved
loop-row-preserved c = one_more _ _ c.loop-row.invariant c.first_from-first.ensures c.end_of.ensures c.last_within-last.ensures c.own_rows-found.ensures

pub returns : goal.returns
unfolding in_order
returns c =
    let all : c.loop-row.row ≡ length (components_in c.args.components.now) =
    omega (arith, length_rows component_size component_at c.args.components.now) in
    rw (c.loop-row.invariant.sum, all, c.count.ensures, length_rows property_size property_at c.args.properties.now)
