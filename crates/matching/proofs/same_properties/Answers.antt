-- `matching::same_properties`: the next two differ or agree, or one of the two walks has ended.
use mathlib.Core.Path.{◌∙◌}
use Rattle.tables.specs.Lent.{held}
use Rattle.comparing.specs.Pieces.{same_parameters}
use Rattle.matching.specs.Alike.{same_property_by}
use Rattle.matching.proofs.Alike.{other_ends}
use Rattle.matching.proofs.Left.{first_held, differ, agree, ended}
use Rattle.matching.proofs.same_properties.Goals as goal

pub returns-in_default-next : goal.returns-in_default-next
returns-in_default-next g c =
    other_ends (same_property_by g.V.Values.test same_parameters) _ _ _ _ c.in-Some.ensures.next.1 c.in_default-next.ensures.next ∙ c.loop-p.invariant.2

pub returns-then-not-same_property : goal.returns-then-not-same_property
returns-then-not-same_property g c =
    let i = c.loop-p.invariant in
    let one = first_held c.in-Some.p c.hold.result i.0 c.in-Some.ensures.same_tables c.in-Some.ensures.next.1 c.hold.ensures.held in
    let other = first_held c.in-Some-next.q c.hold-in-Some.result i.1 c.in-Some-next.ensures.same_tables c.in-Some-next.ensures.next.1 c.hold-in-Some.ensures.held in
    differ g.V.Values.test c.args.tables.now c.hold.result c.hold-in-Some.result one other c.same_property.ensures c.if-not-same_property.true ∙ i.2

pub loop-p-preserved : goal.loop-p-preserved
loop-p-preserved g c =
    let i = c.loop-p.invariant in
    let one = first_held c.in-Some.p c.hold.result i.0 c.in-Some.ensures.same_tables c.in-Some.ensures.next.1 c.hold.ensures.held in
    let other = first_held c.in-Some-next.q c.hold-in-Some.result i.1 c.in-Some-next.ensures.same_tables c.in-Some-next.ensures.next.1 c.hold-in-Some.ensures.held in (
      c.hold.ensures.same_tables ∙ (c.in-Some.ensures.same_tables ∙ i.0),
      c.hold-in-Some.ensures.same_tables ∙ (c.in-Some-next.ensures.same_tables ∙ i.1),
      rw (c.hold.ensures.same_left, c.hold-in-Some.ensures.same_left)
          (agree g.V.Values.test c.args.tables.now c.hold.result c.hold-in-Some.result one other c.same_property.ensures c.if-not-same_property.false ∙ i.2),
    )

pub returns : goal.returns
returns g c =
    let t = c.loop-p.other.tables.now in
    ended g.V.Values.test c.next-2.new.self (held t) c.next-2.result c.is_none.result c.is_none.ensures _ _ _ c.in_default.ensures.next c.next-2.ensures.next
    ∙ c.loop-p.invariant.2
