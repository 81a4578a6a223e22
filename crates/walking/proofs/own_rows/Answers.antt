-- `walking::own_rows`: a row counts one where it is the component's own.
use Rattle.std.proofs.Common.{arith, ap, ◌∙◌, ◌≡◌, eqb}
use mir.Val.{bool_byte}
use Rattle.tables.specs.Rows.{property_size, property_at}
use Rattle.tables.specs.declared.PropertyRow.{PropertyRow}
use Rattle.walking.specs.Walk.{owned_by}
use Rattle.walking.proofs.Search.{one_at_most, tally_here, tally_over}
use Rattle.walking.proofs.own_rows.Goals as goal

pub loop-i-preserved : goal.loop-i-preserved
loop-i-preserved c =
    let a = c.args in
    let e : c.from-own.result ≡ bool_byte (owned_by a.row (property_at a.properties.now c.loop-i.i)) =
    c.from-own.ensures ∙ ap (λ (p : PropertyRow). bool_byte (eqb p.owner a.row)) c.at.ensures in
    omega (
      arith,
      e,
      c.loop-i.invariant,
      one_at_most (owned_by a.row (property_at a.properties.now c.loop-i.i)),
      tally_here property_size property_at (owned_by a.row) a.properties.now a.last c.loop-i.i (omega arith) c.requires,
    )

pub returns : goal.returns
returns c =
    let a = c.args in
    omega (arith, c.loop-i.invariant, tally_over property_size property_at (owned_by a.row) a.properties.now a.last c.loop-i.i (omega arith))
