-- `checking::first_broken`: the three tables, one after the other.
use Rattle.std.proofs.Common.{◌+◌, length, rules}
use Rattle.tables.specs.TableRule.{broken_property, broken_parameter}
use Rattle.tables.specs.Lent.{lent, properties_in, parameters_in}
use Rattle.checking.proofs.Whole.{or_next, no_component, in_turn}
use Rattle.checking.proofs.first_broken.Goals as goal

pub returns-then-component_rows-eq0 : goal.returns-then-component_rows-eq0
returns-then-component_rows-eq0 c = no_component _ _ c.count-component_rows.ensures c.if-component_rows-eq0.true

pub returns : goal.returns
returns c =
    let a = c.args in
    let n = c.count-component_rows.result in
    let m = c.count-property_rows.result in
    let next = broken_property (length a.text.now) n n (properties_in a.properties.now) in
    let last = broken_parameter (length a.text.now) m (n + m) 0 (parameters_in a.parameters.now) in
    in_turn (lent a.text.now a.components.now a.properties.now a.parameters.now) n c.count-component_rows.ensures c.if-component_rows-eq0.false
    m c.count-property_rows.ensures _ _ _ c.broken_component.ensures
    (or_next c.broken_component.result c.or_else.result next (search rules) c.or_else.ensures)
    (or_next c.or_else.result c.or_else-2.result last (search rules) c.or_else-2.ensures)
