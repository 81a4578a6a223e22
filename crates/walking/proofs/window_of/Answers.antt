-- `walking::window_of`: the rows of the window where the tables are in order, and otherwise all of them.
use Rattle.std.proofs.Common.{◌<◌, length, sym, ◌∙◌}
use Rattle.tables.specs.Rows.{component_size, property_size, component_at, property_at}
use Rattle.tables.specs.Lent.{components_in, properties_in, parameters_in}
use Rattle.tables.proofs.Laws.{length_rows}
use Rattle.walking.proofs.Walks.{holds_all, holds_window}
use Rattle.walking.proofs.window_of.Goals as goal

pub returns-then-not-ordered : goal.returns-then-not-ordered
returns-then-not-ordered c =
    let a = c.args in
    rw (c.count.ensures ∙ sym (length_rows property_size property_at a.properties.now))
    (holds_all (properties_in a.properties.now) (parameters_in a.parameters.now) (components_in a.components.now) c.requires.reached c.first_from-first.ensures
    c.first_held-parameter.ensures c.end_of-end.ensures)

pub returns : goal.returns
returns c =
    let a = c.args in
    let there : a.row < length (components_in a.components.now) = rw (length_rows component_size component_at a.components.now) c.requires.row_in_bounds in
    holds_window (properties_in a.properties.now) (parameters_in a.parameters.now) (components_in a.components.now) c.requires.reached c.first_from-first.ensures
    c.first_held-parameter.ensures c.end_of-end.ensures (c.requires.in_order_if_told c.if-not-ordered.false) there c.last_within-last.ensures
