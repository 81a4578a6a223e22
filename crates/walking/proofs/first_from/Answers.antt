-- `walking::first_from`: the rows that are passed are those of earlier components.
use Rattle.std.proofs.Common.{ap, rules, tests, ◌+◌}
use Rattle.tables.specs.Rows.{property_size, property_at}
use Rattle.walking.specs.Walk.{owned_before}
use Rattle.walking.proofs.Search.{front_on}
use Rattle.walking.proofs.first_from.Goals as goal

pub returns : goal.returns
returns c =
    let a = c.args in
    ap (λ n. a.from + n)
    (front_on property_size property_at (owned_before a.row) a.properties.now c.take_while.result a.from c.count-rows.result c.count.result
    c.take_while.ensures.source c.take_while.ensures.closure c.take_while.ensures.done (λ x b q k. search (rules, tests)) c.count.ensures.ran c.count-rows.ensures)
