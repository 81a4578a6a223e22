-- `walking::last_within`: the rows that are passed belong to components from `row` up to `end`.
use Rattle.std.proofs.Common.{ap, rules, tests, ◌+◌}
use Rattle.tables.specs.Rows.{property_size, property_at}
use Rattle.walking.specs.Walk.{owned_within}
use Rattle.walking.proofs.Search.{front_on}
use Rattle.walking.proofs.last_within.Goals as goal

pub returns : goal.returns
returns c =
    let a = c.args in
    ap (λ n. a.from + n)
    (front_on property_size property_at (owned_within a.row a.end) a.properties.now c.take_while.result a.from c.count-rows.result c.count.result
    c.take_while.ensures.source c.take_while.ensures.closure c.take_while.ensures.done (λ x b q k. search (rules, tests)) c.count.ensures.ran c.count-rows.ensures)
