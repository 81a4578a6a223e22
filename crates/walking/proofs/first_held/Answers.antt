-- `walking::first_held`: the rows that are passed are those of earlier properties.
use Rattle.std.proofs.Common.{ap, rules, tests, ◌+◌}
use Rattle.tables.specs.Rows.{parameter_size, parameter_at}
use Rattle.walking.specs.Walk.{held_before}
use Rattle.walking.proofs.Search.{front_on}
use Rattle.walking.proofs.first_held.Goals as goal

pub returns : goal.returns
returns c =
    let a = c.args in
    ap (λ n. a.from + n)
    (front_on parameter_size parameter_at (held_before a.property) a.parameters.now c.take_while.result a.from c.count-rows.result c.count.result
    c.take_while.ensures.source c.take_while.ensures.closure c.take_while.ensures.done (λ x b q k. search (rules, tests)) c.count.ensures.ran c.count-rows.ensures)
