-- `walking::next_own`: the rows that are passed belong to others.
use Rattle.std.proofs.Common.{ap, rules, tests, ◌+◌}
use Rattle.tables.specs.Rows.{property_size, property_at}
use Rattle.walking.specs.Walk.{owned_by_other}
use Rattle.walking.proofs.Search.{front_before}
use Rattle.walking.proofs.next_own.Goals as goal

pub returns : goal.returns
returns c =
    let a = c.args in
    ap (λ n. a.from + n)
    (front_before property_size property_at (owned_by_other a.row) a.properties.now c.take_while.result a.from a.last c.count.result
    c.take_while.ensures.source c.take_while.ensures.closure c.take_while.ensures.done (λ x b q k. search (rules, tests)) c.count.ensures.ran c.requires)
