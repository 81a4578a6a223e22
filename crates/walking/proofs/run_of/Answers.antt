-- `walking::run_of`: the rows that are passed are those of the property.
use Rattle.std.proofs.Common.{rules, tests}
use Rattle.tables.specs.Rows.{parameter_size, parameter_at}
use Rattle.tables.specs.Fronts.{belongs}
use Rattle.walking.proofs.Search.{front_on}
use Rattle.walking.proofs.run_of.Goals as goal

pub returns : goal.returns
returns c =
    let a = c.args in
    front_on parameter_size parameter_at (belongs a.property) a.parameters.now c.take_while.result a.from c.count-rows.result c.count.result
    c.take_while.ensures.source c.take_while.ensures.closure c.take_while.ensures.done (λ x b q k. search (rules, tests)) c.count.ensures.ran c.count-rows.ensures
