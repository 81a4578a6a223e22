-- `walking::end_of`: the rows that are passed are deeper.
use Rattle.std.proofs.Common.{ap, rules, tests, ◌+◌, ◌∙◌, drop}
use Rattle.tables.specs.Rows.{component_size, component_at}
use Rattle.walking.specs.Walk.{deeper}
use Rattle.tables.specs.Lent.{components_in}
use Rattle.tables.specs.Fronts.{front}
use Rattle.tables.specs.declared.ComponentRow.{ComponentRow}
use Rattle.walking.proofs.Search.{front_on, depth_there}
use Rattle.walking.proofs.end_of.Goals as goal

pub returns : goal.returns
returns c =
    let a = c.args in
    ap (λ n. a.row + 1 + n)
    (front_on component_size component_at (deeper c.at-depth.result.depth) a.components.now c.take_while.result (a.row + 1) c.count-rows.result c.count.result
    c.take_while.ensures.source c.take_while.ensures.closure c.take_while.ensures.done (λ x b q k. search (rules, tests)) c.count.ensures.ran c.count-rows.ensures
    ∙ ap (λ d. front (deeper d) (drop (a.row + 1) (components_in a.components.now)))
    (ap (λ (c : ComponentRow). c.depth) c.at-depth.ensures ∙ depth_there a.components.now a.row c.requires))
