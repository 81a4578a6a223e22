use Rattle.std.proofs.Common.{sym, ap, not, ◌∙◌}
use Rattle.tables.specs.Rows.{component_size, component_at}
use Rattle.walking.specs.Walk.{deeper}
use Rattle.walking.proofs.Lockstep.{sizes, both_on, one_longer, one_ends}
use Rattle.walking.proofs.same_size.Goals as goal

pub loop-first-init : goal.loop-first-init
loop-first-init c =
    let a = c.args in
    sizes a.components.now a.first a.second c.requires.0 c.requires.1 (ap (λ c. c.depth) c.at-one.ensures) (ap (λ c. c.depth) c.at-other.ensures)

pub returns-then-not-is_below : goal.returns-then-not-is_below
returns-then-not-is_below c =
    one_longer component_size component_at (deeper c.at-one.result.depth) (deeper c.at-other.result.depth) c.args.components.now c.loop-first.i c.loop-first.j
    (sym c.is_below.ensures ∙ c.loop-first-test.true) (sym c.is_below-in-loop-first.ensures ∙ c.if-not-is_below.true)
    ∙ c.loop-first.invariant

pub loop-first-preserved : goal.loop-first-preserved
loop-first-preserved c =
    both_on component_size component_at (deeper c.at-one.result.depth) (deeper c.at-other.result.depth) c.args.components.now c.loop-first.i c.loop-first.j
    (sym c.is_below.ensures ∙ c.loop-first-test.true) (sym c.is_below-in-loop-first.ensures ∙ c.if-not-is_below.false)
    ∙ c.loop-first.invariant

pub returns : goal.returns
returns c =
    ap not c.is_below-2.ensures
    ∙ one_ends component_size component_at (deeper c.at-one.result.depth) (deeper c.at-other.result.depth) c.args.components.now c.loop-first.i c.loop-first.j
    (sym c.is_below.ensures ∙ c.loop-first-test.false)
    ∙ c.loop-first.invariant
