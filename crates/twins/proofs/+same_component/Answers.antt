-- `twins::same_component`: the heads, and then the children of both in turn.
use mathlib.Core.Path.{sym, ◌∙◌}
use Rattle.tables.specs.Lent.{held}
use Rattle.walking.proofs.Rows.{walk_ruled}
use Rattle.twins.proofs.Pairs.{ends, both_more, heads_differ, pairs_begin, pair_differs, pair_agrees, pairs_end, pairs_behind}
use Rattle.twins.proofs.+same_component.Goals as goal

pub returns-in_err-a : goal.returns-in_err-a
returns-in_err-a g t c =
    let a = c.args in
    rw c.from_residual.ensures (heads_differ g.V.Values.test (held a.walk.now.tables) a.level a.first.row a.second.row c.in_err-a.ensures)

pub loop-one-init : goal.loop-one-init
loop-one-init g t c =
    let a = c.args in
    let b = held a.walk.now.tables in
    let h = c.in_ok-a.ensures in
    rw (c.moved-one.ensures, c.moved-other.ensures)
    (pairs_begin g.V.Values.test b a.level a.first.row a.second.row (walk_ruled a.walk.now) c.requires.first_arrived.there c.requires.second_arrived.there
    (ends b a.level a.first.row c.children_end-one_last.ensures h.1) (ends b a.level a.second.row c.children_end-other_last.ensures h.2) h.0 h.1 h.2)

pub returns-in_err-one : goal.returns-in_err-one
returns-in_err-one g t c =
    let a = c.args in
    let more = both_more _ _ _ _ c.loop-one-test.true in
    rw c.from_residual-in_err-one.ensures
    (pair_differs g.V.Values.test (held a.walk.now.tables) a.level a.first.row a.second.row c.loop-one.invariant more.0 more.1 c.in_err-one.ensures)

pub loop-one-preserved : goal.loop-one-preserved
loop-one-preserved g t c =
    let a = c.args in
    let more = both_more _ _ _ _ c.loop-one-test.true in
    let h = c.in_ok-one.ensures in
    pair_agrees g.V.Values.test (held a.walk.now.tables) a.level a.first.row a.second.row c.loop-one.invariant more.0 more.1 h.0 h.1 h.2

pub returns-then-one_last-one : goal.returns-then-one_last-one
returns-then-one_last-one g t c =
    let a = c.args in
    let b = held a.walk.now.tables in
    let h = c.in_ok-a.ensures in
    let e = pairs_end g.V.Values.test b a.level a.first.row a.second.row c.loop-one.invariant c.loop-one-test.false in
    let k = pairs_behind g.V.Values.test b a.level a.first.row a.second.row (walk_ruled a.walk.now) c.requires.first_arrived.there c.requires.second_arrived.there
    (ends b a.level a.first.row c.children_end-one_last.ensures h.1) (ends b a.level a.second.row c.children_end-other_last.ensures h.2) h.1 h.2 c.loop-one.invariant in
    rw (c.moved-then-one_last-one.ensures, c.moved.ensures) (sym e ∙ c.if-one_last-one.true, k.0, k.1)

pub returns-else-one_last-one : goal.returns-else-one_last-one
returns-else-one_last-one g t c =
    let a = c.args in
    sym (pairs_end g.V.Values.test (held a.walk.now.tables) a.level a.first.row a.second.row c.loop-one.invariant c.loop-one-test.false) ∙ c.if-one_last-one.false
