-- `twins::same_head`: the names of the two rows, and then the properties of their windows.
use mathlib.Core.Path.{sym, ◌∙◌}
use Rattle.tables.specs.Lent.{held}
use Rattle.walking.proofs.Rows.{row_there}
use Rattle.twins.proofs.Pairs.{names_are, ended_in}
use Rattle.twins.proofs.same_head.Goals as goal

pub at-one-requires : goal.at-one-requires
at-one-requires g c = row_there c.args.walk.now.tables.components.now c.args.first.row c.requires.first_arrived.there

pub at-other-requires : goal.at-other-requires
at-other-requires g c = row_there c.args.walk.now.tables.components.now c.args.second.row c.requires.second_arrived.there

pub returns-then-not-same_name : goal.returns-then-not-same_name
returns-then-not-same_name g c =
    let t = c.args.walk.now.tables in
    let names = names_are t.text.now t.components.now c.args.first.row c.args.second.row c.requires.first_arrived.there c.requires.second_arrived.there
    c.at-one.ensures c.at-other.ensures c.same_name.ensures
    ∙ c.if-not-same_name.true in
    rw names

pub returns : goal.returns
returns g c =
    let t = c.args.walk.now.tables in
    let names = names_are t.text.now t.components.now c.args.first.row c.args.second.row c.requires.first_arrived.there c.requires.second_arrived.there
    c.at-one.ensures c.at-other.ensures c.same_name.ensures
    ∙ c.if-not-same_name.false in (
      rw (names, ← c.side-a.ensures.0, ← c.side-b.ensures.0) (sym c.same_properties.ensures ∙ c.if-not-same_properties.false),
      ended_in (held t) c.side-a.ensures.1 c.inside.ensures,
      ended_in (held t) c.side-b.ensures.1 c.inside-2.ensures,
    )
