-- `twins::same_front`: what is compared is the first property of each.
use mathlib.Core.Path.{sym, ◌∙◌}
use Rattle.matching.proofs.Rows.{rows_read}
use Rattle.twins.proofs.Front.{fronts_differ}
use Rattle.twins.proofs.same_front.Goals as goal

pub returns : goal.returns
returns g c = λ e parameters.
    let t = c.args.tables.now in
    fronts_differ t.text.now t.properties.now parameters g.V.Values.test
    (record { reached = c.requires.first_bound; found = c.first_from-a.ensures; own = sym c.is_own.ensures ∙ c.if-not-is_own.false })
    (record { reached = c.requires.second_bound; found = c.first_from-b.ensures; own = sym c.is_own-2.ensures ∙ c.if-not-is_own-2.false })
    (rows_read g.V.Values.test t.text.now c.same_key_and_value.ensures c.at-one.ensures c.at-other.ensures ∙ e)
