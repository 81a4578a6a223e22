-- The value as it is, or a quote, the value and a quote in turn.
use Rattle.std.proofs.Common.{[], ◌∷◌, ◌++◌, refl, rules, arith}
use Rattle.octets.specs.Bytes.{quote}
use Rattle.octets.proofs.Writing.{start, more, end, from_as}
use Rattle.quoting.specs.Quoting.{quoted}
use Rattle.quoting.proofs.Laws.{stays, in_quotes}
use Rattle.quoting.proofs.lay_quoted.Goals as goal

pub returns-then-not-wraps : goal.returns-then-not-wraps
returns-then-not-wraps c = from_as (stays c.args.value.now (search rules)) c.lay.ensures

pub returns : goal.returns
returns c =
    let value = c.args.value.now in
    let e = in_quotes value (search rules) in
    let a = more (start 0 c.args.out.now (quoted value)) (omega arith) (quote ∷ []) (value ++ (quote ∷ [])) e c.lay-start.ensures in
    let b = more a (omega arith) value (quote ∷ []) refl c.lay-end.ensures in
    end b c.lay-2.ensures
