use Rattle.std.proofs.Common.{arith, sym, ◌∙◌}
use Rattle.octets.proofs.Numbers.{eight_same, eight_differ}
use Rattle.octets.proofs.same_eights.Goals as goal

pub returns-then-not-same-clause-next_differ : goal.returns-then-not-same-clause-next_differ
returns-then-not-same-clause-next_differ c =
    λ h. eight_differ c.args.a.now c.args.b.now c.loop-i.i (omega arith) (omega arith) (sym c.same.ensures ∙ c.if-not-same.true)

pub loop-i-preserved : goal.loop-i-preserved
loop-i-preserved c =
    (omega arith, eight_same c.args.a.now c.args.b.now c.loop-i.i (omega arith) (omega arith) c.loop-i.invariant.1 (sym c.same.ensures ∙ c.if-not-same.false))
