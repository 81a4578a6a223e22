use Rattle.std.proofs.Common.{◌<◌, arith, get_or, sym, ◌∙◌}
use Rattle.octets.proofs.Runs.{ran_start, ran_more, ran_end, ran_all}
use Rattle.octets.proofs.run_while.Goals as goal

pub loop-i-init : goal.loop-i-init
loop-i-init g c = λ class h. ran_start class _

pub returns-then-not-is_in-clause-longest : goal.returns-then-not-is_in-clause-longest
returns-then-not-is_in-clause-longest g c =
    let x = get_or c.args.a.now c.loop-i.i 0 in
    let k : x < 256 = omega (arith, c.type_inv.a c.loop-i.i) in
    λ class h. ran_end (c.loop-i.invariant class h) (omega arith) (sym (h x _ k c.is_in.ensures) ∙ c.if-not-is_in.true)

pub loop-i-preserved : goal.loop-i-preserved
loop-i-preserved g c =
    let x = get_or c.args.a.now c.loop-i.i 0 in
    let k : x < 256 = omega (arith, c.type_inv.a c.loop-i.i) in
    λ class h. ran_more (c.loop-i.invariant class h) (omega arith) (sym (h x _ k c.is_in.ensures) ∙ c.if-not-is_in.false)

pub returns-clause-longest : goal.returns-clause-longest
returns-clause-longest g c = λ class h. let r = c.loop-i.invariant class h in omega (arith, ran_all r (omega arith))
