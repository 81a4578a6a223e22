use Rattle.std.proofs.Common.{ℕ, arith}
use Rattle.octets.proofs.Numbers.{both_eights}
use Rattle.octets.proofs.eights.same.Goals as goal

pub returns : goal.returns
returns c =
    rw (c.number_at.ensures, c.number_at-2.ensures)
    (both_eights c.args.a.now c.args.b.now c.args.at (λ (i : ℕ). omega (arith, c.type_inv.a i)) (λ (i : ℕ). omega (arith, c.type_inv.b i)))
