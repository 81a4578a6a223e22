use Rattle.std.proofs.Common.{ℕ, ◌*◌, bit_xor, arith, ap, ◌∙◌}
use Rattle.octets.proofs.Numbers.{zeros, found}
use Rattle.octets.proofs.eights.marks_of.Goals as goal

pub returns : goal.returns
returns c =
    rw c.from.ensures
    (ap (λ (n : ℕ). zeros 0x7f7f7f7f7f7f7f7f 0x8080808080808080 (bit_xor n (0x0101010101010101 * c.args.b))) c.number_at.ensures
    ∙ found c.args.a.now c.args.at (λ (i : ℕ). omega (arith, c.type_inv.a i)) c.args.b (omega arith))
