use Rattle.std.proofs.Common.{ℕ, ◌+◌, bit_and, bit_or, bit_xor, arith, add-zero, ap, sym, ◌∙◌}
use Rattle.octets.proofs.Numbers.{outside, found_uncommon}
use Rattle.octets.proofs.eights.marks_of_uncommon.Goals as goal

pub returns : goal.returns
returns c =
    let n = c.number_at-bytes.result in
    let low = bit_and n 0x7f7f7f7f7f7f7f7f in
    ap (λ (m : ℕ). bit_and (bit_or (bit_xor (bit_xor (low + 0x6060606060606060) m) 0x8080808080808080) n) 0x8080808080808080) (sym (add-zero low))
    ∙ ap (outside 0x7f7f7f7f7f7f7f7f 0x6060606060606060 0 0x8080808080808080) c.number_at-bytes.ensures
    ∙ found_uncommon c.args.a.now c.args.at (λ (i : ℕ). omega (arith, c.type_inv.a i))
