use Rattle.std.proofs.Common.{ℕ, arith, ap, ◌∙◌}
use Rattle.octets.proofs.Numbers.{outside, found_others}
use Rattle.octets.proofs.eights.marks_of_others.Goals as goal

pub returns : goal.returns
returns c =
    ap (outside 0x7f7f7f7f7f7f7f7f 0x3f3f3f3f3f3f3f3f 0x2525252525252525 0x8080808080808080) c.number_at-bytes.ensures
    ∙ found_others c.args.a.now c.args.at (λ (i : ℕ). omega (arith, c.type_inv.a i))
