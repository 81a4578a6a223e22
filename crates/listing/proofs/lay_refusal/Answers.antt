-- `listing::lay_refusal`: the word, and one number after the other.
-- Assumes nothing.
use Rattle.std.proofs.Common.{[], ◌∷◌, ◌++◌, refl, arith}
use Rattle.octets.specs.Bytes.{space, lf}
use Rattle.octets.proofs.Writing.{start, more, end}
use Rattle.listing.specs.Texts.{field, decimal}
use Rattle.listing.specs.Lines.{refused}
use Rattle.listing.proofs.lay_refusal.Goals as goal

pub returns : goal.returns
returns c =
    let r = c.args.r in
    let f5 = field (decimal r.properties) space ++ field (decimal r.parameters) lf in
    let f4 = field (decimal r.components) space ++ f5 in
    let f3 = field (decimal r.length) space ++ f4 in
    let f2 = field (decimal r.place) space ++ f3 in
    let f1 = field (decimal r.answer) space ++ f2 in
    let w0 = start 0 c.args.out.now (refused r) in
    let w1 = more w0 (omega arith) (field (114 ∷ 101 ∷ 102 ∷ 117 ∷ 115 ∷ 101 ∷ 100 ∷ []) space) f1 refl c.lay_field-to.ensures in
    let w2 = more w1 (omega arith) (field (decimal r.answer) space) f2 refl c.lay_number-to.ensures in
    let w3 = more w2 (omega arith) (field (decimal r.place) space) f3 refl c.lay_number-to-2.ensures in
    let w4 = more w3 (omega arith) (field (decimal r.length) space) f4 refl c.lay_number-to-3.ensures in
    let w5 = more w4 (omega arith) (field (decimal r.components) space) f5 refl c.lay_number-to-4.ensures in
    let w6 = more w5 (omega arith) (field (decimal r.properties) space) (field (decimal r.parameters) lf) refl c.lay_number-to-5.ensures in
    end w6 c.lay_number.ensures
