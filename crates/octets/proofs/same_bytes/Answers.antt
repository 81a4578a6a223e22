use Rattle.std.proofs.Common.{arith, sym, ◌∙◌, drop}
use borrow.Author.Tests.{le-ltb}
use Rattle.octets.proofs.Lists.{lent}
use Rattle.octets.proofs.Words.{unlike, same_rest, pointwise_same}
use Rattle.octets.proofs.same_bytes.Goals as goal

pub returns-then-a-b : goal.returns-then-a-b
returns-then-a-b c = sym (unlike c.args.a.now c.args.b.now c.if-a-b.true)

pub returns-then-a-n-lt8 : goal.returns-then-a-n-lt8
returns-then-a-n-lt8 c =
    let n = c.same_eights-n.result in
    let a = c.args.a.now in
    let b = c.args.b.now in
    c.eq.ensures ∙ (rw (lent a n, lent b n) (pointwise_same (drop n a) (drop n b) ∙ same_rest a b n c.same_eights-n.ensures.same_so_far.1))

pub returns-else-a-n-lt8 : goal.returns-else-a-n-lt8
returns-else-a-n-lt8 c =
    let n = c.same_eights-n.result in
    let e = c.same_eights-n.ensures in
    le-ltb _ 8 c.if-a-n-lt8.false ∙ sym (sym (same_rest c.args.a.now c.args.b.now n e.same_so_far.1) ∙ e.next_differ (omega arith))
