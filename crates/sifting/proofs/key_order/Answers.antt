-- The next letters decide, or leave it to those behind them; at the end of one key, how long they are decides.
use Rattle.std.proofs.Common.{◌≡◌, length, get_or, sym, ◌∙◌, refl}
use Rattle.std.specs.Cmp.{nat_cmp_is}
use Rattle.std.specs.Ordering.{nat_cmp}
use Rattle.std.specs.declared.cmp.Ordering.TheVariants.{Equal}
use Rattle.std.proofs.lemmas.List.{length_push}
use Rattle.std.proofs.lemmas.Slice.Zip.{zip_turn, zip_end}
use Rattle.octets.specs.Bytes.{lowered}
use Rattle.octets.proofs.Words.{small_letter}
use Rattle.sifting.proofs.Orders.{order_told, order_past, order_ends}
use Rattle.sifting.proofs.key_order.Goals as goal

pub returns-then-is_ne : goal.returns-then-is_ne
returns-then-is_ne c =
    let a = c.args.a.now in
    let b = c.args.b.now in
    let n = length c.loop-x.yielded in
    let t =
    zip_turn a b c.loop-x.yielded c.into_iter-x-iterator.result c.loop-x.x-iterator c.next.new.self c.next.result (cc) (cc)
    c.loop-x.yielded_by _ c.in-Some.is c.next.ensures.steps
    in
    let x : c.in-Some.x.now ≡ get_or a n 0 = t.2 0 in
    let y : c.in-Some.y.now ≡ get_or b n 0 = t.3 0 in
    let e : c.cmp-order.result ≡ nat_cmp (lowered (get_or a n 0)) (lowered (get_or b n 0)) = cc (small_letter (get_or a n 0), small_letter (get_or b n 0)) in
    order_told a b n t.0 t.1 e (sym c.is_ne.ensures ∙ c.if-is_ne.true) ∙ c.loop-x.invariant

pub loop-x-preserved-else-is_ne : goal.loop-x-preserved-else-is_ne
loop-x-preserved-else-is_ne c =
    let a = c.args.a.now in
    let b = c.args.b.now in
    let n = length c.loop-x.yielded in
    let t =
    zip_turn a b c.loop-x.yielded c.into_iter-x-iterator.result c.loop-x.x-iterator c.next.new.self c.next.result (cc) (cc)
    c.loop-x.yielded_by _ c.in-Some.is c.next.ensures.steps
    in
    let x : c.in-Some.x.now ≡ get_or a n 0 = t.2 0 in
    let y : c.in-Some.y.now ≡ get_or b n 0 = t.3 0 in
    let e : c.cmp-order.result ≡ nat_cmp (lowered (get_or a n 0)) (lowered (get_or b n 0)) = cc (small_letter (get_or a n 0), small_letter (get_or b n 0)) in
    rw (length_push c.loop-x.yielded (c.in-Some.x, c.in-Some.y)) (order_past a b n t.0 t.1 e (sym c.is_ne.ensures ∙ c.if-is_ne.false) ∙ c.loop-x.invariant)

pub loop-x-preserved : goal.loop-x-preserved
loop-x-preserved c =
    let a = c.args.a.now in
    let b = c.args.b.now in
    let n = length c.loop-x.yielded in
    let t =
    zip_turn a b c.loop-x.yielded c.into_iter-x-iterator.result c.loop-x.x-iterator c.next.new.self c.next.result (cc) (cc)
    c.loop-x.yielded_by _ c.in-Some.is c.next.ensures.steps
    in
    let x : c.in-Some.x.now ≡ get_or a n 0 = t.2 0 in
    let y : c.in-Some.y.now ≡ get_or b n 0 = t.3 0 in
    let same : lowered (get_or a n 0) ≡ lowered (get_or b n 0) = cc in
    rw (length_push c.loop-x.yielded (c.in-Some.x, c.in-Some.y)) (order_past a b n t.0 t.1 (nat_cmp_is _ _ Equal same) refl ∙ c.loop-x.invariant)

pub returns : goal.returns
returns c =
    let a = c.args.a.now in
    let b = c.args.b.now in
    let ends =
    zip_end a b c.loop-x.yielded c.into_iter-x-iterator.result c.loop-x.x-iterator c.next.new.self c.next.result (cc) (cc)
    c.loop-x.yielded_by c.in-None.is c.next.ensures.steps
    in
    c.cmp.ensures ∙ (sym (order_ends a b (length c.loop-x.yielded) ends) ∙ c.loop-x.invariant)
