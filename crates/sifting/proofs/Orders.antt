-- Two keys one letter at a time, and that parameters that are the same stand at the same place in the order. Assumes nothing.
use mathlib.Core.Path.{◌≡◌, refl, sym}
use mathlib.Core.Bool.{Bool, true, false, false≢true}
use mathlib.Core.List.{List, map}
use Prim.Native.Nat.{ℕ, ◌+◌, ◌≤◌, ◌<◌}
use native.Mathlib.Numerals.{add-one}
use native.Mathlib.Omega.{arith}
use lib.ListN.{length, get_or, drop, drop_of_length-le}
use lib.Seq.{drop-cons}
use lib.Dec.{ltb}
use borrow.Author.Tests.{ltb-true, ltb-false}
use Rattle.std.proofs.Common.{min}
use Rattle.std.specs.Cmp.{nat_cmp_is}
use Rattle.std.specs.Ordering.{nat_cmp, ordering_then, is_ne}
use Rattle.std.specs.declared.cmp.Ordering.{Ordering}
use Rattle.std.specs.declared.cmp.Ordering.TheVariants.{Less, Equal, Greater}
use Rattle.octets.specs.Bytes.{lowered}
use Rattle.octets.proofs.Bools.{both}
use Rattle.octets.proofs.Words.{same_eq}
use Rattle.tables.specs.Trees.{Parameter}
use Rattle.comparing.specs.Pieces.{same_key, same_held, same_parameter}
use Rattle.comparing.proofs.Pieces.{held_equal}
use Rattle.sifting.specs.Orders.{key_order, precedes}

-- two keys from letter i on
module _ (k l : List ℕ) (i : ℕ) (h : i < length k) (m : i < length l) where
  order_turn : {o : Ordering} → o ≡ nat_cmp (lowered (get_or k i 0)) (lowered (get_or l i 0))
      → key_order (drop i k) (drop i l) ≡ ordering_then o (key_order (drop (i + 1) k) (drop (i + 1) l))
  order_turn e = rw (drop-cons k i 0 h, drop-cons l i 0 m, add-one, e)

  -- letters that differ decide
  pub order_told : {o : Ordering} → o ≡ nat_cmp (lowered (get_or k i 0)) (lowered (get_or l i 0)) → is_ne o ≡ true → o ≡ key_order (drop i k) (drop i l)
  order_told {o = Less} e n = sym (order_turn e)
  order_told {o = Equal} e n = absurd (false≢true n)
  order_told {o = Greater} e n = sym (order_turn e)

  -- and those that are the same leave it to those behind them
  pub order_past : {o : Ordering} → o ≡ nat_cmp (lowered (get_or k i 0)) (lowered (get_or l i 0)) → is_ne o ≡ false
      → key_order (drop (i + 1) k) (drop (i + 1) l) ≡ key_order (drop i k) (drop i l)
  order_past {o = Less} e n = absurd (false≢true (sym n))
  order_past {o = Equal} e n = sym (order_turn e)
  order_past {o = Greater} e n = absurd (false≢true (sym n))

-- where one of two keys ends, and all letters before are the same, how long they are decides
pub order_ends : (k l : List ℕ) (i : ℕ) → i ≡ min (length k) (length l) → key_order (drop i k) (drop i l) ≡ nat_cmp (length k) (length l)
order_ends k l i e = go (ltb (length k) (length l)) refl (ltb (length l) (length k)) refl
  where
    go : (t : Bool) → ltb (length k) (length l) ≡ t → (u : Bool) → ltb (length l) (length k) ≡ u → key_order (drop i k) (drop i l) ≡ nat_cmp (length k) (length l)
    go true f u g =
        let h : length k < length l = ltb-true (length k) (length l) f in
        let m : i < length l = omega (arith, e, h) in
        let o : length k ≤ i = omega (arith, e, h) in
        rw (drop_of_length-le k o, drop-cons l i 0 m) (nat_cmp_is (length k) (length l) Less h)
    go false f true g =
        let h : length l < length k = ltb-true (length l) (length k) g in
        let m : i < length k = omega (arith, e, h) in
        let o : length l ≤ i = omega (arith, e, h) in
        rw (drop_of_length-le l o, drop-cons k i 0 m) (nat_cmp_is (length k) (length l) Greater h)
    go false f false g =
        let h : length k ≡ length l = omega (arith, ltb-false (length k) (length l) f, ltb-false (length l) (length k) g) in
        let m : length k ≤ i = omega (arith, e, h) in
        let o : length l ≤ i = omega (arith, e, h) in
        rw (drop_of_length-le k m, drop_of_length-le l o) (nat_cmp_is (length k) (length l) Equal h)

-- ---- parameters that are the same

pub same_place : (z x y : Parameter) → same_parameter x y ≡ true → precedes z x ≡ precedes z y
same_place z x y e =
    let p = both (same_key x.key y.key) (same_held x.value y.value) e in
    rw (same_eq (map lowered x.key) (map lowered y.key) p.0, held_equal x.value y.value p.1)
