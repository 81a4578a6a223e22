-- Writing part by part with `lay`, which counts on past the end of the buffer: what is laid so far and what is to come. Assumes nothing.
use mathlib.Core.Path.{◌≡◌, refl, sym, ap, ◌∙◌}
use mathlib.Core.Bool.{Bool, true, false}
use mathlib.Core.List.{List, [], ◌∷◌, ◌++◌, append-nil, append_assoc}
use Prim.Native.Nat.{ℕ, ◌+◌, ◌-◌, ◌≤◌, ◌<◌, min, zero-le}
use native.Mathlib.Nat.{zero-add, min-eq_left, min-eq_right, le_of_lt}
use native.Mathlib.Numerals.{add-one}
use native.Mathlib.Omega.{arith}
use lib.ListN.{length, set, take, drop, drop_of_length-le, length-append, length-take, length-drop, take-append-drop}
use lib.Seq.{take_all, take-append-add, drop-append-add, drop-drop, length-take-le, set_split}
use lib.Dec.{leb}
use borrow.Author.Tests.{leb-true, leb-false}
use Rattle.octets.specs.Laid.{laid, laid_from, most, counted, Lays}
use Rattle.octets.proofs.Lists.{lent}
use Rattle.octets.proofs.Laid.{whole, length_laid, nothing, then}

-- past the end of the buffer nothing is laid
past : (at : ℕ) (xs old : List ℕ) → length old ≤ at → laid_from at xs old ≡ old
past at xs old h = rw (take_all at old h, drop_of_length-le old h) (by xs)
  where
    by : (xs : List ℕ) → old ++ laid xs [] ≡ old
    by [] = append-nil old
    by (x ∷ xs) = append-nil old

-- without a buffer bytes are counted only
pub counts : (at : ℕ) (xs : List ℕ) {n : ℕ} → n ≡ counted (at + length xs) → Lays at xs [] [] n
counts at xs e = record { count = e; is = sym (past at xs [] zero-le) }

-- one byte, where there is room
pub one_laid : (at b : ℕ) (old : List ℕ) → at < length old → set old at b ≡ laid_from at (b ∷ []) old
one_laid at b old h =
    let room : 1 ≤ length (drop at old) = omega (arith, length-drop at old) in
    set_split old at b h ∙ ap (◌++◌ (take at old)) (sym (whole (b ∷ []) (drop at old) room ∙ ap (◌∷◌ b) (drop-drop 1 at old ∙ rw add-one)))

pub length_from : (at : ℕ) (xs old : List ℕ) → length (laid_from at xs old) ≡ length old
length_from at xs old = omega (arith, length-append (take at old) (laid xs (drop at old)), length_laid xs (drop at old), length-take at old, length-drop at old)

-- a place that stops at the end of the buffer is as good
pub at_most : (at n : ℕ) (xs old : List ℕ) → length old ≤ n → laid_from (min at n) xs old ≡ laid_from at xs old
at_most at n xs old h = by (leb at n) refl
  where
    by : (t : Bool) → leb at n ≡ t → laid_from (min at n) xs old ≡ laid_from at xs old
    by true e = rw (min-eq_left (leb-true at n e))
    by false e = rw (min-eq_right (le_of_lt (leb-false at n e))) (past n xs old h ∙ sym (past at xs old (omega (arith, leb-false at n e))))

-- xs, and then ys behind it
pub from_then : (at : ℕ) (xs ys old : List ℕ) → laid_from (at + length xs) ys (laid_from at xs old) ≡ laid_from at (xs ++ ys) old
from_then at xs ys old = by (leb at (length old)) refl
  where
    by : (t : Bool) → leb at (length old) ≡ t → laid_from (at + length xs) ys (laid_from at xs old) ≡ laid_from at (xs ++ ys) old
    by true e =
        let n : length (take at old) ≡ at = length-take-le at old (leb-true at (length old) e) in
        let p : at + length xs ≡ length (take at old) + length xs = ap (λ (k : ℕ). k + length xs) (sym n) in
        rw (p, take-append-add (take at old) (laid xs (drop at old)) (length xs), drop-append-add (take at old) (laid xs (drop at old)) (length xs), then xs ys (drop at old))
        (append_assoc (take at old) _ _)
    by false e =
        let h : length old ≤ at = le_of_lt (leb-false at (length old) e) in
        rw (past at xs old h) (past (at + length xs) ys old (omega arith) ∙ sym (past at (xs ++ ys) old h))

-- the same, as two writes leave it that count on
pub both : {at n m : ℕ} {xs ys old mid new : List ℕ} → Lays at xs old mid n → Lays n ys mid new m → length old ≤ most → Lays at (xs ++ ys) old new m
both {at} {n} {m} {xs} {ys} {old} {mid} p q h = record {
  count = omega (arith, length-append xs ys, p.count, q.count);
  is = q.is ∙ (ap (λ (k : ℕ). laid_from k ys mid) p.count
      ∙ (at_most (at + length xs) most ys mid (rw p.is (omega (arith, length_from at xs old))) ∙ rw p.is (from_then at xs ys old)));
}

-- the part from `at` on is lent, and comes back with xs laid over it
pub lent_back : (at : ℕ) (xs old : List ℕ) {ys : List ℕ} → ys ≡ laid xs (take (length old - at) (drop at old))
    → take at old ++ (ys ++ drop (length old - at) (drop at old)) ≡ laid_from at xs old
lent_back at xs old {ys} e =
    rw (e, lent old at, drop_of_length-le (drop at old) {i = length old - at} (omega (arith, length-drop at old)), append-nil)

-- of `all`, which is to lie over `old` from `from` on, `rest` is to come, from `at` on
pub record Writing (from : ℕ) (old all out rest : List ℕ) (at : ℕ) : Type 0 where
  pub lies : laid_from at rest out ≡ laid_from from all old
  pub count : counted (at + length rest) ≡ counted (from + length all)
  pub same : length out ≡ length old

pub start : (from : ℕ) (old all : List ℕ) → Writing from old all old all from
start from old all = record { lies = refl; count = refl; same = refl }

-- xs is laid, the next part
pub more : {from : ℕ} {old all out rest : List ℕ} {at : ℕ} → Writing from old all out rest at → length old ≤ most
    → (xs new : List ℕ) → rest ≡ xs ++ new → {next : List ℕ} {n : ℕ} → Lays at xs out next n → Writing from old all next new n
more {from} {old} {all} {out} {rest} {at} l h xs new e p =
    let b = both p (record { count = refl; is = refl }) (omega (arith, l.same)) in
    record {
      lies = b.is ∙ (rw e at l.lies);
      count = b.count ∙ (rw e at l.count);
      same = rw p.is (length_from at xs out ∙ l.same);
    }

-- the last part
pub end : {from : ℕ} {old all out rest next : List ℕ} {at n : ℕ} → Writing from old all out rest at → Lays at rest out next n → Lays from all old next n
end l p = record { count = p.count ∙ l.count; is = p.is ∙ l.lies }

-- the same of equal bytes
pub from_as : {at n : ℕ} {old xs ys new : List ℕ} → xs ≡ ys → Lays at xs old new n → Lays at ys old new n
from_as e p = rw e at p

-- nothing is laid
pub stays : (at : ℕ) (old : List ℕ) → at ≤ most → Lays at [] old old at
stays at old h = record {
  count = sym (ap counted (omega arith) ∙ min-eq_left h);
  is = sym (rw (nothing (drop at old)) (take-append-drop at old));
}

-- from the front on the place is the count
pub from_front : {n : ℕ} {xs old new : List ℕ} → Lays 0 xs old new n → n ≡ counted (length xs)
from_front {n} {xs} p = p.count ∙ ap counted (zero-add (length xs))

-- and what lies over the front, with its count, is laid from there
pub at_front : {n : ℕ} {xs old new : List ℕ} → n ≡ counted (length xs) → new ≡ laid xs old → Lays 0 xs old new n
at_front {n} {xs} e p = record { count = e ∙ sym (ap counted (zero-add (length xs))); is = p }
