-- Laws of bytes as one number: what is asked of each byte is asked of all of them at once. Assumes nothing.
use mathlib.Core.Path.{◌≡◌, refl, sym, ap, ◌∙◌}
use mathlib.Core.Bool.{Bool, true, false, not, false≢true}
use mathlib.Core.List.{List, [], ◌∷◌, ◌++◌}
use Prim.Native.Nat.{ℕ, zero, suc, ◌+◌, ◌-◌, ◌*◌, ◌/◌, ◌%◌, ◌^◌, ◌≤◌, ◌<◌}
use native.Mathlib.Nat.{zero-add, add-zero, suc-add, mul-one}
use native.Mathlib.Omega.{arith}
use lib.ListN.{length, get_or, take, drop}
use lib.Seq.{drop-cons, take-add, take-append_seam}
use lib.Dec.{eqb, leb, ltb, lit<, lit≤}
use lib.Bits.{bit_and, bit_or, bit_xor, and_le_l, and_le_r, and_zero_l, or_zero_l, xor_zero_l, and_block, or_block, or_lt, xor_block, xor_lt, xor_self, xor_add_and, shifted_half, shifted_even}
use lib.Count.{count_trailing_zeros, trailing_of_zero}
use borrow.Author.Tests.{eqb-true, eqb-false, eq-eqb, ne_eqb, leb-true, leb-false, le-leb, lt-leb, lt-ltb, le-ltb}
use Rattle.octets.specs.Choice.{pick}
use Rattle.octets.specs.Bytes.{capital, common, other}
use Rattle.octets.specs.Runs.{run}
use Rattle.octets.specs.Numbers.{each, number, marks, eight}
use Rattle.octets.specs.Words.{same_bytes}
use Rattle.octets.proofs.Runs.{within, through, ends_inside}
use Rattle.octets.proofs.Words.{same_eq, same_refl, differ_in_front}
use Rattle.octets.proofs.Every.{equal}

abbrev Small : (ℕ → ℕ) → Type 0
Small f = (x : ℕ) → x < 256 → f x < 256

unfoldable pub Bytes : List ℕ → Type 0
Bytes [] = Unit {0}
Bytes (x ∷ xs) = (x < 256) × Bytes xs

-- ---- bit by bit is byte by byte

module _ (op : ℕ → ℕ → ℕ) (nothing : op 0 0 ≡ 0)
    (block : (k a b r s : ℕ) → r < 2 ^ k → s < 2 ^ k → op (a * 2 ^ k + r) (b * 2 ^ k + s) ≡ op a b * 2 ^ k + op r s) where
  bytewise : (f g : ℕ → ℕ) → Small f → Small g → (xs : List ℕ) → Bytes xs → op (each f xs) (each g xs) ≡ each (λ (x : ℕ). op (f x) (g x)) xs
  unfolding Bytes
  bytewise f g p q [] k = nothing
  bytewise f g p q (x ∷ xs) k =
      let s : f x + 256 * each f xs ≡ each f xs * 2 ^ 8 + f x = omega arith in
      let t : g x + 256 * each g xs ≡ each g xs * 2 ^ 8 + g x = omega arith in
      let b = block 8 (each f xs) (each g xs) (f x) (g x) (p x k.0) (q x k.0) in
      ap (λ (n : ℕ). op n (g x + 256 * each g xs)) s
      ∙ ap (λ (n : ℕ). op (each f xs * 2 ^ 8 + f x) n) t
      ∙ b
      ∙ omega (arith, bytewise f g p q xs k.1)

and_each : (f g : ℕ → ℕ) → Small f → Small g → (xs : List ℕ) → Bytes xs → bit_and (each f xs) (each g xs) ≡ each (λ (x : ℕ). bit_and (f x) (g x)) xs
and_each = bytewise bit_and (and_zero_l 0) and_block

or_each : (f g : ℕ → ℕ) → Small f → Small g → (xs : List ℕ) → Bytes xs → bit_or (each f xs) (each g xs) ≡ each (λ (x : ℕ). bit_or (f x) (g x)) xs
or_each = bytewise bit_or (or_zero_l 0) or_block

xor_each : (f g : ℕ → ℕ) → Small f → Small g → (xs : List ℕ) → Bytes xs → bit_xor (each f xs) (each g xs) ≡ each (λ (x : ℕ). bit_xor (f x) (g x)) xs
xor_each = bytewise bit_xor (xor_zero_l 0) xor_block

sums : (f g : ℕ → ℕ) (xs : List ℕ) → each f xs + each g xs ≡ each (λ (x : ℕ). f x + g x) xs
sums f g [] = refl
sums f g (x ∷ xs) = omega (arith, sums f g xs)

alike : (f g : ℕ → ℕ) → ((x : ℕ) → x < 256 → f x ≡ g x) → (xs : List ℕ) → Bytes xs → each f xs ≡ each g xs
unfolding Bytes
alike f g e [] k = refl
alike f g e (x ∷ xs) k = omega (arith, e x k.0, alike f g e xs k.1)

-- ---- which bytes are 0

abbrev pub zeros : ℕ → ℕ → ℕ → ℕ
zeros low high n = bit_xor (bit_and (bit_or (bit_and n low + low) n) high) high

abbrev lower : ℕ → ℕ → ℕ
lower by x = bit_and x 127 + by

lower_small : (by : ℕ) → by ≤ 128 → Small (lower by)
lower_small by h x k = omega (arith, and_le_r x 127)

zeros_each : (f : ℕ → ℕ) → Small f → (xs : List ℕ) → Bytes xs
    → zeros (each (λ (x : ℕ). 127) xs) (each (λ (x : ℕ). 128) xs) (each f xs) ≡ each (λ (x : ℕ). zeros 127 128 (f x)) xs
zeros_each f p xs k =
    let low : ℕ → ℕ = λ (x : ℕ). 127 in
    let high : ℕ → ℕ = λ (x : ℕ). 128 in
    let s : Small (λ (x : ℕ). lower 127 (f x)) = λ (x : ℕ) h. lower_small 127 (lit≤ tt) (f x) (p x h) in
    let o : Small (λ (x : ℕ). bit_or (lower 127 (f x)) (f x)) = λ (x : ℕ) h. or_lt 8 (lower 127 (f x)) (f x) (s x h) (p x h) in
    let a : Small (λ (x : ℕ). bit_and (bit_or (lower 127 (f x)) (f x)) 128) = λ (x : ℕ) h. omega (arith, and_le_r (bit_or (lower 127 (f x)) (f x)) 128) in
    rw (
      and_each f low p (λ (x : ℕ) h. lit< tt) xs k,
      sums (λ (x : ℕ). bit_and (f x) 127) low xs,
      or_each (λ (x : ℕ). lower 127 (f x)) f s p xs k,
      and_each (λ (x : ℕ). bit_or (lower 127 (f x)) (f x)) high o (λ (x : ℕ) h. lit< tt) xs k,
      xor_each (λ (x : ℕ). bit_and (bit_or (lower 127 (f x)) (f x)) 128) high a (λ (x : ℕ) h. lit< tt) xs k,
    )

zero_mark : (x : ℕ) → x < 256 → zeros 127 128 x ≡ pick (other 0 x) 0 128
zero_mark = equal (zeros 127 128) (λ (x : ℕ). pick (other 0 x) 0 128) 256 refl

-- bytes that do not differ give 0, and no others do
zero_same : (x b : ℕ) → bit_xor x b ≡ 0 → x ≡ b
zero_same x b e = omega (arith, xor_add_and x b, and_le_l x b, and_le_r x b)

differ_zero : (x b : ℕ) → eqb (bit_xor x b) 0 ≡ eqb x b
differ_zero x b = go (eqb x b) refl
  where
    go : (t : Bool) → eqb x b ≡ t → eqb (bit_xor x b) 0 ≡ t
    go true e = eq-eqb (bit_xor x b) 0 (ap (λ (n : ℕ). bit_xor x n) (sym (eqb-true x b e)) ∙ xor_self x)
    go false e = ne_eqb (bit_xor x b) 0 (λ z. eqb-false x b e (zero_same x b z))

-- ---- which bytes stand outside a range: `from` lifts its first byte to the top bit, and `past` the byte behind its last

abbrev pub outside : ℕ → ℕ → ℕ → ℕ → ℕ → ℕ
outside low from past high n = bit_and (bit_or (bit_xor (bit_xor (bit_and n low + from) (bit_and n low + past)) high) n) high

module _ (from past : ℕ) (small_from : from ≤ 128) (small_past : past ≤ 128) (class : ℕ → Bool)
    (mark : (x : ℕ) → x < 256 → outside 127 from past 128 x ≡ pick (class x) 0 128) where
  outside_each : (xs : List ℕ) → Bytes xs
      → outside (each (λ (x : ℕ). 127) xs) (each (λ (x : ℕ). from) xs) (each (λ (x : ℕ). past) xs) (each (λ (x : ℕ). 128) xs) (number xs) ≡ marks class xs
  outside_each xs k =
      let high : ℕ → ℕ = λ (x : ℕ). 128 in
      let self : ℕ → ℕ = λ (x : ℕ). x in
      let within_range : ℕ → ℕ = λ (x : ℕ). bit_xor (lower from x) (lower past x) in
      let flipped : ℕ → ℕ = λ (x : ℕ). bit_xor (within_range x) 128 in
      let w : Small within_range = λ (x : ℕ) h. xor_lt 8 (lower from x) (lower past x) (lower_small from small_from x h) (lower_small past small_past x h) in
      let f : Small flipped = λ (x : ℕ) h. xor_lt 8 (within_range x) 128 (w x h) (lit< tt) in
      let o : Small (λ (x : ℕ). bit_or (flipped x) x) = λ (x : ℕ) h. or_lt 8 (flipped x) x (f x h) h in
      rw (
        and_each self (λ (x : ℕ). 127) (λ (x : ℕ) h. h) (λ (x : ℕ) h. lit< tt) xs k,
        sums (λ (x : ℕ). bit_and x 127) (λ (x : ℕ). from) xs,
        sums (λ (x : ℕ). bit_and x 127) (λ (x : ℕ). past) xs,
        xor_each (lower from) (lower past) (lower_small from small_from) (lower_small past small_past) xs k,
        xor_each within_range high w (λ (x : ℕ) h. lit< tt) xs k,
        or_each flipped self f (λ (x : ℕ) h. h) xs k,
        and_each (λ (x : ℕ). bit_or (flipped x) x) high o (λ (x : ℕ) h. lit< tt) xs k,
      )
      (alike (outside 127 from past 128) (λ (x : ℕ). pick (class x) 0 128) mark xs k)

-- ---- equal numbers are equal bytes

-- the first byte is what is left over by 256
by_number : (xs ys : List ℕ) → Bytes xs → Bytes ys → length xs ≡ length ys → number xs ≡ number ys → xs ≡ ys
unfolding Bytes
by_number [] [] h k l e = refl
by_number [] (y ∷ ys) h k l e = absurd (omega arith)
by_number (x ∷ xs) [] h k l e = absurd (omega arith)
by_number (x ∷ xs) (y ∷ ys) h k l e =
    let first : x ≡ y = omega (arith, h.0, k.0) in
    cc (first, by_number xs ys h.1 k.1 (omega arith) (omega (arith, first)))

same_number : (xs ys : List ℕ) → Bytes xs → Bytes ys → length xs ≡ length ys → eqb (number xs) (number ys) ≡ same_bytes xs ys
same_number xs ys h k l = go (same_bytes xs ys) refl
  where
    go : (t : Bool) → same_bytes xs ys ≡ t → eqb (number xs) (number ys) ≡ t
    go true t = eq-eqb (number xs) (number ys) (ap number (same_eq xs ys t))
    go false t = ne_eqb (number xs) (number ys) (λ e. false≢true (sym t ∙ (ap (same_bytes xs) (sym (by_number xs ys h k l e)) ∙ same_refl xs)))

-- ---- the eight bytes from a place on

module _ (a : List ℕ) (at : ℕ) (known : (i : ℕ) → get_or a i 0 < 256) where
  bytes : Bytes (eight a at)
  unfolding Bytes
  bytes = (known at, (known (at + 1), (known (at + 2), (known (at + 3), (known (at + 4), (known (at + 5), (known (at + 6), (known (at + 7), tt))))))))

  pub found : (b : ℕ) → b < 256 → zeros 0x7f7f7f7f7f7f7f7f 0x8080808080808080 (bit_xor (number (eight a at)) (0x0101010101010101 * b)) ≡ marks (other b) (eight a at)
  found b h =
      let xs = eight a at in
      let differ : ℕ → ℕ = λ (x : ℕ). bit_xor x b in
      let small : Small differ = λ (x : ℕ) k. xor_lt 8 x b k h in
      let b8 : 0x0101010101010101 * b ≡ each (λ (x : ℕ). b) xs = omega arith in
      ap (λ (n : ℕ). zeros 0x7f7f7f7f7f7f7f7f 0x8080808080808080 (bit_xor (number xs) n)) b8
      ∙ ap (zeros 0x7f7f7f7f7f7f7f7f 0x8080808080808080) (xor_each (λ (x : ℕ). x) (λ (x : ℕ). b) (λ (x : ℕ) k. k) (λ (x : ℕ) k. h) xs bytes)
      ∙ zeros_each differ small xs bytes
      ∙ alike (λ (x : ℕ). zeros 127 128 (differ x)) (λ (x : ℕ). pick (other b x) 0 128)
      (λ (x : ℕ) k. zero_mark (differ x) (small x k) ∙ ap (λ (t : Bool). pick (not t) 0 128) (differ_zero x b)) xs bytes

  pub found_others : outside 0x7f7f7f7f7f7f7f7f 0x3f3f3f3f3f3f3f3f 0x2525252525252525 0x8080808080808080 (number (eight a at)) ≡ marks capital (eight a at)
  found_others =
      outside_each 63 37 (lit≤ tt) (lit≤ tt) capital
      (equal (outside 127 63 37 128) (λ (x : ℕ). pick (capital x) 0 128) 256 refl) (eight a at) bytes

  -- a range that ends at 127 has no byte behind it that is lifted
  pub found_uncommon : outside 0x7f7f7f7f7f7f7f7f 0x6060606060606060 0 0x8080808080808080 (number (eight a at)) ≡ marks common (eight a at)
  found_uncommon =
      outside_each 96 0 (lit≤ tt) (lit≤ tt) common
      (equal (outside 127 96 0 128) (λ (x : ℕ). pick (common x) 0 128) 256 refl) (eight a at) bytes

pub both_eights : (a b : List ℕ) (at : ℕ) → ((i : ℕ) → get_or a i 0 < 256) → ((i : ℕ) → get_or b i 0 < 256)
    → eqb (number (eight a at)) (number (eight b at)) ≡ same_bytes (eight a at) (eight b at)
both_eights a b at known-a known-b = same_number (eight a at) (eight b at) (bytes a at known-a) (bytes b at known-b) refl

-- they stand at the front of what follows the place
next : (a : List ℕ) (i j : ℕ) → i < length a → j ≡ suc i → {xs : List ℕ} → drop j a ≡ xs → drop i a ≡ get_or a i 0 ∷ xs
next a i j h e r = drop-cons a i 0 h ∙ ap (λ (n : ℕ). get_or a i 0 ∷ drop n a) (sym e) ∙ ap (λ (ys : List ℕ). get_or a i 0 ∷ ys) r

in_front : (a : List ℕ) (at : ℕ) → at + 8 ≤ length a → drop at a ≡ eight a at ++ drop (at + 8) a
in_front a at h =
    next a at (at + 1) (omega arith) (omega arith)
    (next a (at + 1) (at + 2) (omega arith) (omega arith)
    (next a (at + 2) (at + 3) (omega arith) (omega arith)
    (next a (at + 3) (at + 4) (omega arith) (omega arith)
    (next a (at + 4) (at + 5) (omega arith) (omega arith)
    (next a (at + 5) (at + 6) (omega arith) (omega arith)
    (next a (at + 6) (at + 7) (omega arith) (omega arith)
    (next a (at + 7) (at + 8) (omega arith) (omega arith) refl)))))))

eight_more : (a : List ℕ) (at : ℕ) → at + 8 ≤ length a → take (at + 8) a ≡ take at a ++ eight a at
eight_more a at h =
    take-add at 8 a
    ∙ ap (λ (zs : List ℕ). take at a ++ take 8 zs) (in_front a at h)
    ∙ ap (λ (zs : List ℕ). take at a ++ zs) (take-append_seam (eight a at) (drop (at + 8) a))

-- two texts begin with the same bytes and the next eight are the same: they begin with the same eight more
pub eight_same : (a b : List ℕ) (at : ℕ) → at + 8 ≤ length a → at + 8 ≤ length b → take at a ≡ take at b
    → same_bytes (eight a at) (eight b at) ≡ true → take (at + 8) a ≡ take (at + 8) b
eight_same a b at h k e t =
    let s : eight a at ≡ eight b at = same_eq (eight a at) (eight b at) t in
    eight_more a at h ∙ (rw (e, s) (sym (eight_more b at k)))

-- the next eight differ: so does what is left
pub eight_differ : (a b : List ℕ) (at : ℕ) → at + 8 ≤ length a → at + 8 ≤ length b
    → same_bytes (eight a at) (eight b at) ≡ false → same_bytes (drop at a) (drop at b) ≡ false
eight_differ a b at h k e = rw (in_front a at h, in_front b at k) (differ_in_front (eight a at) (eight b at) (drop (at + 8) a) (drop (at + 8) b) refl e)

-- ---- the first mark tells how long the run is

-- as many zeros as a number was shifted by stand below its own
shifted_zeros : (j d a : ℕ) → count_trailing_zeros (j + d) (a * 2 ^ j) ≡ j + count_trailing_zeros d a
unfolding count_trailing_zeros
shifted_zeros zero d a = rw (zero-add, zero-add, mul-one)
shifted_zeros (suc j) d a = rw (suc-add, suc-add, shifted_even a j, shifted_half a j) (ap suc (shifted_zeros j d a))

unmarked : (d n : ℕ) → count_trailing_zeros (8 + d) (256 * n) ≡ 8 + count_trailing_zeros d n
unmarked d n = ap (count_trailing_zeros (8 + d)) (omega arith) ∙ shifted_zeros 8 d n

marked : (d n : ℕ) → count_trailing_zeros (8 + d) (128 + 256 * n) ≡ 7
unfolding count_trailing_zeros
marked d n =
    let size : 8 + d ≡ 7 + suc d = omega arith in
    let odd : 128 + 256 * n ≡ (1 + 2 * n) * 2 ^ 7 = omega arith in
    let one : (1 + 2 * n) % 2 ≡ 1 = omega arith in
    rw (size, odd) (shifted_zeros 7 (suc d) (1 + 2 * n) ∙ rw one)

module _ (class : ℕ → Bool) where
  first_mark : (xs : List ℕ) → count_trailing_zeros (8 * length xs) (marks class xs) / 8 ≡ run class xs
  unfolding run count_trailing_zeros
  first_mark [] = refl
  first_mark (x ∷ xs) = go (class x) (first_mark xs)
    where
      size : 8 * suc (length xs) ≡ 8 + 8 * length xs
      size = omega arith

      go : (t : Bool) → count_trailing_zeros (8 * length xs) (marks class xs) / 8 ≡ run class xs
          → count_trailing_zeros (8 * suc (length xs)) (pick t 0 128 + 256 * marks class xs) / 8 ≡ pick t (suc (run class xs)) 0
      go true e = rw (size, zero-add, unmarked (8 * length xs) (marks class xs)) (omega (arith, e))
      go false e = rw (size, marked (8 * length xs) (marks class xs))

  -- a whole run has no mark
  no_mark : (xs : List ℕ) → run class xs ≡ length xs → marks class xs ≡ 0
  unfolding run
  no_mark [] e = refl
  no_mark (x ∷ xs) e = go (class x) e (no_mark xs)
    where
      go : (t : Bool) → pick t (suc (run class xs)) 0 ≡ suc (length xs) → (run class xs ≡ length xs → marks class xs ≡ 0)
          → pick t 0 128 + 256 * marks class xs ≡ 0
      go true e rest = omega (arith, rest (omega arith))
      go false e rest = absurd (omega arith)

module _ (class : ℕ → Bool) (a : List ℕ) (at : ℕ) (h : at + 8 ≤ length a) (m : ℕ) (e : m ≡ marks class (eight a at)) where
  told : count_trailing_zeros 64 m / 8 ≡ run class (eight a at)
  told = ap (λ (n : ℕ). count_trailing_zeros 64 n / 8) e ∙ first_mark class (eight a at)

  pub at_most : count_trailing_zeros 64 m / 8 ≤ 8
  at_most = omega (arith, told, within class (eight a at))

  short : (m ≡ 0 → ⊥) → run class (eight a at) < 8
  short some =
      let never : run class (eight a at) ≡ 8 → ⊥ = λ w. some (e ∙ no_mark class (eight a at) w) in
      omega (arith, within class (eight a at), never)

  pub ends_here : (m ≡ 0 → ⊥) → run class (drop at a) ≡ count_trailing_zeros 64 m / 8
  ends_here some = ap (run class) (in_front a at h) ∙ ends_inside class (eight a at) (drop (at + 8) a) (short some) ∙ sym told

  pub goes_on : m ≡ 0 → run class (drop at a) ≡ 8 + run class (drop (at + 8) a)
  goes_on none =
      let full : run class (eight a at) ≡ 8 = sym told ∙ ap (λ (n : ℕ). count_trailing_zeros 64 n / 8) none ∙ ap (λ (n : ℕ). n / 8) (trailing_of_zero 64) in
      ap (run class) (in_front a at h) ∙ through class (eight a at) (drop (at + 8) a) full

  -- any mark at all: the run ends inside the eight
  pub any_mark : not (eqb m 0) ≡ ltb (run class (drop at a)) 8
  any_mark = go (eqb m 0) refl
    where
      go : (t : Bool) → eqb m 0 ≡ t → not t ≡ ltb (run class (drop at a)) 8
      go true t = sym (le-ltb (run class (drop at a)) 8 (omega (arith, goes_on (eqb-true m 0 t))))
      go false t =
          let some = eqb-false m 0 t in
          sym (lt-ltb (run class (drop at a)) 8 (omega (arith, ends_here some, told, short some)))

-- ---- a loop over eights for whether n bytes from a place on are of a class: those before i are, and it may look past the n

module _ (class : ℕ → Bool) (a : List ℕ) (at n : ℕ) where
  pub record Passed (i : ℕ) : Type 0 where
    pub left : i + run class (drop (at + i) a) ≡ run class (drop at a)

  pub passed_none : Passed 0
  passed_none = record { left = zero-add _ ∙ ap (λ (k : ℕ). run class (drop k a)) (add-zero at) }

  module _ {i : ℕ} (r : Passed i) where
    pub passed_all : n ≤ i → true ≡ leb n (run class (drop at a))
    passed_all h = sym (le-leb n (run class (drop at a)) (omega (arith, r.left)))

    module _ (h : at + i + 8 ≤ length a) (m : ℕ) (e : m ≡ marks class (eight a (at + i))) where
      pub passed_more : m ≡ 0 → Passed (i + 8)
      passed_more none =
          let f : at + i + 8 ≡ at + (i + 8) = omega arith in
          record { left = omega (arith, r.left, rw f at (goes_on class a (at + i) h m e none)) }

      pub passed_some : (m ≡ 0 → ⊥) → i < n → {first : ℕ} → first ≡ count_trailing_zeros 64 m / 8 → leb (n - i) first ≡ leb n (run class (drop at a))
      passed_some some l {first} f = go (leb (n - i) first) refl
        where
          ends : run class (drop at a) ≡ i + first
          ends = omega (arith, r.left, ends_here class a (at + i) h m e some)

          go : (t : Bool) → leb (n - i) first ≡ t → t ≡ leb n (run class (drop at a))
          go true t = sym (le-leb n (run class (drop at a)) (omega (arith, ends, leb-true (n - i) first t)))
          go false t = sym (lt-leb n (run class (drop at a)) (omega (arith, ends, leb-false (n - i) first t)))
