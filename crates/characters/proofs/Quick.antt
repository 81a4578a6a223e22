-- Laws of the look: what passes it is UTF-8 without control bytes; and the loop that takes it. Assumes nothing.
use mathlib.Core.Path.{◌≡◌, refl, sym, ap, ◌∙◌}
use mathlib.Core.Bool.{Bool, true, false, not, ◌&&◌, ◌||◌, and_assoc, or-false, or-true, false≢true}
use mathlib.Core.List.{List, [], ◌∷◌}
use Prim.Native.Nat.{ℕ, zero, suc, ◌+◌, ◌-◌, ◌≤◌, ◌<◌}
use native.Mathlib.Numerals.{add-one}
use native.Mathlib.Omega.{arith}
use lib.ListN.{length, get_or, drop, drop_of_length-le}
use lib.Seq.{drop-cons}
use lib.Dec.{leb, ltb, eqb}
use borrow.Author.Tests.{le-leb, lt-leb, leb-true, leb-false, ltb-true, ltb-false, eqb-true, eqb-false, ne_eqb, not-true}
use Rattle.octets.specs.Choice.{pick}
use Rattle.octets.specs.Bytes.{between, common, ascii, other}
use Rattle.octets.specs.Runs.{run, only}
use Rattle.octets.proofs.Bools.{both, either, neither}
use Rattle.octets.proofs.Runs.{whole_wider}
use Rattle.characters.specs.Units.{tail}
use Rattle.characters.specs.Utf8.{utf8_three, is_utf8}
use Rattle.characters.specs.Grammar.{Utf8, no_octet, a_char}
use Rattle.characters.specs.Quick.{shown, asked, begins, barred, beside, looked, common_text}
use Rattle.characters.proofs.Utf8.{utf8_exactly}

-- ---- the loop, which has tried the bytes before the place i

-- one byte: it is tried, and so are those behind it
looked_turn : (b c : ℕ) (xs : List ℕ) (i : ℕ) → i < length xs
    → looked b c (drop i xs) ≡ beside b c (get_or xs i 0) && looked c (get_or xs i 0) (drop (i + 1) xs)
unfolding looked
looked_turn b c xs i h = rw (drop-cons xs i 0 h, add-one)

pub record Looks (xs : List ℕ) (fine : Bool) (i : ℕ) : Type 0 where
  pub inside : i ≤ length xs
  pub some : 2 ≤ i
  pub left : fine && looked (get_or xs (i - 2) 0) (get_or xs (i - 1) 0) (drop i xs) ≡ common_text xs

pub looks_start : (xs : List ℕ) → 2 ≤ length xs → Looks xs (beside 0 0 (get_or xs 0 0) && beside 0 (get_or xs 0 0) (get_or xs 1 0)) 2
looks_start xs h = record {
  inside = h;
  some = omega arith;
  left =
      rw (le-leb 2 (length xs) h)
      (and_assoc (beside 0 0 (get_or xs 0 0)) (beside 0 (get_or xs 0 0) (get_or xs 1 0)) (looked (get_or xs 0 0) (get_or xs 1 0) (drop 2 xs))
      ∙ sym (looked_turn 0 0 xs 0 (omega arith) ∙ ap (λ (t : Bool). beside 0 0 (get_or xs 0 0) && t) (looked_turn 0 (get_or xs 0 0) xs 1 (omega arith))));
}

module _ {xs : List ℕ} {fine : Bool} {i : ℕ} (l : Looks xs fine i) where
  pub looks_more : i < length xs → Looks xs (fine && beside (get_or xs (i - 2) 0) (get_or xs (i - 1) 0) (get_or xs i 0)) (i + 1)
  looks_more h =
      let b = get_or xs (i - 2) 0 in
      let c = get_or xs (i - 1) 0 in
      let x = get_or xs i 0 in
      let first : i + 1 - 2 ≡ i - 1 = omega (arith, l.some) in
      let second : i + 1 - 1 ≡ i = omega arith in
      record {
        inside = omega arith;
        some = omega (arith, l.some);
        left = rw (first, second) (and_assoc fine (beside b c x) (looked c x (drop (i + 1) xs)) ∙ (ap (λ (t : Bool). fine && t) (sym (looked_turn b c xs i h)) ∙ l.left));
      }

  pub looks_all : length xs ≤ i → fine && not (asked (get_or xs (length xs - 2) 0) (get_or xs (length xs - 1) 0)) ≡ common_text xs
  unfolding looked
  looks_all h = let e : i ≡ length xs = omega (arith, l.inside) in rw e at (rw (drop_of_length-le xs h) at l.left)

-- ---- a byte that passes

-- where none is asked for, a byte begins a character; where one is, it is a tail that the byte before it takes
beside_begins : (b c x : ℕ) → asked b c ≡ false → beside b c x ≡ true → begins x ≡ true
beside_begins b c x a e = (both (begins x) (not (eqb c (barred x))) (rw a at e)).0

beside_tail : (b c x : ℕ) → asked b c ≡ true → beside b c x ≡ true → (tail x ≡ true) × (eqb c (barred x) ≡ false)
beside_tail b c x a e =
    let g = both (tail x || false) (not (eqb c (barred x))) (rw a at e) in
    (sym (or-false (tail x)) ∙ g.0, not-true (eqb c (barred x)) g.1)

-- a byte below 194 asks for none behind one below 224, and no others do so
rests : (b c : ℕ) → b < 224 → c < 194 → asked b c ≡ false
rests b c h k = rw (lt-leb 194 c k, lt-leb 224 b h)

rested : (b c : ℕ) → asked b c ≡ false → c < 194
rested b c a = leb-false 194 c (neither (leb 194 c) a).0

tail_rests : (b x : ℕ) → b < 224 → tail x ≡ true → asked b x ≡ false
tail_rests b x h e = rests b x h (omega (arith, leb-true x 191 (both (leb 128 x) (leb x 191) e).1))

-- no text ends where a tail is asked for
no_end : (b c : ℕ) → asked b c ≡ true → not (asked b c) ≡ true → ⊥
no_end b c a e = false≢true (sym (not-true (asked b c) e) ∙ a)

-- ---- a text that passes is UTF-8

-- three bytes that pass are a character
three_pass : (x y z : ℕ) → between 224 239 x ≡ true → tail y ≡ true → eqb x (barred y) ≡ false → tail z ≡ true → utf8_three x y z ≡ true
three_pass x y z e t a u = go (ltb y 160) refl a
  where
    range : (leb 224 x ≡ true) × (leb x 239 ≡ true)
    range = both (leb 224 x) (leb x 239) e

    tails : (leb 128 y ≡ true) × (leb y 191 ≡ true)
    tails = both (leb 128 y) (leb y 191) t

    -- E1 to EC, EE and EF take every tail
    upper : (h : Bool) → leb x 236 ≡ h → eqb x 224 ≡ false → eqb x 237 ≡ false → utf8_three x y z ≡ true
    upper true o p q = rw (p, le-leb 225 x (omega (arith, leb-true 224 x range.0, eqb-false x 224 p)), o, t, u)
    upper false o p q =
        let h = leb-false x 236 o in
        rw (p, o, q, le-leb 225 x (omega arith), le-leb 238 x (omega (arith, eqb-false x 237 q)), range.1, t, u)

    first : (f : Bool) → eqb x 224 ≡ f → eqb x 237 ≡ false → 160 ≤ y → utf8_three x y z ≡ true
    first true p q h = rw (p, le-leb 160 y h, tails.1, u)
    first false p q h = upper (leb x 236) refl p q

    last : (f : Bool) → eqb x 237 ≡ f → eqb x 224 ≡ false → y < 160 → utf8_three x y z ≡ true
    last true q p h =
        let s : x ≡ 237 = eqb-true x 237 q in
        rw (p, q, lt-leb x 236 (omega (arith, s)), le-leb 225 x (omega (arith, s)), tails.0, le-leb y 159 (omega arith), u)
    last false q p h = upper (leb x 236) refl p q

    go : (f : Bool) → ltb y 160 ≡ f → eqb x (pick f 224 237) ≡ false → utf8_three x y z ≡ true
    go true p a = last (eqb x 237) refl a (ltb-true y 160 p)
    go false p a = first (eqb x 224) refl a (ltb-false y 160 p)

module _ (n : ℕ) (shorter : (b c : ℕ) (xs : List ℕ) → length xs ≤ n → asked b c ≡ false → looked b c xs ≡ true → Utf8 xs) where
  -- a character of one byte
  one : (c x : ℕ) (xs : List ℕ) → length xs ≤ n → c < 194 → common x ≡ true → looked c x xs ≡ true → Utf8 (x ∷ xs)
  one c x xs h k e l =
      let a : ascii x ≡ true = (both (leb 32 x) (leb x 127) e).1 in
      a_char (x ∷ []) a (shorter c x xs h (rests c x (omega (arith, k)) (omega (arith, leb-true x 127 a))) l)

  -- the third byte of a character, and what follows
  third : (x y : ℕ) (xs : List ℕ) → length xs ≤ n → between 224 239 x ≡ true → tail y ≡ true → eqb x (barred y) ≡ false → looked x y xs ≡ true → Utf8 (x ∷ y ∷ xs)
  unfolding looked
  third x y [] h e t s l = absurd (no_end x y (rw (both (leb 224 x) (leb x 239) e).0 (or-true (leb 194 y))) l)
  third x y (z ∷ zs) h e t s l =
      let g = both (beside x y z) (looked y z zs) l in
      let u = (beside_tail x y z (rw (both (leb 224 x) (leb x 239) e).0 (or-true (leb 194 y))) g.0).0 in
      let k = leb-true y 191 (both (leb 128 y) (leb y 191) t).1 in
      a_char (x ∷ y ∷ z ∷ []) (three_pass x y z e t s u) (shorter y z zs (omega arith) (tail_rests y z (omega arith) u) g.1)

  -- the second, and what follows
  second : (c x : ℕ) (xs : List ℕ) → length xs ≤ n → between 194 239 x ≡ true → looked c x xs ≡ true → Utf8 (x ∷ xs)
  unfolding looked
  second c x [] h e l = absurd (no_end c x (rw (both (leb 194 x) (leb x 239) e).0) l)
  second c x (y ∷ ys) h e l =
      let r = both (leb 194 x) (leb x 239) e in
      let g = both (beside c x y) (looked x y ys) l in
      let t = beside_tail c x y (rw r.0) g.0 in
      go (leb 224 x) refl r.0 r.1 t.0 t.1 g.1
    where
      go : (f : Bool) → leb 224 x ≡ f → leb 194 x ≡ true → leb x 239 ≡ true → tail y ≡ true → eqb x (barred y) ≡ false → looked x y ys ≡ true → Utf8 (x ∷ y ∷ ys)
      go true p from to t s l = third x y ys (omega arith) (rw (p, to)) t s l
      go false p from to t s l =
          let k = leb-false 224 x p in
          a_char (x ∷ y ∷ []) (rw (from, le-leb x 223 (omega arith), t)) (shorter x y ys (omega arith) (tail_rests x y k t) l)

looked_utf8 : (n b c : ℕ) (xs : List ℕ) → length xs ≤ n → asked b c ≡ false → looked b c xs ≡ true → Utf8 xs
unfolding looked
looked_utf8 zero b c [] h a l = no_octet
looked_utf8 zero b c (x ∷ xs) h a l = absurd (omega arith)
looked_utf8 (suc n) b c [] h a l = no_octet
looked_utf8 (suc n) b c (x ∷ xs) h a l =
    let g = both (beside b c x) (looked c x xs) l in
    either (common x) (between 194 239 x) (λ e. one n (λ b c xs. looked_utf8 n b c xs) c x xs (omega arith) (rested b c a) e g.1)
    (λ e. second n (λ b c xs. looked_utf8 n b c xs) c x xs (omega arith) e g.1) (beside_begins b c x a g.0)

-- and so is every text that is seen to be common
pub common_utf8 : (xs : List ℕ) → common_text xs ≡ true → is_utf8 xs ≡ true
common_utf8 xs e = (utf8_exactly xs).1 (looked_utf8 (length xs) 0 0 xs (omega arith) refl (both (leb 2 (length xs)) (looked 0 0 xs) e).1)

-- ---- and has no control byte

beside_shown : (b c x : ℕ) → beside b c x ≡ true → shown x ≡ true
beside_shown b c x e =
    let g = (both ((asked b c && tail x) || (not (asked b c) && begins x)) (not (eqb c (barred x))) e).0 in
    either (asked b c && tail x) (not (asked b c) && begins x) (λ p. le-leb 32 x (omega (arith, leb-true 128 x (both (leb 128 x) (leb x 191) (both (asked b c) (tail x) p).1).0)))
    (λ p. either (common x) (between 194 239 x) (λ q. (both (leb 32 x) (leb x 127) q).0)
    (λ q. le-leb 32 x (omega (arith, leb-true 194 x (both (leb 194 x) (leb x 239) q).0))) (both (not (asked b c)) (begins x) p).1) g

looked_shown : (b c : ℕ) (xs : List ℕ) → looked b c xs ≡ true → run shown xs ≡ length xs
unfolding looked run
looked_shown b c [] l = refl
looked_shown b c (x ∷ xs) l =
    let g = both (beside b c x) (looked c x xs) l in
    rw (beside_shown b c x g.0) (ap suc (looked_shown c x xs g.1))

-- so what holds of every byte but those holds of all of the text
pub common_only : (class : ℕ → Bool) → ((x : ℕ) → shown x ≡ true → class x ≡ true) → (xs : List ℕ) → common_text xs ≡ true → only class xs ≡ true
common_only class wide xs e =
    le-leb (length xs) (run class xs)
    (omega (arith, whole_wider shown class wide xs (looked_shown 0 0 xs (both (leb 2 (length xs)) (looked 0 0 xs) e).1)))

pub shown_other : (b x : ℕ) → b < 32 → shown x ≡ true → other b x ≡ true
shown_other b x h e = ap not (ne_eqb x b (λ s. omega (arith, leb-true 32 x e)))
