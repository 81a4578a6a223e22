-- Laws of equal bytes, of equal words and of words at the front of a line, one byte at a time and behind what both begin with. Assumes nothing.
use mathlib.Core.Path.{◌≡◌, refl, sym, ap, ◌∙◌}
use mathlib.Core.Bool.{Bool, true, false, ◌&&◌, false≢true}
use mathlib.Core.List.{List, [], ◌∷◌, ◌++◌, map, map-append}
use Prim.Native.Nat.{ℕ, suc, ◌+◌, ◌≤◌, ◌<◌, zero-le, suc-le-suc}
use native.Mathlib.Numerals.{add-one}
use native.Mathlib.Omega.{arith}
use lib.ListN.{length, get_or, take, drop, drop_of_length-le, take-append-drop, length-map}
use lib.Seq.{drop-cons}
use lib.Dec.{eqb}
use borrow.Author.Tests.{eqb-true, eq-eqb}
use lib.Dec.{leb}
use lib.Pointwise.{pointwise}
use borrow.Author.Tests.{le-leb, le-ltb, lt-ltb, leb-true, leb-false}
use Rattle.std.specs.Char.{to_ascii_lowercase}
use Rattle.octets.specs.Bytes.{lowered}
use Rattle.octets.specs.Words.{same_bytes, same_word, starts_word}

-- lists of unlike lengths are not the same
pub unlike : (xs ys : List ℕ) → (length xs ≡ length ys → ⊥) → same_bytes xs ys ≡ false
unfolding same_bytes
unlike [] [] h = absurd (h refl)
unlike [] (y ∷ ys) h = refl
unlike (x ∷ xs) [] h = refl
unlike (x ∷ xs) (y ∷ ys) h = go (eqb x y) (unlike xs ys (λ e. h (ap suc e)))
  where
    go : (t : Bool) → same_bytes xs ys ≡ false → t && same_bytes xs ys ≡ false
    go true e = e
    go false e = refl

-- the test passes exactly where the lists are equal
pub same_eq : (xs ys : List ℕ) → same_bytes xs ys ≡ true → xs ≡ ys
unfolding same_bytes
same_eq [] [] e = refl
same_eq [] (y ∷ ys) e = cc
same_eq (x ∷ xs) [] e = cc
same_eq (x ∷ xs) (y ∷ ys) e = go (eqb x y) refl e (same_eq xs ys)
  where
    go : (t : Bool) → eqb x y ≡ t → t && same_bytes xs ys ≡ true → (same_bytes xs ys ≡ true → xs ≡ ys) → x ∷ xs ≡ y ∷ ys
    go true p q rest = cc (eqb-true x y p, rest q)
    go false p q rest = cc

pub same_refl : (xs : List ℕ) → same_bytes xs xs ≡ true
unfolding same_bytes
same_refl [] = refl
same_refl (x ∷ xs) = rw (eq-eqb x x refl) (same_refl xs)

-- what both begin with does not count
same_behind : (zs xs ys : List ℕ) → same_bytes (zs ++ xs) (zs ++ ys) ≡ same_bytes xs ys
unfolding same_bytes
same_behind [] xs ys = refl
same_behind (z ∷ zs) xs ys = rw (eq-eqb z z refl) (same_behind zs xs ys)

pub same_rest : (xs ys : List ℕ) (n : ℕ) → take n xs ≡ take n ys → same_bytes (drop n xs) (drop n ys) ≡ same_bytes xs ys
same_rest xs ys n e =
    sym (same_behind (take n xs) (drop n xs) (drop n ys))
    ∙ ap (λ (zs : List ℕ). same_bytes (take n xs ++ drop n xs) (zs ++ drop n ys)) e
    ∙ rw (take-append-drop n xs, take-append-drop n ys)

-- fronts of one length differ: so do the lists, whatever stands behind
pub differ_in_front : (xs ys us vs : List ℕ) → length xs ≡ length ys → same_bytes xs ys ≡ false → same_bytes (xs ++ us) (ys ++ vs) ≡ false
unfolding same_bytes
differ_in_front [] [] us vs l e = absurd (false≢true (sym e))
differ_in_front [] (y ∷ ys) us vs l e = absurd (omega arith)
differ_in_front (x ∷ xs) [] us vs l e = absurd (omega arith)
differ_in_front (x ∷ xs) (y ∷ ys) us vs l e = go (eqb x y) e (differ_in_front xs ys us vs (omega arith))
  where
    go : (t : Bool) → t && same_bytes xs ys ≡ false → (same_bytes xs ys ≡ false → same_bytes (xs ++ us) (ys ++ vs) ≡ false)
        → t && same_bytes (xs ++ us) (ys ++ vs) ≡ false
    go true p rest = rest p
    go false p rest = refl

-- equal bytes are equal in lower case
pub word_rest : (xs ys : List ℕ) (n : ℕ) → take n xs ≡ take n ys → same_word (drop n xs) (drop n ys) ≡ same_word xs ys
word_rest xs ys n e =
    sym (same_behind (map lowered (take n xs)) (map lowered (drop n xs)) (map lowered (drop n ys)))
    ∙ ap (λ (zs : List ℕ). same_bytes (map lowered (take n xs) ++ map lowered (drop n xs)) (map lowered zs ++ map lowered (drop n ys))) e
    ∙ rw (parts xs, parts ys)
  where
    parts : (zs : List ℕ) → map lowered (take n zs) ++ map lowered (drop n zs) ≡ map lowered zs
    parts zs = sym (map-append lowered (take n zs) (drop n zs)) ∙ ap (map lowered) (take-append-drop n zs)

-- words, letter by letter
pub word_turn : (xs ys : List ℕ) (i : ℕ) → i < length xs → i < length ys
    → same_word (drop i xs) (drop i ys) ≡ eqb (lowered (get_or xs i 0)) (lowered (get_or ys i 0)) && same_word (drop (i + 1) xs) (drop (i + 1) ys)
unfolding same_bytes
word_turn xs ys i h k = rw (drop-cons xs i 0 h, drop-cons ys i 0 k, add-one)

pub word_ended : (xs ys : List ℕ) (i : ℕ) → length xs ≤ i → length ys ≤ i → same_word (drop i xs) (drop i ys) ≡ true
unfolding same_bytes
word_ended xs ys i h k = rw (drop_of_length-le xs h, drop_of_length-le ys k)

pub equal_words : (xs ys : List ℕ) → same_bytes xs ys ≡ true → same_word xs ys ≡ true
equal_words xs ys e = ap (λ (zs : List ℕ). same_word zs ys) (same_eq xs ys e) ∙ same_refl (map lowered ys)

pub unlike_word : (xs ys : List ℕ) → (length xs ≡ length ys → ⊥) → same_word xs ys ≡ false
unlike_word xs ys h = unlike (map lowered xs) (map lowered ys) (λ e. h (sym (length-map xs lowered) ∙ (e ∙ length-map ys lowered)))

-- a line that starts with a word is at least as long
pub starts_length : (ws xs : List ℕ) → starts_word ws xs ≡ true → length ws ≤ length xs
unfolding starts_word
starts_length [] xs e = zero-le
starts_length (w ∷ ws) [] e = absurd (never e)
  where
    never : false ≡ true → ⊥
    never p = let z : ◌≡◌ {A = ℕ} 0 1 = cc in omega arith
starts_length (w ∷ ws) (x ∷ xs) e = go (eqb (lowered x) (lowered w)) e (starts_length ws xs)
  where
    go : (t : Bool) → t && starts_word ws xs ≡ true → (starts_word ws xs ≡ true → length ws ≤ length xs) → suc (length ws) ≤ suc (length xs)
    go true p rest = suc-le-suc (rest p)
    go false p rest = let z : ◌≡◌ {A = ℕ} 0 1 = cc in omega arith

-- ---- the same in the words of std

-- `==` of two slices
pub pointwise_same : (xs ys : List ℕ) → pointwise eqb xs ys ≡ same_bytes xs ys
unfolding same_bytes
pointwise_same [] [] = refl
pointwise_same [] (y ∷ ys) = refl
pointwise_same (x ∷ xs) [] = refl
pointwise_same (x ∷ xs) (y ∷ ys) = ap (λ (t : Bool). eqb x y && t) (pointwise_same xs ys)

pub small_letter : (x : ℕ) → to_ascii_lowercase x ≡ lowered x
small_letter x = go (leb 65 x) refl
  where
    capital : (t : Bool) → leb x 90 ≡ t → 65 ≤ x → to_ascii_lowercase x ≡ lowered x
    capital true e h = rw (le-ltb x 65 h, lt-ltb x 91 (omega (arith, leb-true x 90 e)), le-leb 65 x h, e)
    capital false e h = rw (le-ltb x 65 h, le-ltb x 91 (omega (arith, leb-false x 90 e)), le-leb 65 x h, e)

    go : (t : Bool) → leb 65 x ≡ t → to_ascii_lowercase x ≡ lowered x
    go true e = capital (leb x 90) refl (leb-true 65 x e)
    go false e = rw (lt-ltb x 65 (leb-false 65 x e), e)

pub small_letters : (xs : List ℕ) → map to_ascii_lowercase xs ≡ map lowered xs
small_letters [] = refl
small_letters (x ∷ xs) = cc (small_letter x, small_letters xs)

-- `eq_ignore_ascii_case`, whose answer t is known by what it means
pub same_small : (xs ys : List ℕ) {t : Bool} → (t ≡ true → map to_ascii_lowercase xs ≡ map to_ascii_lowercase ys)
    × (map to_ascii_lowercase xs ≡ map to_ascii_lowercase ys → t ≡ true) → t ≡ same_word xs ys
same_small xs ys {t} told = go t refl (same_word xs ys) refl
  where
    go : (u : Bool) → t ≡ u → (w : Bool) → same_word xs ys ≡ w → t ≡ same_word xs ys
    go true e w p =
        let q : map lowered xs ≡ map lowered ys = sym (small_letters xs) ∙ (told.0 e ∙ small_letters ys) in
        e ∙ sym (ap (λ (zs : List ℕ). same_bytes zs (map lowered ys)) q ∙ same_refl (map lowered ys))
    go false e true p = told.1 (small_letters xs ∙ (same_eq (map lowered xs) (map lowered ys) p ∙ sym (small_letters ys))) ∙ sym p
    go false e false p = e ∙ sym p

-- a word at the front of a line that is long enough is the same as the line's front
pub starts_front : (ws xs : List ℕ) → length ws ≤ length xs → same_word (take (length ws) xs) ws ≡ starts_word ws xs
unfolding same_bytes starts_word
starts_front [] xs h = refl
starts_front (w ∷ ws) [] h = absurd (omega arith)
starts_front (w ∷ ws) (x ∷ xs) h = ap (λ (t : Bool). eqb (lowered x) (lowered w) && t) (starts_front ws xs (omega arith))

pub starts_behind : (ws xs : List ℕ) → length xs < length ws → starts_word ws xs ≡ false
starts_behind ws xs h = go (starts_word ws xs) refl
  where
    go : (t : Bool) → starts_word ws xs ≡ t → starts_word ws xs ≡ false
    go true e = absurd (omega (arith, starts_length ws xs e))
    go false e = e
