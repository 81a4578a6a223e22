-- Two values read side by side, a byte of their texts at a time, and what that tells of values alike as texts. Assumes nothing.
use mathlib.Core.Path.{◌≡◌, refl, sym, ap, ◌∙◌}
use mathlib.Core.Bool.{Bool, true, false, ◌&&◌, ◌||◌}
use mathlib.Core.List.{List, [], ◌∷◌}
use Prim.Native.Nat.{ℕ, suc, ◌<◌}
use native.Mathlib.Omega.{arith}
use lib.ListN.{length}
use lib.Dec.{eqb, leb, ltb}
use borrow.Author.Tests.{eq-eqb, ne_eqb, le-leb, leb-true, leb-false, ltb-true, ltb-false, lt-leb}
use Rattle.octets.specs.Choice.{pick}
use Rattle.octets.specs.Answers.{longest}
use Rattle.octets.specs.Words.{same_bytes}
use Rattle.octets.proofs.Words.{unlike, same_eq, same_refl}
use Rattle.escapes.specs.Text.{fine, escapes_fine, text_of}
use Rattle.escapes.specs.Loose.{strictly_read, same_text}
use Rattle.escapes.specs.Turns.{Unit, read_alike}
use Rattle.escapes.specs.declared.Mode.{Mode}
use Rattle.escapes.proofs.Reading.{some_text}

-- ---- one byte of each text

-- a value is fine if the rest of it is
fine_on : {mode : Mode} {value rest : List ℕ} {byte : ℕ} → Unit mode value byte rest → escapes_fine mode value ≡ escapes_fine mode rest
fine_on {mode} {value} {rest} u = go (leb (length rest) (fine mode rest)) refl
  where
    go : (t : Bool) → leb (length rest) (fine mode rest) ≡ t → leb (length value) (fine mode value) ≡ t
    go true t = le-leb (length value) (fine mode value) (omega (arith, u.onward, leb-true (length rest) (fine mode rest) t))
    go false t = lt-leb (length value) (fine mode value) (omega (arith, u.onward, leb-false (length rest) (fine mode rest) t))

-- bytes that agree or not, and then the rest
pair_turn : {mode : Mode} {v w more others : List ℕ} {x y : ℕ} → Unit mode v x more → Unit mode w y others
    → read_alike mode v w ≡ eqb x y && read_alike mode more others
unfolding same_bytes
pair_turn {mode} {v} {w} {more} {others} {x} {y} one other =
    rw (fine_on one, fine_on other, one.text, other.text)
    (swap (escapes_fine mode more && escapes_fine mode others) (eqb x y) (same_bytes (text_of more) (text_of others)))
  where
    swap : (a b c : Bool) → a && (b && c) ≡ b && (a && c)
    swap true b c = refl
    swap false true c = refl
    swap false false c = refl

module _ {mode : Mode} {v w more others : List ℕ} {x y : ℕ} {t : Bool} (s : read_alike mode v w ≡ t)
    (one : Unit mode v x more) (other : Unit mode w y others) where
  pub pair_differs : (x ≡ y → ⊥) → false ≡ t
  pair_differs h = sym (rw (ne_eqb x y h) at (pair_turn one other)) ∙ s

  pub pair_more : x ≡ y → read_alike mode more others ≡ t
  pair_more h = sym (rw (eq-eqb x y h) at (pair_turn one other)) ∙ s

-- ---- no byte of one of them: at its end, or at a backslash that begins no escape

unlike_texts : (t : Bool) (xs ys : List ℕ) → (length xs ≡ length ys → ⊥) → false ≡ t && same_bytes xs ys
unlike_texts true xs ys h = sym (unlike xs ys h)
unlike_texts false xs ys h = refl

empty : (mode : Mode) → true ≡ read_alike mode [] []
unfolding fine text_of same_bytes
empty mode = refl

no_text : length (text_of []) ≡ 0
unfolding text_of
no_text = refl

stuck : (mode : Mode) (v : List ℕ) → fine mode v ≡ 0 → 0 < length v → escapes_fine mode v ≡ false
stuck mode v e h = lt-leb (length v) (fine mode v) (omega arith)

pub ends_one : (mode : Mode) (v w : List ℕ) → fine mode v ≡ 0 → eqb (length v) 0 && eqb (length w) 0 ≡ read_alike mode v w
ends_one mode [] [] e = empty mode
ends_one mode [] (y ∷ ys) e =
    ne_eqb (suc (length ys)) 0 (λ h. omega arith)
    ∙ unlike_texts (escapes_fine mode [] && escapes_fine mode (y ∷ ys)) (text_of []) (text_of (y ∷ ys))
    (λ h. omega (arith, h, some_text (y ∷ ys) (omega arith), no_text))
ends_one mode (x ∷ xs) w e =
    rw (stuck mode (x ∷ xs) e (omega arith)) (ap (λ (t : Bool). t && eqb (length w) 0) (ne_eqb (suc (length xs)) 0 (λ h. omega arith)))

pub ends_other : (mode : Mode) (v w : List ℕ) → fine mode w ≡ 0 → eqb (length v) 0 && eqb (length w) 0 ≡ read_alike mode v w
ends_other mode [] [] e = empty mode
ends_other mode (x ∷ xs) [] e =
    ap (λ (t : Bool). t && true) (ne_eqb (suc (length xs)) 0 (λ h. omega arith))
    ∙ unlike_texts (escapes_fine mode (x ∷ xs) && escapes_fine mode []) (text_of (x ∷ xs)) (text_of [])
    (λ h. omega (arith, h, some_text (x ∷ xs) (omega arith), no_text))
ends_other mode v (y ∷ ys) e =
    rw (stuck mode (y ∷ ys) e (omega arith))
    (ap (λ (t : Bool). eqb (length v) 0 && t) (ne_eqb (suc (length ys)) 0 (λ h. omega arith)) ∙ go (eqb (length v) 0) (escapes_fine mode v))
  where
    go : (t u : Bool) → t && false ≡ (u && false) && same_bytes (text_of v) (text_of (y ∷ ys))
    go true true = refl
    go true false = refl
    go false true = refl
    go false false = refl

-- ---- values alike as texts

module _ (v w : List ℕ) where
  pub alike_bytes : same_bytes v w ≡ true → true ≡ same_text v w
  alike_bytes e = rw (same_eq v w e) (go (strictly_read w && strictly_read w))
    where
      go : (t : Bool) → true ≡ pick t (same_bytes (text_of w) (text_of w)) (same_bytes w w)
      go true = sym (same_refl (text_of w))
      go false = sym (same_refl w)

  module _ (differ : same_bytes v w ≡ false) where
    pub alike_long : ltb longest (length v) || ltb longest (length w) ≡ true → false ≡ same_text v w
    alike_long e = go (ltb longest (length v)) refl (ltb longest (length w)) refl e
      where
        refused : (t : Bool) → t ≡ false → false ≡ pick t (same_bytes (text_of v) (text_of w)) (same_bytes v w)
        refused t f = rw f (sym differ)

        none : (a b c : Bool) → b ≡ false → a && (b && c) ≡ false
        none true b c e = rw e
        none false b c e = refl

        go : (t : Bool) → ltb longest (length v) ≡ t → (u : Bool) → ltb longest (length w) ≡ u → t || u ≡ true → false ≡ same_text v w
        go true e u f g = refused (strictly_read v && strictly_read w) (rw (lt-leb (length v) longest (ltb-true longest (length v) e)))
        go false e true f g =
            refused (strictly_read v && strictly_read w)
            (none (strictly_read v) (leb (length w) longest) (escapes_fine Mode.Strict w) (lt-leb (length w) longest (ltb-true longest (length w) f)))
        go false e false f g = absurd (let z : ◌≡◌ {A = ℕ} 0 1 = cc in omega arith)

    pub alike_read : ltb longest (length v) || ltb longest (length w) ≡ false → read_alike Mode.Strict v w ≡ same_text v w
    alike_read e = go (ltb longest (length v)) refl (ltb longest (length w)) refl e
      where
        told : (t : Bool) → t && same_bytes (text_of v) (text_of w) ≡ pick t (same_bytes (text_of v) (text_of w)) (same_bytes v w)
        told true = refl
        told false = sym differ

        go : (t : Bool) → ltb longest (length v) ≡ t → (u : Bool) → ltb longest (length w) ≡ u → t || u ≡ false → read_alike Mode.Strict v w ≡ same_text v w
        go true e u f g = absurd (let z : ◌≡◌ {A = ℕ} 0 1 = cc in omega arith)
        go false e true f g = absurd (let z : ◌≡◌ {A = ℕ} 0 1 = cc in omega arith)
        go false e false f g =
            rw (le-leb (length v) longest (ltb-false longest (length v) e), le-leb (length w) longest (ltb-false longest (length w) f))
            (told (escapes_fine Mode.Strict v && escapes_fine Mode.Strict w))
