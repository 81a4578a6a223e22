-- A text that was written is read back: in both modes its value is fine, and stands for the text. Assumes nothing.
use mathlib.Core.Path.{◌≡◌, refl, sym, ap, ◌∙◌, subst}
use mathlib.Core.Bool.{Bool, true, false, not, ◌||◌}
use mathlib.Core.List.{List, [], ◌∷◌}
use Prim.Native.Nat.{ℕ, suc, ◌≤◌}
use native.Mathlib.Omega.{arith}
use lib.ListN.{length}
use lib.Dec.{eqb}
use borrow.Author.Tests.{eqb-true, le-leb, not-false}
use Rattle.octets.specs.Bytes.{lf, comma, semicolon}
use Rattle.octets.specs.Laid.{laid}
use Rattle.octets.specs.Answers.{longest, done, output, out_after}
use Rattle.octets.specs.declared.Output.{Output}
use Rattle.escapes.specs.Text.{backslash, escapable, meant, fine, escapes_fine, text_of, safe, letter, as_value}
use Rattle.escapes.specs.Answers.{text_answer, text_out}
use Rattle.escapes.specs.declared.Mode.{Mode}
use Rattle.escapes.proofs.Reading.{fine_plain, fine_escape, text_plain, text_escape}
use Rattle.escapes.proofs.Writing.{value_safe, value_unsafe}

-- ---- one byte

-- a byte that is n or passes another test
pub or_else : (P : ℕ → Type 0) (x n : ℕ) (rest : Bool) → eqb x n || rest ≡ true → P n → (rest ≡ true → P x) → P x
or_else P x n rest e here later = go (eqb x n) refl e
  where
    go : (t : Bool) → eqb x n ≡ t → t || rest ≡ true → P x
    go true p e = subst P (sym (eqb-true x n p)) here
    go false p e = later e

-- a byte that wants a backslash is one of four
one_of : (P : ℕ → Type 0) (x : ℕ) → safe x ≡ false → P backslash → P semicolon → P comma → P lf → P x
one_of P x e b s c l =
    or_else P x backslash _ (not-false _ e) b
    (λ e. or_else P x semicolon _ e s (λ e. or_else P x comma _ e c (λ e. subst P (sym (eqb-true x lf e)) l)))

-- what is written behind the backslash stands for the byte
pub meant_letter : (x : ℕ) → safe x ≡ false → meant (letter x) ≡ x
meant_letter x e = one_of (λ (y : ℕ). meant (letter y) ≡ y) x e refl refl refl refl

-- and a backslash may stand before it
pub letter_fine : (mode : Mode) (x : ℕ) → safe x ≡ false → escapable mode (letter x) ≡ true
letter_fine Mode.Strict x e = one_of (λ (y : ℕ). escapable Mode.Strict (letter y) ≡ true) x e refl refl refl refl
letter_fine Mode.Repository x e = one_of (λ (y : ℕ). escapable Mode.Repository (letter y) ≡ true) x e refl refl refl refl

-- a byte that is written as it is is no backslash
pub safe_plain : (x : ℕ) → safe x ≡ true → eqb x backslash ≡ false
safe_plain x e = go (eqb x backslash) (eqb x semicolon || (eqb x comma || eqb x lf)) e
  where
    go : (t u : Bool) → not (t || u) ≡ true → t ≡ false
    go true u e = sym e
    go false u e = refl

-- ---- a text

pub read_back : (text : List ℕ) → text_of (as_value text) ≡ text
unfolding text_of as_value
read_back [] = refl
read_back (x ∷ xs) = go (safe x) refl (read_back xs)
  where
    go : (t : Bool) → safe x ≡ t → text_of (as_value xs) ≡ xs → text_of (as_value (x ∷ xs)) ≡ x ∷ xs
    go true e rest = ap text_of (value_safe x xs e) ∙ (text_plain x (as_value xs) (safe_plain x e) ∙ ap (◌∷◌ x) rest)
    go false e rest =
        ap text_of (value_unsafe x xs e) ∙ (text_escape (letter x ∷ as_value xs) (omega arith) ∙ rw (meant_letter x e, rest))

all_fine : (mode : Mode) (text : List ℕ) → fine mode (as_value text) ≡ length (as_value text)
unfolding fine as_value
all_fine mode [] = refl
all_fine mode (x ∷ xs) = go (safe x) refl (all_fine mode xs)
  where
    go : (t : Bool) → safe x ≡ t → fine mode (as_value xs) ≡ length (as_value xs) → fine mode (as_value (x ∷ xs)) ≡ length (as_value (x ∷ xs))
    go true e rest = rw (value_safe x xs e) (fine_plain mode x (as_value xs) (safe_plain x e) ∙ ap suc rest)
    go false e rest = rw (value_unsafe x xs e) (omega (arith, fine_escape mode (letter x ∷ as_value xs) (letter_fine mode x e) (omega arith), rest))

pub fine_back : (mode : Mode) (text : List ℕ) → escapes_fine mode (as_value text) ≡ true
fine_back mode text = le-leb (length (as_value text)) (fine mode (as_value text)) (omega (arith, all_fine mode text))

-- ---- in answers: what was written within the limit is read into any buffer that the text fits

pub returned : (mode : Mode) (text : List ℕ) (room : ℕ) → length text ≤ longest → length (as_value text) ≤ longest → length text ≤ room
    → text_answer mode (as_value text) room ≡ output done 0 (length text)
returned mode text room h k l = rw (le-leb (length (as_value text)) longest k, fine_back mode text, read_back text, le-leb (length text) room l)

pub returned_out : (mode : Mode) (text old : List ℕ) → length text ≤ longest → length (as_value text) ≤ longest → length text ≤ length old
    → text_out mode (as_value text) old ≡ laid text old
returned_out mode text old h k l =
    ap (λ (told : Output). out_after told (text_of (as_value text)) old) (returned mode text (length old) h k l) ∙ ap (λ (xs : List ℕ). laid xs old) (read_back text)
