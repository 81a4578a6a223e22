-- What is defined reads just what the grammar has, and writes what it reads so. Assumes nothing.
use mathlib.Core.Path.{◌≡◌, refl, sym, ap, subst, ◌∙◌}
use mathlib.Core.Bool.{Bool, true, false, ◌||◌}
use mathlib.Core.List.{List, [], ◌∷◌}
use mathlib.Core.Logic.{◌↔◌}
use Prim.Native.Nat.{ℕ, suc, ◌≤◌, zero-le}
use native.Mathlib.Nat.{not-suc-le-zero, le_of_suc-le-suc}
use native.Mathlib.Omega.{arith}
use lib.ListN.{length}
use lib.Dec.{eqb}
use borrow.Author.Tests.{eqb-true, eqb-false, ne_eqb, leb-true, le-leb}
use Rattle.octets.specs.Choice.{pick}
use Rattle.octets.specs.Bytes.{comma, colon, semicolon}
use Rattle.escapes.specs.Text.{backslash, small_n, capital_n, escaped, escapable, meant, fine, escapes_fine, text_of, as_value}
use Rattle.escapes.specs.Grammar.{Escape, a_backslash, a_semicolon, a_comma, as_small_n, as_capital_n, a_colon, StandsFor, no_byte, a_byte, an_escape}
use Rattle.escapes.specs.declared.Mode.{Mode}
use Rattle.escapes.proofs.Reading.{fine_plain, fine_escape, text_plain, text_escape}
use Rattle.escapes.proofs.Returning.{or_else, read_back, fine_back}

-- ---- an escape

in_both : (mode : Mode) (y : ℕ) → escaped y ≡ true → escapable mode y ≡ true
in_both Mode.Strict y e = e
in_both Mode.Repository y e = rw e

escape_means : (mode : Mode) {y b : ℕ} → Escape mode y b → (escapable mode y ≡ true) × (meant y ≡ b)
escape_means mode a_backslash = (in_both mode backslash refl, refl)
escape_means mode a_semicolon = (in_both mode semicolon refl, refl)
escape_means mode a_comma = (in_both mode comma refl, refl)
escape_means mode as_small_n = (in_both mode small_n refl, refl)
escape_means mode as_capital_n = (in_both mode capital_n refl, refl)
escape_means mode a_colon = (refl, refl)

strict_escape : {mode : Mode} (y : ℕ) → escaped y ≡ true → Escape mode y (meant y)
strict_escape {mode} y e =
    or_else P y backslash _ e a_backslash (λ e. or_else P y semicolon _ e a_semicolon (λ e. or_else P y comma _ e a_comma
    (λ e. or_else P y small_n _ e as_small_n (λ e. subst P (sym (eqb-true y capital_n e)) as_capital_n))))
  where
    P : ℕ → Type 0
    P x = Escape mode x (meant x)

escape_of : (mode : Mode) (y : ℕ) → escapable mode y ≡ true → Escape mode y (meant y)
escape_of Mode.Strict y e = strict_escape y e
escape_of Mode.Repository y e = go (escaped y) refl e
  where
    go : (t : Bool) → escaped y ≡ t → t || eqb y colon ≡ true → Escape Mode.Repository y (meant y)
    go true p e = strict_escape y p
    go false p e = subst (λ (x : ℕ). Escape Mode.Repository x (meant x)) (sym (eqb-true y colon e)) a_colon

-- ---- a value

said : {mode : Mode} {value text : List ℕ} → StandsFor mode value text → (length value ≤ fine mode value) × (text_of value ≡ text)
unfolding fine text_of
said no_byte = (zero-le, refl)
said {mode} (a_byte {x} {value} {text} n r) =
    let e : eqb x backslash ≡ false = ne_eqb x backslash n in
    (omega (arith, fine_plain mode x value e, (said r).0), text_plain x value e ∙ ap (◌∷◌ x) (said r).1)
said {mode} (an_escape {y} {b} {value} {text} e r) = (
  omega (arith, fine_escape mode (y ∷ value) (escape_means mode e).0 (omega arith), (said r).0),
  text_escape (y ∷ value) (omega arith) ∙ rw ((escape_means mode e).1, (said r).1),
)

found : (mode : Mode) (value : List ℕ) → length value ≤ fine mode value → StandsFor mode value (text_of value)
unfolding fine text_of
found mode [] h = no_byte
found mode (x ∷ []) h = go (eqb x backslash) refl h
  where
    go : (t : Bool) → eqb x backslash ≡ t → 1 ≤ pick t 0 1 → StandsFor mode (x ∷ []) (x ∷ [])
    go true e h = absurd (not-suc-le-zero h)
    go false e h = a_byte (eqb-false x backslash e) no_byte
found mode (x ∷ (y ∷ ys)) h = go (eqb x backslash) refl (escapable mode y) refl h (found mode ys) (found mode (y ∷ ys))
  where
    go : (t : Bool) → eqb x backslash ≡ t → (u : Bool) → escapable mode y ≡ u
        → suc (suc (length ys)) ≤ pick t (pick u (suc (suc (fine mode ys))) 0) (suc (fine mode (y ∷ ys)))
        → (length ys ≤ fine mode ys → StandsFor mode ys (text_of ys)) → (suc (length ys) ≤ fine mode (y ∷ ys) → StandsFor mode (y ∷ ys) (text_of (y ∷ ys)))
        → StandsFor mode (x ∷ (y ∷ ys)) (pick t (meant y ∷ text_of ys) (x ∷ text_of (y ∷ ys)))
    go true e true f h rest later =
        subst (λ (z : ℕ). StandsFor mode (z ∷ (y ∷ ys)) (meant y ∷ text_of ys)) (sym (eqb-true x backslash e))
        (an_escape (escape_of mode y f) (rest (le_of_suc-le-suc (le_of_suc-le-suc h))))
    go true e false f h rest later = absurd (not-suc-le-zero h)
    go false e u f h rest later = a_byte (eqb-false x backslash e) (later (le_of_suc-le-suc h))

-- a value is fine and has this text exactly where the grammar reads it so
pub reads : (mode : Mode) (value text : List ℕ) → ((escapes_fine mode value ≡ true) × (text_of value ≡ text)) ↔ StandsFor mode value text
reads mode value text = (
  λ w. subst (StandsFor mode value) w.1 (found mode value (leb-true (length value) (fine mode value) w.0)),
  λ r. (le-leb (length value) (fine mode value) (said r).0, (said r).1),
)

-- and so is each text in the value that is written for it
pub written_reads : (mode : Mode) (text : List ℕ) → StandsFor mode (as_value text) text
written_reads mode text = (reads mode (as_value text) text).0 (fine_back mode text, read_back text)
