-- The test of loose twins is an equivalence of values. No value that is read is like one that is refused, so a value that is read goes by its text and one
-- that is refused by its bytes, and these two never meet: `a\`, which is refused, is not like `a\\`, which is read as `a\`.
-- Assumes nothing.
use mathlib.Core.Path.{◌≡◌, refl, sym, ap, ◌∙◌}
use mathlib.Core.Bool.{Bool, true, false, ◌&&◌}
use mathlib.Core.List.{List, ◌∷◌}
use Prim.Native.Nat.{ℕ}
use native.Mathlib.Omega.{arith}
use Rattle.octets.specs.Choice.{pick}
use Rattle.octets.specs.Words.{same_bytes}
use Rattle.octets.proofs.Words.{same_eq}
use Rattle.tables.specs.Trees.{Trees}
use Rattle.escapes.specs.Text.{text_of}
use Rattle.escapes.specs.Loose.{strictly_read, same_text}
use Rattle.comparing.specs.Pieces.{same_parameters}
use Rattle.comparing.proofs.Equivalences.{Equivalence, of_bytes, of_parts}
use Rattle.matching.specs.Alike.{same_trees_by, same_trees}
use Rattle.matching.proofs.Alike.{trees_weaker}

-- what a value goes by, behind a byte that tells whether it is read
abbrev goes_by : List ℕ → List ℕ
goes_by v = pick (strictly_read v) (1 ∷ text_of v) (0 ∷ v)

-- a value that is read has other bytes than one that is refused
other_bytes : (v w : List ℕ) → (strictly_read v ≡ strictly_read w → ⊥) → same_bytes v w ≡ false
other_bytes v w h = go (same_bytes v w) refl
  where
    go : (t : Bool) → same_bytes v w ≡ t → t ≡ false
    go true e = absurd (h (ap (λ (x : List ℕ). strictly_read x) (same_eq v w e)))
    go false e = refl

-- two values are like as texts exactly if they go by the same
by_same : (v w : List ℕ) → same_text v w ≡ same_bytes (goes_by v) (goes_by w)
unfolding same_bytes
by_same v w = go (strictly_read v) refl (strictly_read w) refl
  where
    go : (t : Bool) → strictly_read v ≡ t → (u : Bool) → strictly_read w ≡ u
        → pick (t && u) (same_bytes (text_of v) (text_of w)) (same_bytes v w) ≡ same_bytes (pick t (1 ∷ text_of v) (0 ∷ v)) (pick u (1 ∷ text_of w) (0 ∷ w))
    go true e true f = refl
    go true e false f = other_bytes v w (λ x. let z : ◌≡◌ {A = ℕ} 0 1 = cc in omega arith)
    go false e true f = other_bytes v w (λ x. let z : ◌≡◌ {A = ℕ} 0 1 = cc in omega arith)
    go false e false f = refl

pub of_texts : Equivalence same_text
of_texts =
    let s = of_parts goes_by of_bytes in
    record {
      itself = λ v. by_same v v ∙ s.itself v;
      turned = λ v w e. by_same w v ∙ s.turned v w (sym (by_same v w) ∙ e);
      joined = λ v w x e f. by_same v x ∙ s.joined v w x (sym (by_same v w) ∙ e) (sym (by_same w x) ∙ f);
    }

-- equal values are alike as texts, so trees that the twin test passes, that of loose twins passes too
pub twins_are_loose : (a b : Trees) → same_trees a b ≡ true → same_trees_by same_text same_parameters a b ≡ true
twins_are_loose = trees_weaker equal_alike same_parameters
  where
    equal_alike : (v w : List ℕ) → same_bytes v w ≡ true → same_text v w ≡ true
    equal_alike v w e = rw (same_eq v w e) (of_texts.itself w)
