-- Laws of the table rule: the first broken row one row at a time, and no row is broken exactly where every row fits. Assumes nothing.
use mathlib.Core.Path.{◌≡◌, refl, ◌∙◌}
use mathlib.Core.Bool.{Bool, true, false}
use mathlib.Core.List.{List, [], ◌∷◌}
use Prim.Native.Nat.{ℕ, zero, suc, ◌+◌, ◌<◌, zero-le, suc-le-suc}
use native.Mathlib.Nat.{le_of_suc-le-suc, not-suc-le-zero}
use native.Mathlib.Omega.{arith}
use lib.ListN.{length, get_or}
use lib.Dec.{eqb}
use borrow.Author.Tests.{eqb-false, ne_eqb}
use Rattle.octets.specs.Choice.{pick}
use Rattle.tables.specs.TableRule.{first_broken, broken_component, broken_property, broken_parameter, or_else, broken}
use Rattle.tables.specs.declared.ComponentRow.{ComponentRow}
use Rattle.tables.specs.declared.PropertyRow.{PropertyRow}
use Rattle.tables.specs.declared.ParameterRow.{ParameterRow}
use Rattle.std.specs.Prelude.{Option, Some, None}

module _ {S A : Type 0} (fits : S → A → Bool) (after : ℕ → S → A → S) where
  pub on : (row : ℕ) (seen : S) (rows rest : List A) (x : A) → rows ≡ x ∷ rest → fits seen x ≡ true
      → first_broken fits after row seen rows ≡ first_broken fits after (row + 1) (after row seen x) rest
  unfolding first_broken
  on row seen rows rest x e t = rw (e, t)

  pub stop : (row : ℕ) (seen : S) (rows rest : List A) (x : A) → rows ≡ x ∷ rest → fits seen x ≡ false → first_broken fits after row seen rows ≡ Some row
  unfolding first_broken
  stop row seen rows rest x e t = rw (e, t)

  pub ended : (row : ℕ) (seen : S) (rows : List A) → rows ≡ [] → first_broken fits after row seen rows ≡ None
  unfolding first_broken
  ended row seen rows e = rw e

  -- where no row is broken the first fits, and none of the rest is broken
  pub first_fits : (row : ℕ) (seen : S) (x : A) (xs : List A) → first_broken fits after row seen (x ∷ xs) ≡ None
      → (fits seen x ≡ true) × (first_broken fits after (row + 1) (after row seen x) xs ≡ None)
  unfolding first_broken
  first_fits row seen x xs e = go (fits seen x) e
    where
      go : (t : Bool) → pick t (first_broken fits after (row + 1) (after row seen x) xs) (Some row) ≡ None
          → (t ≡ true) × (first_broken fits after (row + 1) (after row seen x) xs ≡ None)
      go true e = (refl, e)
      go false e = (cc, cc)

  -- what the i-th row sees of those before it
  unfoldable pub seen_at : ℕ → S → List A → ℕ → S
  seen_at row seen xs zero = seen
  seen_at row seen [] (suc i) = seen
  seen_at row seen (x ∷ xs) (suc i) = seen_at (row + 1) (after row seen x) xs i

  pub all_fit : (row : ℕ) (seen : S) (xs : List A) → first_broken fits after row seen xs ≡ None
      → (i : ℕ) (d : A) → i < length xs → fits (seen_at row seen xs i) (get_or xs i d) ≡ true
  unfolding seen_at
  all_fit row seen [] e i d h = absurd (not-suc-le-zero h)
  all_fit row seen (x ∷ xs) e zero d h = (first_fits row seen x xs e).0
  all_fit row seen (x ∷ xs) e (suc i) d h = all_fit (row + 1) (after row seen x) xs (first_fits row seen x xs e).1 i d (le_of_suc-le-suc h)

  pub none_broken : (row : ℕ) (seen : S) (xs : List A)
      → ((i : ℕ) (d : A) → i < length xs → fits (seen_at row seen xs i) (get_or xs i d) ≡ true) → first_broken fits after row seen xs ≡ None
  unfolding seen_at
  none_broken row seen [] fit = ended row seen [] refl
  none_broken row seen (x ∷ xs) fit =
      on row seen (x ∷ xs) xs x refl (fit 0 x (suc-le-suc zero-le))
      ∙ none_broken (row + 1) (after row seen x) xs (λ i d h. fit (suc i) d (suc-le-suc h))

-- what it means that three tables meet the rule
pub record Meets (text_length : ℕ) (components : List ComponentRow) (properties : List PropertyRow) (parameters : List ParameterRow) : Type 0 where
  pub some : 0 < length components
  pub components_fit : broken_component text_length 0 [] components ≡ None
  pub properties_fit : broken_property text_length (length components) (length components) properties ≡ None
  pub parameters_fit : broken_parameter text_length (length properties) (length components + length properties) 0 parameters ≡ None

or_left : (a b : Option ℕ) → or_else a b ≡ None → a ≡ None
or_left None b e = refl
or_left (Some n) b e = e

or_right : (a b : Option ℕ) → or_else a b ≡ None → b ≡ None
or_right None b e = e
or_right (Some n) b e = cc

module _ (text_length : ℕ) (components : List ComponentRow) (properties : List PropertyRow) (parameters : List ParameterRow) where
  pub meets : broken text_length components properties parameters ≡ None → Meets text_length components properties parameters
  unfolding broken
  meets e = go (eqb (length components) 0) refl e
    where
      c : Option ℕ
      c = broken_component text_length 0 [] components

      p : Option ℕ
      p = broken_property text_length (length components) (length components) properties

      q : Option ℕ
      q = broken_parameter text_length (length properties) (length components + length properties) 0 parameters

      go : (t : Bool) → eqb (length components) 0 ≡ t → pick t (Some 0) (or_else c (or_else p q)) ≡ None → Meets text_length components properties parameters
      go true z e = absurd (let w : ◌≡◌ {A = ℕ} 0 1 = cc in omega arith)
      go false z e =
          record {
            some = omega (arith, eqb-false (length components) 0 z);
            components_fit = or_left c (or_else p q) e;
            properties_fit = or_left p q (or_right c (or_else p q) e);
            parameters_fit = or_right p q (or_right c (or_else p q) e);
          }

  pub not_broken : Meets text_length components properties parameters → broken text_length components properties parameters ≡ None
  unfolding broken
  not_broken m = rw (ne_eqb (length components) 0 (λ e. omega arith), m.components_fit, m.properties_fit, m.parameters_fit)
