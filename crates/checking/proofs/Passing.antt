-- The rows of a table, one after the other: those that were passed fit, and the first broken one is to come. Assumes nothing.
use mathlib.Core.Path.{◌≡◌, sym, ◌∙◌}
use mathlib.Core.Bool.{Bool, true, false}
use mathlib.Core.List.{List, ◌∷◌}
use Prim.Native.Nat.{ℕ, ◌+◌, ◌/◌, ◌≤◌, ◌<◌}
use native.Mathlib.Nat.{add-zero, add_assoc}
use lib.ListN.{length, drop}
use Rattle.tables.specs.Rows.{rows_of}
use Rattle.tables.specs.TableRule.{first_broken}
use Rattle.std.specs.Prelude.{Some, None}
use Rattle.tables.proofs.Rule.{on, stop, ended}
use Rattle.tables.proofs.Laws.{row_here, rows_end}

-- before row i what is seen is `seen`, and the first broken row from there on is the first at all
pub record Passed {S A : Type 0} (fits : S → A → Bool) (after : ℕ → S → A → S) (size : ℕ) (at : List ℕ → ℕ → A) (table : List ℕ) (first : ℕ) (seen₀ : S) (i : ℕ) (seen : S) : Type 0 where
  pub is : first_broken fits after (first + i) seen (drop i (rows_of size at table)) ≡ first_broken fits after first seen₀ (rows_of size at table)

module _ {S A : Type 0} {fits : S → A → Bool} {after : ℕ → S → A → S} {size : ℕ} {at : List ℕ → ℕ → A} {table : List ℕ} {first : ℕ} {seen₀ : S} where
  pub start : Passed fits after size at table first seen₀ 0 seen₀
  start = record { is = rw add-zero }

  module _ {i : ℕ} {seen : S} (p : Passed fits after size at table first seen₀ i seen) where
    pub end : length table / size ≤ i → None ≡ first_broken fits after first seen₀ (rows_of size at table)
    end h = sym (ended fits after (first + i) seen (drop i (rows_of size at table)) (rows_end size at table i h)) ∙ p.is

    -- x is row i
    module _ (h : i < length table / size) {x : A} (e : x ≡ at table i) where
      here : drop i (rows_of size at table) ≡ x ∷ drop (i + 1) (rows_of size at table)
      here = rw e (row_here size at table i h)

      pub fitting : fits seen x ≡ true → Passed fits after size at table first seen₀ (i + 1) (after (first + i) seen x)
      fitting t =
          record {
            is =
                rw (← add_assoc first i 1)
                (sym (on fits after (first + i) seen (drop i (rows_of size at table)) (drop (i + 1) (rows_of size at table)) x here t) ∙ p.is);
          }

      pub breaking : fits seen x ≡ false → Some (first + i) ≡ first_broken fits after first seen₀ (rows_of size at table)
      breaking t = sym (stop fits after (first + i) seen (drop i (rows_of size at table)) (drop (i + 1) (rows_of size at table)) x here t) ∙ p.is
