-- What is answered, one reason after the other, whatever test compares values. Assumes nothing.
use mathlib.Core.Path.{◌≡◌, refl, ap}
use mathlib.Core.Bool.{Bool, true, false}
use mathlib.Core.List.{List}
use Prim.Native.Nat.{ℕ, ◌/◌, ◌≤◌, ◌<◌}
use native.Mathlib.Omega.{arith}
use lib.ListN.{length}
use lib.Dec.{ltb}
use borrow.Author.Tests.{lt-ltb, le-ltb}
use Rattle.octets.specs.Choice.{pick}
use Rattle.octets.specs.Answers.{done, bad_table}
use Rattle.tables.specs.Rows.{component_size, component_at}
use Rattle.tables.specs.Lent.{Lent, held, broken_in, components_in}
use Rattle.tables.specs.declared.Tables.{Tables}
use Rattle.tables.proofs.Laws.{length_rows}
use Rattle.checking.specs.declared.Checked.{Checked}
use Rattle.std.specs.Result.{IsErr, IsErrAnd}
use Rattle.tables.specs.TableRule.{by_table_rule}
use Rattle.std.specs.Prelude.{Option, Some, None, Result, Ok, Err}
use Rattle.twins.specs.Answers.{compared, no_twins, rows_alike_by, compared_by, told as found_out}
use Rattle.twins.specs.declared.Compared.{Compared}

module _ (values : List ℕ → List ℕ → Bool) (b : Lent) (first second : ℕ) where
  abbrev rows : ℕ
  rows = length (components_in b.components)

  pub broken_row : {row : ℕ} → broken_in b ≡ Some row → compared_by values b first second ≡ compared bad_table row 0
  unfolding compared_by
  broken_row e = rw e

  module _ (sound : broken_in b ≡ None) where
    pub no_first : rows ≤ first → compared_by values b first second ≡ compared bad_table first 0
    unfolding compared_by
    no_first h = rw (sound, le-ltb first rows h)

    module _ (there : first < rows) where
      pub no_second : rows ≤ second → compared_by values b first second ≡ compared bad_table second 0
      unfolding compared_by
      no_second h = rw (sound, lt-ltb first rows there, le-ltb second rows h)

      pub told : second < rows → compared_by values b first second ≡ compared done 0 (pick (rows_alike_by values b first second) 1 0)
      unfolding compared_by
      told h = rw (sound, lt-ltb first rows there, lt-ltb second rows h)

-- the answer by what is found out first: a broken row, whether the numbers are rows, and the number of twins
abbrev answered : ℕ → ℕ → Option ℕ → Bool → Bool → ℕ → Compared
answered first second broken one other twins = by_table_rule no_twins broken (pick one (pick other (compared done 0 twins) (no_twins second)) (no_twins first))

-- the test of values decides about the number of twins alone: answer and place are the same by all of them
pub same_refusals : (values others : List ℕ → List ℕ → Bool) (b : Lent) (first second : ℕ) →
    ((compared_by values b first second).answer ≡ (compared_by others b first second).answer) × ((compared_by values b first second).place ≡ (compared_by others b first second).place)
unfolding compared_by
same_refusals values others b first second =
    go (broken_in b) (ltb first (length (components_in b.components))) (ltb second (length (components_in b.components)))
    (pick (rows_alike_by values b first second) 1 0) (pick (rows_alike_by others b first second) 1 0)
  where
    go : (f : Option ℕ) (t u : Bool) (n m : ℕ) →
        ((answered first second f t u n).answer ≡ (answered first second f t u m).answer) × ((answered first second f t u n).place ≡ (answered first second f t u m).place)
    go (Some row) t u n m = (refl, refl)
    go None false u n m = (refl, refl)
    go None true false n m = (refl, refl)
    go None true true n m = (refl, refl)

-- tables that were checked have no broken row
pub sound : (m : Checked) {t : Tables} → m.tables ≡ t → broken_in (held t) ≡ None
sound m e = rw (← e) m.meets

-- a number that is passed on is told
pub told_on : (r : Result Bool ℕ) {n : ℕ} → IsErr r → IsErrAnd r (λ k. k ≡ n) → found_out r ≡ no_twins n
told_on (Ok alike) e a = cc
told_on (Err k) e a = ap no_twins a

-- so many rows as are counted
pub counted : (words : List ℕ) {n : ℕ} → n ≡ length words / component_size → n ≡ length (components_in words)
counted words e = omega (arith, e, length_rows component_size component_at words)
