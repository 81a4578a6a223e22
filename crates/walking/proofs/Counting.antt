-- How many properties are found in the windows of the first components, one component at a time. Assumes nothing.
use mathlib.Core.Path.{◌≡◌, refl, ◌∙◌}
use mathlib.Core.List.{List}
use Prim.Native.Nat.{ℕ, ◌+◌, ◌-◌, ◌≤◌, zero-le}
use native.Mathlib.Nat.{add-sub_cancel_left}
use native.Mathlib.Numerals.{add-one}
use native.Mathlib.Omega.{arith}
use lib.ListN.{length, take, drop}
use Rattle.tables.specs.Fronts.{front}
use Rattle.tables.specs.declared.ComponentRow.{ComponentRow}
use Rattle.tables.specs.declared.PropertyRow.{PropertyRow}
use Rattle.tables.proofs.Fronts.{passed}
use Rattle.walking.specs.Walk.{end_of, owned_before, owned_within, owned_by, window_first, window_count, window_rows, tally, found_below}
use Rattle.walking.proofs.Windows.{window_inside, few_found}
use Rattle.walking.proofs.Walks.{first_rises}

module _ (components : List ComponentRow) (properties : List PropertyRow) where
  -- so many are found in the windows before `row`, and no row before `first` is one of its own
  pub record Counted (found first row : ℕ) : Type 0 where
    pub sum : found ≡ found_below components properties row
    pub passed : first ≤ window_first properties row

  pub start : Counted 0 0 0
  unfolding found_below
  start = record { sum = refl; passed = zero-le }

  module _ {found first row : ℕ} (so : Counted found first row) {p end last : ℕ}
      (from : p ≡ first + front (owned_before row) (drop first properties))
      (ended : end ≡ end_of components row)
      (to : last ≡ p + front (owned_within row end) (drop p properties))
    where
      first_is : p ≡ window_first properties row
      first_is = from ∙ passed (owned_before row) first properties so.passed

      last_is : last ≡ window_first properties row + window_count components properties row
      last_is = rw (← first_is, ← ended) to

      pub inside : last ≤ length properties
      inside = omega (arith, last_is, window_inside components properties row)

      module _ {own : ℕ} (counted : own ≡ tally (owned_by row) (take (last - p) (drop p properties))) where
        own_is : own ≡ tally (owned_by row) (window_rows components properties row)
        own_is = counted ∙ rw (last_is, first_is, add-sub_cancel_left)

        more : found + own ≡ found_below components properties (row + 1)
        unfolding found_below
        more = rw (add-one, so.sum, own_is)

        pub fits : found + own ≤ length properties
        fits = omega (arith, more, few_found components properties (row + 1))

        pub one_more : Counted (found + own) p (row + 1)
        one_more = record { sum = more; passed = omega (arith, first_is, first_rises properties row (row + 1) (omega arith)) }
