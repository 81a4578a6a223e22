-- A walk through the components in their order: what the cursor has passed, and what a window holds. Assumes nothing.
use mathlib.Core.Path.{◌≡◌, ◌∙◌}
use mathlib.Core.Bool.{true}
use mathlib.Core.List.{List}
use Prim.Native.Nat.{ℕ, ◌+◌, ◌≤◌, ◌<◌, zero-le}
use native.Mathlib.Nat.{le_refl}
use native.Mathlib.Omega.{arith}
use lib.ListN.{length, drop}
use borrow.Author.Tests.{ltb-true, lt-ltb}
use Rattle.tables.specs.Fronts.{front}
use Rattle.tables.specs.declared.ComponentRow.{ComponentRow}
use Rattle.tables.specs.declared.PropertyRow.{PropertyRow}
use Rattle.tables.specs.declared.ParameterRow.{ParameterRow}
use Rattle.tables.proofs.Fronts.{passed, wider, rises}
use Rattle.walking.specs.declared.Cursor.{Cursor}
use Rattle.walking.specs.Walk.{end_of, owned_before, owned_within, held_before, window_first, in_order, Reached, Holds}
use Rattle.walking.proofs.Windows.{window_inside, earlier, complete}

owned_wider : (row row' : ℕ) → row ≤ row' → (p : PropertyRow) → owned_before row p ≡ true → owned_before row' p ≡ true
owned_wider row row' h p e = lt-ltb p.owner row' (omega (arith, ltb-true p.owner row e))

held_wider : (property property' : ℕ) → property ≤ property' → (p : ParameterRow) → held_before property p ≡ true → held_before property' p ≡ true
held_wider property property' h p e = lt-ltb p.property property' (omega (arith, ltb-true p.property property e))

-- the windows of later components begin no earlier
pub first_rises : (properties : List PropertyRow) (row row' : ℕ) → row ≤ row' → window_first properties row ≤ window_first properties row'
first_rises properties row row' h = rises (owned_before row) (owned_before row') (owned_wider row row' h) properties

-- and so do the parameters of later properties
pub held_rises : (parameters : List ParameterRow) (property property' : ℕ) → property ≤ property'
    → front (held_before property) parameters ≤ front (held_before property') parameters
held_rises parameters property property' h = rises (held_before property) (held_before property') (held_wider property property' h) parameters

module _ (properties : List PropertyRow) (parameters : List ParameterRow) where
  pub reached_start : Reached properties parameters (record { property = 0; parameter = 0 }) 0
  reached_start = record { property = zero-le; parameter = zero-le }

  pub reached_on : {cursor : Cursor} {row : ℕ} (row' : ℕ) → Reached properties parameters cursor row → row ≤ row' → Reached properties parameters cursor row'
  reached_on {cursor} {row} row' so h = record { property = omega (arith, so.property, first_rises properties row row' h); parameter = so.parameter }

  module _ (components : List ComponentRow) {cursor : Cursor} {row : ℕ} (so : Reached properties parameters cursor row) {p q end : ℕ}
      (first : p ≡ cursor.property + front (owned_before row) (drop cursor.property properties))
      (held : q ≡ cursor.parameter + front (held_before p) (drop cursor.parameter parameters))
      (ended : end ≡ end_of components row)
    where
      first_is : p ≡ window_first properties row
      first_is = first ∙ passed (owned_before row) cursor.property properties so.property

      held_is : q ≡ front (held_before p) parameters
      held_is =
          held
          ∙ wider (held_before cursor.property) (held_before p) (held_wider cursor.property p (omega arith)) cursor.parameter parameters so.parameter

      -- the cursor there
      pub comes_to : Reached properties parameters (record { property = p; parameter = q }) row
      comes_to = record { property = omega (arith, first_is); parameter = omega (arith, held_is) }

      pub holds_all : Holds components properties parameters row
          (record { first = 0; last = length properties; parameter = 0; end = end; cursor = record { property = p; parameter = q } })
      holds_all =
          record {
            first = zero-le;
            last = le_refl _;
            before = λ i d h. absurd (omega arith);
            behind = λ i d h l. absurd (omega arith);
            parameter = zero-le;
            end = ended;
            reached = comes_to;
          }

      pub holds_window : {last : ℕ} → in_order components properties ≡ true → row < length components
          → last ≡ p + front (owned_within row end) (drop p properties)
          → Holds components properties parameters row (record { first = p; last = last; parameter = q; end = end; cursor = record { property = p; parameter = q } })
      holds_window {last} ordered h e =
          let there : last ≡ window_first properties row + front (owned_within row (end_of components row)) (drop (window_first properties row) properties) =
          rw (← first_is, ← ended) e
          in
          record {
            first = omega arith;
            last = omega (arith, window_inside components properties row);
            before = λ i d l. earlier components properties row i d (omega (arith, first_is));
            behind = λ i d l k o. omega (arith, (complete components properties ordered row i d h k o).last);
            parameter = omega (arith, held_is);
            end = ended;
            reached = comes_to;
          }
