-- The first property of a component, where it stands behind those of all earlier components. Assumes nothing.
use mathlib.Core.Path.{◌≡◌, sym, ◌∙◌}
use mathlib.Core.Bool.{Bool, true, false}
use mathlib.Core.List.{List, [], ◌∷◌}
use Prim.Native.Nat.{ℕ, ◌+◌, ◌≤◌, ◌<◌, ◌/◌}
use native.Mathlib.Omega.{arith}
use lib.ListN.{length, drop}
use borrow.Author.Tests.{eqb-true}
use Rattle.tables.specs.Rows.{property_size, property_at}
use Rattle.tables.specs.Lent.{properties_in}
use Rattle.tables.specs.Fronts.{front}
use Rattle.tables.specs.Trees.{Property, property_of, properties_of, gather}
use Rattle.tables.specs.declared.PropertyRow.{PropertyRow}
use Rattle.tables.specs.declared.ParameterRow.{ParameterRow}
use Rattle.tables.proofs.Laws.{length_rows, row_here}
use Rattle.tables.proofs.Fronts.{passed}
use Rattle.tables.proofs.Gathered.{taken}
use Rattle.walking.specs.Walk.{owned_before, owned_by, stands, window_first}
use Rattle.walking.proofs.Found.{from_first}
use Rattle.walking.proofs.Windows.{earlier}
use Rattle.walking.proofs.Lockstep.{is_there, stands_there}
use Rattle.comparing.specs.Pieces.{same_parameters}
use Rattle.matching.specs.Alike.{alike, same_property_by}
use Rattle.matching.proofs.Alike.{by_key_and_value, first_other}
use Rattle.matching.proofs.Rows.{alike_rows}

module _ (words : List ℕ) where
  -- a property of the component that is found from a cursor on, which has not passed the place behind those of all earlier components
  pub record Leads (row from property : ℕ) : Type 0 where
    pub reached : from ≤ window_first (properties_in words) row
    pub found : property ≡ from + front (owned_before row) (drop from (properties_in words))
    pub own : stands property_size property_at (owned_by row) words property ≡ true

module _ (text words : List ℕ) (parameters : List ParameterRow) where
  module _ {row from property : ℕ} (so : Leads words row from property) where
    there : property < length words / property_size
    there = is_there property_size property_at (owned_by row) words property so.own

    first : property ≡ window_first (properties_in words) row
    first = so.found ∙ passed (owned_before row) from (properties_in words) so.reached

    abbrev rest : List Property
    rest = gather (λ (p : PropertyRow). p.owner) (λ n p rest. property_of text parameters n p ∷ rest) [] row (property + 1) (drop (property + 1) (properties_in words))

    -- the properties of the component begin with it
    begins : properties_of text (properties_in words) parameters row ≡ property_of text parameters property (property_at words property) ∷ rest
    begins =
        from_first (λ (p : PropertyRow). p.owner) (λ n p rest. property_of text parameters n p ∷ rest) [] row (properties_in words) property
        (omega (arith, there, length_rows property_size property_at words))
        (λ i d l. earlier [] (properties_in words) row i d (omega (arith, first)))
        ∙ taken (λ (p : PropertyRow). p.owner) (λ n p rest. property_of text parameters n p ∷ rest) [] row property
        (drop property (properties_in words)) (drop (property + 1) (properties_in words)) (property_at words property)
        (row_here property_size property_at words property there)
        (eqb-true (property_at words property).owner row (stands_there property_size property_at (owned_by row) words property there ∙ so.own))

  -- components whose first properties differ in key or value have different properties, whatever test compares values
  pub fronts_differ : (values : List ℕ → List ℕ → Bool) {one other from from' a b : ℕ} → Leads words one from a → Leads words other from' b
      → alike_rows values text (property_at words a) (property_at words b) ≡ false
      → alike (same_property_by values same_parameters) (properties_of text (properties_in words) parameters one) (properties_of text (properties_in words) parameters other) ≡ false
  fronts_differ values so so' e =
      sym (first_other (same_property_by values same_parameters) _ _ _ _ _ _ (begins so) (begins so') (rw (by_key_and_value values same_parameters, e)))
