-- The parameters of two properties as runs of rows. Assumes nothing.
use mathlib.Core.Path.{◌≡◌, sym, ◌∙◌}
use mathlib.Core.Bool.{true, false}
use mathlib.Core.List.{List}
use Prim.Native.Nat.{ℕ, ◌+◌, ◌-◌, ◌/◌, ◌≤◌, ◌<◌}
use native.Mathlib.Omega.{arith}
use lib.ListN.{length, take, drop, length-drop, length-map}
use lib.Seq.{length-take-le}
use Rattle.tables.specs.Rows.{parameter_size, parameter_at}
use Rattle.tables.specs.Lent.{parameters_in}
use Rattle.tables.specs.Trees.{Parameter, parameter_of}
use Rattle.tables.specs.Fronts.{front, belongs, own_parameters}
use Rattle.tables.proofs.Laws.{length_rows}
use Rattle.tables.proofs.Fronts.{within}
use Rattle.comparing.specs.Multisets.{as_often}
use Rattle.comparing.specs.Pieces.{same_parameters}
use Rattle.comparing.specs.Runs.{same_runs}
use Rattle.comparing.proofs.Multisets.{other_length}
use Rattle.comparing.proofs.Pieces.{of_parameter}
use Rattle.matching.specs.declared.Held.{Held}

module _ (table : List ℕ) where
  -- how many rows a property has
  abbrev pub rows : Held → ℕ
  rows h = front (belongs h.property) (drop h.first (parameters_in table))

  inside : (h : Held) → rows h ≤ length table / parameter_size - h.first
  inside h = omega (arith, within (belongs h.property) (drop h.first (parameters_in table)), length-drop h.first (parameters_in table), length_rows parameter_size parameter_at table)

  -- if there are any, they lie in the table
  pub rows_there : (h : Held) {count : ℕ} → count ≡ rows h → 0 < count → h.first + count ≤ length table / parameter_size
  rows_there h e l = omega (arith, e, l, inside h)

  module _ (text : List ℕ) where
    abbrev pub own : Held → List Parameter
    own h = own_parameters text h.property h.first (parameters_in table)

    length_own : (h : Held) → length (own h) ≡ rows h
    length_own h =
        length-map (take (rows h) (drop h.first (parameters_in table))) (parameter_of text)
        ∙ length-take-le (rows h) (drop h.first (parameters_in table)) (within (belongs h.property) (drop h.first (parameters_in table)))

    module _ (a b : Held) where
      -- not equally many
      pub other_count : (rows b ≡ rows a → ⊥) → false ≡ same_parameters (own a) (own b)
      other_count h = sym (other_length of_parameter (own a) (own b) (λ e. h (sym (length_own b) ∙ (sym e ∙ length_own a))))

      module _ {count : ℕ} (e : count ≡ rows a) (f : rows b ≡ count) where
        -- both have none
        pub no_rows : count ≡ 0 → true ≡ same_parameters (own a) (own b)
        unfolding as_often
        no_rows z = rw (sym e ∙ z, f ∙ z)

        -- both have `count`
        pub as_runs : same_runs text table a.first b.first count ≡ same_parameters (own a) (own b)
        as_runs = rw (f, sym e)
