-- The three tables, one after the other, by the numbers of their rows. Assumes nothing.
use mathlib.Core.Path.{◌≡◌, refl, sym, ◌∙◌}
use mathlib.Core.List.{[]}
use Prim.Native.Nat.{ℕ, ◌+◌, ◌/◌}
use lib.ListN.{length}
use borrow.Author.Tests.{eq-eqb, ne_eqb}
use Rattle.std.specs.Prelude.{Option, Some, None, MatchOption}
use Rattle.tables.specs.Rows.{component_size, property_size, component_at, property_at}
use Rattle.tables.specs.TableRule.{broken_component, broken_property, broken_parameter, or_else, broken}
use Rattle.tables.specs.Lent.{Lent, components_in, properties_in, parameters_in, broken_in}
use Rattle.tables.proofs.Laws.{length_rows}

-- the first of two answers, or else the second
pub or_next : {P : Type 0} (a r next : Option ℕ) → (P → r ≡ next) → MatchOption a P (λ x. r ≡ Some x) → r ≡ or_else a next
or_next None r next same h = same h
or_next (Some x) r next same h = h

regroup : (a b c : Option ℕ) → or_else (or_else a b) c ≡ or_else a (or_else b c)
regroup None b c = refl
regroup (Some x) b c = refl

module _ (b : Lent) (n : ℕ) (count : n ≡ length b.components / component_size) where
  rows : length (components_in b.components) ≡ n
  rows = length_rows component_size component_at b.components ∙ sym count

  pub no_component : n ≡ 0 → Some 0 ≡ broken_in b
  unfolding broken
  no_component z = rw (eq-eqb (length (components_in b.components)) 0 (rows ∙ z))

  pub in_turn : (n ≡ 0 → ⊥) → (m : ℕ) → m ≡ length b.properties / property_size → (one two three : Option ℕ)
      → one ≡ broken_component (length b.text) 0 [] (components_in b.components)
      → two ≡ or_else one (broken_property (length b.text) n n (properties_in b.properties))
      → three ≡ or_else two (broken_parameter (length b.text) m (n + m) 0 (parameters_in b.parameters)) → three ≡ broken_in b
  unfolding broken
  in_turn some m owned one two three f g h =
      rw (h, g, f, regroup, rows, ne_eqb n 0 some, length_rows property_size property_at b.properties, owned)
