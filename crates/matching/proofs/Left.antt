-- A walk through the properties of a component: what is left of them, one turn later, and at the start. Assumes nothing.
use mathlib.Core.Path.{◌≡◌, sym, ◌∙◌}
use mathlib.Core.Bool.{Bool, true, false, not}
use mathlib.Core.List.{List, [], ◌∷◌}
use Prim.Native.Nat.{ℕ, ◌+◌, ◌-◌, ◌/◌, ◌≤◌, ◌<◌}
use native.Mathlib.Omega.{arith}
use lib.ListN.{length, take, drop}
use Rattle.std.specs.Prelude.{Option, None, Some, MatchOption}
use Rattle.std.specs.Option.{is_some}
use Rattle.tables.specs.Rows.{property_size, property_at}
use Rattle.tables.specs.Lent.{Lent, held, properties_in, parameters_in}
use Rattle.tables.specs.Trees.{Property, properties_of, property_of}
use Rattle.tables.specs.Fronts.{front}
use Rattle.tables.specs.declared.Tables.{Tables}
use Rattle.tables.proofs.Laws.{length_rows, row_here}
use Rattle.walking.specs.Walk.{owned_by_other, held_before}
use Rattle.walking.specs.Places.{RisingParameters, Owns}
use Rattle.walking.specs.declared.Window.{Window}
use Rattle.walking.proofs.Walks.{held_rises}
use Rattle.walking.proofs.Found.{in_window}
use Rattle.walking.proofs.Own.{own_from, own_here, no_more, next_same, next_own, own_property_holds, behind_own}
use Rattle.comparing.specs.Pieces.{same_parameters}
use Rattle.matching.specs.Alike.{alike, same_property_by}
use Rattle.matching.specs.Held.{property_in, row_property, Passed}
use Rattle.matching.specs.declared.Held.{Held}
use Rattle.matching.specs.declared.properties.Properties.{Properties}
use Rattle.matching.proofs.Alike.{first_same, first_other, both_end, one_ends}

module _ (b : Lent) (row last : ℕ) where
  -- those of the rows from `from` on
  abbrev pub rest : ℕ → List Property
  rest = own_from b.text (properties_in b.properties) (parameters_in b.parameters) row last

  module _ (from : ℕ) {to : ℕ} (e : to ≡ from + front (owned_by_other row) (take (last - from) (drop from (properties_in b.properties)))) where
    -- the next own row is behind the window: none is left
    pub none_left : last ≤ to → rest from ≡ []
    none_left h =
        sym (next_same b.text (properties_in b.properties) (parameters_in b.parameters) row last from e)
        ∙ no_more b.text (properties_in b.properties) (parameters_in b.parameters) row last to h

    -- it is in the window: the first of those that are left is there, and no parameter before it belongs to it or to a later one
    module _ (inside : last ≤ length b.properties / property_size) (h : to < last) where
      pub one_left : rest from ≡ row_property b to ∷ rest (to + 1)
      one_left =
          let here = row_here property_size property_at b.properties to (omega arith) in
          sym (next_same b.text (properties_in b.properties) (parameters_in b.parameters) row last from e)
          ∙ own_here b.text (properties_in b.properties) (parameters_in b.parameters) row last to (property_at b.properties to) here h
          (next_own b.text (properties_in b.properties) (parameters_in b.parameters) row last from e (property_at b.properties to) here h)

      module _ {p : ℕ} (before : p ≤ front (held_before from) (parameters_in b.parameters)) where
        pub none_before : p ≤ front (held_before to) (parameters_in b.parameters)
        none_before = omega (arith, before, held_rises (parameters_in b.parameters) from to (omega arith))

        pub still_before : p ≤ front (held_before (to + 1)) (parameters_in b.parameters)
        still_before = omega (arith, none_before, held_rises (parameters_in b.parameters) to (to + 1) (omega arith))

-- the parameters of a row, looked for from `p` on
module _ (b : Lent) (n : ℕ) {p first : ℕ} (before : p ≤ front (held_before n) (parameters_in b.parameters))
    (f : first ≡ p + front (held_before n) (drop p (parameters_in b.parameters)))
  where
    pub all_held : RisingParameters (parameters_in b.parameters) → property_in b (record { property = n; first = first }) ≡ row_property b n
    all_held r = own_property_holds (parameters_in b.parameters) n before f b.text r (property_at b.properties n)

    pub found_before : {at : ℕ} → n < at → first ≤ front (held_before at) (parameters_in b.parameters)
    found_before {at} h = omega (arith, behind_own (parameters_in b.parameters) n before f, held_rises (parameters_in b.parameters) (n + 1) at (omega arith))

-- at the start all of them are left
module _ (b : Lent) (row : ℕ) (w : Window) (o : Owns (properties_in b.properties) (parameters_in b.parameters) row w) where
  pub window_inside : w.last ≤ length b.properties / property_size
  window_inside = omega (arith, o.holds.last, length_rows property_size property_at b.properties)

  pub all_left : rest b row w.last w.first ≡ properties_of b.text (properties_in b.properties) (parameters_in b.parameters) row
  all_left = sym (in_window (λ n p rest. property_of b.text (parameters_in b.parameters) n p ∷ rest) [] (properties_in b.properties) o.holds)

-- ---- the walks through two components side by side

-- the first of those that are left is the row with its parameters, in tables that are the same
pub first_held : {t t0 t1 : Tables} (n : ℕ) (h : Held) {all xs : List Property} → t0 ≡ t → t1 ≡ t0 → all ≡ row_property (held t0) n ∷ xs
    → property_in (held t1) h ≡ row_property (held t1) n → all ≡ property_in (held t) h ∷ xs
first_held n h e f a d = rw (← e, ← f, d, f) a

module _ (values : List ℕ → List ℕ → Bool) where
  abbrev same : Property → Property → Bool
  same = same_property_by values same_parameters

  -- the next two are told apart or not, in tables that are the same
  module _ (t : Tables) (p q : Held) {all xs all' ys : List Property} (n : all ≡ property_in (held t) p ∷ xs) (m : all' ≡ property_in (held t) q ∷ ys)
      {told : Bool} (d : told ≡ same (property_in (held t) p) (property_in (held t) q))
    where
      -- they differ
      pub differ : told ≡ false → false ≡ alike same all all'
      differ h = first_other same all all' _ _ _ _ n m (sym d ∙ h)

      -- they agree: what is left then compares as the whole
      pub agree : told ≡ true → alike same xs ys ≡ alike same all all'
      agree h = first_same same all all' _ _ _ _ n m (sym d ∙ h)

  -- the first walk has ended: they are alike exactly if the other ends too
  pub ended : (walk : Properties) (b : Lent) (r : Option ℕ) (ended : Bool) → is_some r ≡ not ended → (all all' xs : List Property) → all ≡ []
      → MatchOption r (all' ≡ []) (λ n. Passed walk n × (all' ≡ row_property b n ∷ xs)) → ended ≡ alike same all all'
  ended walk b None true e all all' xs z m = both_end same all all' z m
  ended walk b None false e all all' xs z m = cc
  ended walk b (Some n) true e all all' xs z m = cc
  ended walk b (Some n) false e all all' xs z m = one_ends same all all' _ _ z m.1
