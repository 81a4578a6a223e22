-- The rows that a line adds fit the table rule. Assumes nothing.
use mathlib.Core.Path.{◌≡◌, refl, ◌∙◌}
use mathlib.Core.Bool.{Bool, true, ◌&&◌, ◌||◌, or-true}
use mathlib.Core.List.{List, [], ◌∷◌, ◌++◌, map}
use Prim.Native.Nat.{ℕ, zero, suc, ◌+◌, ◌-◌, ◌≤◌, ◌<◌}
use native.Mathlib.Omega.{arith}
use lib.ListN.{length}
use lib.Dec.{eqb}
use borrow.Author.Tests.{le-leb, lt-ltb, eq-eqb}
use Rattle.std.specs.Prelude.{Option, Some, None}
use Rattle.octets.specs.Answers.{deepest}
use Rattle.octets.specs.declared.Span.{Span}
use Rattle.parameters.specs.declared.Value.{Value}
use Rattle.parameters.specs.declared.Value.TheVariants.{Absent, Present}
use Rattle.parameters.specs.declared.Param.{Param}
use Rattle.parameters.specs.Parameter.{front_of}
use Rattle.parameters.specs.Parameters.{moved, value_moved, front_used, and_later, params_after}
use Rattle.parameters.specs.Values.{ValueWithin}
use Rattle.parameters.proofs.Laws.{found_inside}
use Rattle.lines.specs.declared.Property.{Property}
use Rattle.lines.specs.Sound.{SoundProperty}
use Rattle.tables.specs.Rows.{no_parent}
use Rattle.tables.specs.TableRule.{Opened, ancestors, some, parent_fits, component_fits, property_fits, parameter_fits, broken_parameter, inside}
use Rattle.tables.specs.declared.ParameterRow.{ParameterRow}
use Rattle.tables.proofs.Rule.{on}
use Rattle.nesting.specs.Rows.{top, component_row, property_row, parameter_with, parameter_row}
use Rattle.nesting.specs.declared.Entry.{Entry}
use Rattle.demands.proofs.Chains.{chain, chain_depth, Falling, Last, parents}

both : {a b : Bool} → a ≡ true → b ≡ true → (a && b) ≡ true
both p q = rw (p, q)

pub its_property : (m : ℕ) (k : Span) (v : Value) → (parameter_with m k v).property ≡ m
its_property m k Absent = refl
its_property m k (Present s) = refl

module _ (T : ℕ) where
  within : (start len : ℕ) → start + len ≤ T → inside T start len ≡ true
  within start len h = le-leb (start + len) T h

  -- a component below the innermost open one
  module _ (es : List Entry) {ps : List Opened} {n : ℕ} (last : Last (chain es) ps) (falling : Falling n ps) (few : n ≤ no_parent) where
    pub component_parents : (e : Entry) → ancestors ps (component_row (top es) (length es + 1) e) ≡ chain es
    component_parents e = parents es (component_row (top es) (length es + 1) e) last falling few refl

    parent_fits_holds : (e : Entry) → parent_fits ps (component_row (top es) (length es + 1) e) ≡ true
    parent_fits_holds e = rw (component_parents e) (known es)
      where
        known : (es : List Entry) → (eqb (top es) no_parent || some (chain es)) ≡ true
        known [] = refl
        known (o ∷ os) = or-true (eqb o.row no_parent)

    pub component_fits_holds : (e : Entry) → e.start + e.len ≤ T → length es < deepest → component_fits T ps (component_row (top es) (length es + 1) e) ≡ true
    component_fits_holds e h d =
        both (within e.start e.len h)
        (both (parent_fits_holds e) (rw (component_parents e, chain_depth es, eq-eqb (length es + 1) (length es + 1) refl) (le-leb (length es + 1) deepest (omega arith))))

  pub property_fits_holds : (components owner start : ℕ) (line : List ℕ) (p : Property) → SoundProperty line p → start + length line ≤ T → owner < components
      → property_fits T components (property_row owner start p) ≡ true
  property_fits_holds components owner start line p s h o =
      both (within (start + p.key.start) p.key.len (omega (arith, s.front, s.fewer)))
      (both (within (start + p.value.start) p.value.len (omega (arith, s.value))) (lt-ltb owner components o))

  -- ---- parameters

  module _ (properties m before : ℕ) (here : m < properties) (rising : before ≤ m) where
    with_fits : (at n : ℕ) (k : Span) (v : Value) → k.start + k.len ≤ at + n → ValueWithin v n → at + n ≤ T
        → parameter_fits T properties before (parameter_with m k (value_moved at v)) ≡ true
    with_fits at n k Absent kh vh h =
        both (within k.start k.len (omega arith))
        (both (within 0 0 (omega arith)) (both (both (le-leb before m rising) (lt-ltb m properties here)) refl))
    with_fits at n k (Present v) kh vh h =
        both (within k.start k.len (omega arith))
        (both (within (at + v.start) v.len (omega arith)) (both (both (le-leb before m rising) (lt-ltb m properties here)) refl))

    parameter_fits_holds : (at : ℕ) (xs : List ℕ) (p : Param) → front_of xs ≡ Some p → at + length xs ≤ T
        → parameter_fits T properties before (parameter_row m (moved at p)) ≡ true
    parameter_fits_holds at xs p f h =
        let i = found_inside xs f in
        with_fits at p.used (moved at p).key p.value (omega (arith, i.key)) i.value (omega (arith, i.all))

  -- rows that fit behind parameters of the property rows up to m, whichever was the last
  abbrev pub ParametersOn : ℕ → ℕ → List ParameterRow → Type 0
  ParametersOn properties m rows = (row before : ℕ) → before ≤ m → broken_parameter T properties row before rows ≡ None

  -- the parameters of the property row m, before such rows
  pub parameters_fit : (properties m : ℕ) → m < properties → (at k : ℕ) (xs : List ℕ) → at + length xs ≤ T
      → (rest : List ParameterRow) → ParametersOn properties m rest
      → ParametersOn properties m (map (parameter_row m) (params_after at k xs) ++ rest)
  unfolding params_after
  parameters_fit properties m here at k [] h rest r row before b = r row before b
  parameters_fit properties m here at zero (x ∷ xs) h rest r row before b =
      go (front_of (x ∷ xs)) refl (λ k. parameters_fit properties m here (at + 1) k xs (omega arith) rest r)
    where
      go : (f : Option Param) → front_of (x ∷ xs) ≡ f → ((k : ℕ) → ParametersOn properties m (map (parameter_row m) (params_after (at + 1) k xs) ++ rest))
          → broken_parameter T properties row before (map (parameter_row m) (and_later f at (params_after (at + 1) (front_used f - 1) xs)) ++ rest) ≡ None
      go None e later = r row before b
      go (Some p) e later =
          on (parameter_fits T properties) (λ row seen p. p.property) row before
          (map (parameter_row m) (moved at p ∷ params_after (at + 1) (p.used - 1) xs) ++ rest)
          (map (parameter_row m) (params_after (at + 1) (p.used - 1) xs) ++ rest)
          (parameter_row m (moved at p)) refl (parameter_fits_holds properties m before here b at (x ∷ xs) p e h)
          ∙ later (p.used - 1) (row + 1) (parameter_row m (moved at p)).property (omega (arith, its_property m (moved at p).key (moved at p).value))
  parameters_fit properties m here at (suc k) (x ∷ xs) h rest r row before b = parameters_fit properties m here (at + 1) k xs (omega arith) rest r row before b
