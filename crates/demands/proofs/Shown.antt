-- Rows that show trees one after the other, in the order in which their lines are read: whose they are, and how many there are. Assumes nothing.
use mathlib.Core.Path.{◌≡◌, refl, ap}
use mathlib.Core.List.{List, [], ◌∷◌, ◌++◌}
use Prim.Native.Nat.{ℕ, suc, ◌+◌}
use native.Mathlib.Omega.{arith}
use lib.ListN.{length, length-append}
use Rattle.octets.specs.Views.{viewed}
use Rattle.tables.specs.Sizes.{component_count, property_count, held_count, parameter_count}
use Rattle.tables.specs.Trees.{Parameter, Property, Trees, none, tree, parameter_of}
use Rattle.tables.specs.declared.ComponentRow.{ComponentRow}
use Rattle.tables.specs.declared.PropertyRow.{PropertyRow}
use Rattle.tables.specs.declared.ParameterRow.{ParameterRow}
use Rattle.demands.proofs.Standing.{Apart, some, Clear, clear_append}
use Rattle.demands.proofs.Standing.Clear.{clear, other}

-- whose a row is
abbrev pub parent_of : ComponentRow → ℕ
parent_of c = c.parent

abbrev pub owner_of : PropertyRow → ℕ
owner_of p = p.owner

abbrev pub property_row_of : ParameterRow → ℕ
property_row_of q = q.property

-- the property that a row shows, with these parameters
abbrev pub property_with : List ℕ → PropertyRow → List Parameter → Property
property_with text p parameters =
    record { key = viewed text p.key_start p.key_len; parameters = parameters; value = viewed text p.value_start p.value_len }

module _ (text : List ℕ) where
  -- parameter rows of property row `number`
  pub data Parameters (number : ℕ) : List Parameter → List ParameterRow → Type 0 where
    no_parameter : Parameters number [] []
    parameter : (q : ParameterRow) {xs : List Parameter} {qs : List ParameterRow} → q.property ≡ number → Parameters number xs qs
        → Parameters number (parameter_of text q ∷ xs) (q ∷ qs)

  -- property rows from `number` on, all of one owner, and their parameter rows
  pub data Properties (owner : ℕ) : ℕ → List Property → List PropertyRow → List ParameterRow → Type 0 where
    no_property : {number : ℕ} → Properties owner number [] [] []
    property : {number : ℕ} (p : PropertyRow) {x : Property} {own qs : List ParameterRow} {xs : List Property} {ps : List PropertyRow}
        → p.owner ≡ owner → property_with text p x.parameters ≡ x → Parameters number x.parameters own → Properties owner (number + 1) xs ps qs
        → Properties owner number (x ∷ xs) (p ∷ ps) (own ++ qs)

  -- component rows from `row` on, with property rows from `number` on; the trees stand below the parent
  pub data Rows : ℕ → ℕ → ℕ → Trees → List ComponentRow → List PropertyRow → List ParameterRow → Type 0 where
    no_tree : {parent row number : ℕ} → Rows parent row number none [] [] []
    a_tree : {parent row number : ℕ} (c : ComponentRow) {name : List ℕ} {properties : List Property} {children rest : Trees}
        {cs ds : List ComponentRow} {ps ps₁ ps₂ : List PropertyRow} {qs qs₁ qs₂ : List ParameterRow}
        → c.parent ≡ parent → viewed text c.name_start c.name_len ≡ name → Properties row number properties ps qs
        → Rows row (row + 1) (number + length ps) children cs ps₁ qs₁
        → Rows parent (row + 1 + length cs) (number + length ps + length ps₁) rest ds ps₂ qs₂
        → Rows parent row number (tree name properties children rest) (c ∷ (cs ++ ds)) (ps ++ (ps₁ ++ ps₂)) (qs ++ (qs₁ ++ qs₂))

-- ---- where the owners of these rows lie

module _ {text : List ℕ} where
  -- parameter rows belong to their property
  pub parameters_clear : {number low high : ℕ} {xs : List Parameter} {qs : List ParameterRow} → Apart number (number + 1) low high → Parameters text number xs qs
      → Clear property_row_of low high qs
  parameters_clear a no_parameter = clear
  parameters_clear a (parameter q e f) = other {x = q} (rw e a) (parameters_clear a f)

  -- property rows of one owner belong to it, and their parameter rows to these property rows
  pub owners_clear : {owner number low high : ℕ} {xs : List Property} {ps : List PropertyRow} {qs : List ParameterRow} → Apart owner (owner + 1) low high
      → Properties text owner number xs ps qs → Clear owner_of low high ps
  owners_clear a no_property = clear
  owners_clear a (property p e x o f) = other {x = p} (rw e a) (owners_clear a f)

  pub numbers_clear : {owner number low high : ℕ} {xs : List Property} {ps : List PropertyRow} {qs : List ParameterRow} → Apart number (number + length ps) low high
      → Properties text owner number xs ps qs → Clear property_row_of low high qs
  numbers_clear a no_property = clear
  numbers_clear a (property p e x o f) =
      clear_append property_row_of (parameters_clear (some (omega arith) (omega arith) a) o)
      (numbers_clear (some (omega arith) (omega arith) a) f)

  module _ {low high : ℕ} where
    -- component rows stand below the parent or below one of themselves
    pub parents_clear : {parent row number : ℕ} {ts : Trees} {cs : List ComponentRow} {ps : List PropertyRow} {qs : List ParameterRow}
        → Apart parent (parent + 1) low high → Apart row (row + length cs) low high → Rows text parent row number ts cs ps qs → Clear parent_of low high cs
    parents_clear a b no_tree = clear
    parents_clear a b (a_tree c {cs} {ds} e n o f g) =
        let h = length-append cs ds in
        other {x = c} (rw e a)
        (clear_append parent_of (parents_clear (some (omega arith) (omega arith) b) (some (omega arith) (omega arith) b) f)
        (parents_clear a (some (omega arith) (omega arith) b) g))

    -- the property rows belong to these component rows
    pub properties_clear : {parent row number : ℕ} {ts : Trees} {cs : List ComponentRow} {ps : List PropertyRow} {qs : List ParameterRow}
        → Apart row (row + length cs) low high → Rows text parent row number ts cs ps qs → Clear owner_of low high ps
    properties_clear b no_tree = clear
    properties_clear b (a_tree c {cs} {ds} e n o f g) =
        let h = length-append cs ds in
        clear_append owner_of (owners_clear (some (omega arith) (omega arith) b) o)
        (clear_append owner_of (properties_clear (some (omega arith) (omega arith) b) f) (properties_clear (some (omega arith) (omega arith) b) g))

    -- and the parameter rows to these property rows
    pub held_clear : {parent row number : ℕ} {ts : Trees} {cs : List ComponentRow} {ps : List PropertyRow} {qs : List ParameterRow}
        → Apart number (number + length ps) low high → Rows text parent row number ts cs ps qs → Clear property_row_of low high qs
    held_clear b no_tree = clear
    held_clear b (a_tree c {ps} {ps₁} {ps₂} e n o f g) =
        let h = length-append ps (ps₁ ++ ps₂) in
        let k = length-append ps₁ ps₂ in
        clear_append property_row_of (numbers_clear (some (omega arith) (omega arith) b) o)
        (clear_append property_row_of (held_clear (some (omega arith) (omega arith) b) f) (held_clear (some (omega arith) (omega arith) b) g))

  -- ---- how many rows there are: one for each component, property and parameter

  pub component_rows : {parent row number : ℕ} {ts : Trees} {cs : List ComponentRow} {ps : List PropertyRow} {qs : List ParameterRow}
      → Rows text parent row number ts cs ps qs → length cs ≡ component_count ts
  unfolding component_count
  component_rows no_tree = refl
  component_rows (a_tree c {cs} {ds} e n o f g) = omega (arith, length-append cs ds, component_rows f, component_rows g)

  own_rows : {owner number : ℕ} {xs : List Property} {ps : List PropertyRow} {qs : List ParameterRow} → Properties text owner number xs ps qs → length ps ≡ length xs
  own_rows no_property = refl
  own_rows (property p e y o f) = ap suc (own_rows f)

  pub property_rows : {parent row number : ℕ} {ts : Trees} {cs : List ComponentRow} {ps : List PropertyRow} {qs : List ParameterRow}
      → Rows text parent row number ts cs ps qs → length ps ≡ property_count ts
  unfolding property_count
  property_rows no_tree = refl
  property_rows (a_tree c {ps} {ps₁} {ps₂} e n o f g) =
      omega (arith, length-append ps (ps₁ ++ ps₂), length-append ps₁ ps₂, own_rows o, property_rows f, property_rows g)

  parameters_held : {number : ℕ} {xs : List Parameter} {qs : List ParameterRow} → Parameters text number xs qs → length qs ≡ length xs
  parameters_held no_parameter = refl
  parameters_held (parameter q e f) = ap suc (parameters_held f)

  held_rows : {owner number : ℕ} {xs : List Property} {ps : List PropertyRow} {qs : List ParameterRow} → Properties text owner number xs ps qs → length qs ≡ held_count xs
  unfolding held_count
  held_rows no_property = refl
  held_rows (property p {own} {qs} e y o f) = omega (arith, length-append own qs, parameters_held o, held_rows f)

  pub parameter_rows_holds : {parent row number : ℕ} {ts : Trees} {cs : List ComponentRow} {ps : List PropertyRow} {qs : List ParameterRow}
      → Rows text parent row number ts cs ps qs → length qs ≡ parameter_count ts
  unfolding parameter_count
  parameter_rows_holds no_tree = refl
  parameter_rows_holds (a_tree c {qs} {qs₁} {qs₂} e n o f g) =
      omega (arith, length-append qs (qs₁ ++ qs₂), length-append qs₁ qs₂, held_rows o, parameter_rows_holds f, parameter_rows_holds g)
