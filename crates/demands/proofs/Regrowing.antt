-- Whole tables of rows that show trees stand for these trees. Assumes nothing.
use mathlib.Core.Path.{◌≡◌, refl, ◌∙◌}
use mathlib.Core.List.{List, [], ◌∷◌, ◌++◌}
use Prim.Native.Nat.{ℕ, zero, suc, ◌+◌, ◌≤◌}
use native.Mathlib.Omega.{arith}
use lib.ListN.{length, length-append}
use borrow.Author.Tests.{ne_eqb}
use Rattle.octets.specs.Answers.{deepest}
use Rattle.octets.specs.Views.{viewed}
use Rattle.tables.specs.Rows.{no_parent}
use Rattle.tables.specs.Trees.{Parameter, Property, Trees, none, tree, gather, parameter_of, property_of, properties_of, grown, forest, trees_of}
use Rattle.tables.specs.declared.ComponentRow.{ComponentRow}
use Rattle.tables.specs.declared.PropertyRow.{PropertyRow}
use Rattle.tables.specs.declared.ParameterRow.{ParameterRow}
use Rattle.tables.proofs.Gathered.{taken, over, parts}
use Rattle.demands.specs.Returning.{Shallow}
use Rattle.demands.proofs.Standing.{Apart, fewer, some, turned, clear_append, skipped, Standing, all_standing, first_of, later_of, second_of, third_of, gathered}
use Rattle.demands.proofs.Standing.Apart.{before, behind}
use Rattle.demands.proofs.Standing.Clear.{clear, other}
use Rattle.demands.proofs.Shown.{parent_of, owner_of, property_row_of, Parameters, Properties, Rows}
use Rattle.demands.proofs.Shown.{parameters_clear, owners_clear, numbers_clear, parents_clear, properties_clear, held_clear}
use Rattle.demands.proofs.Shown.Parameters.{no_parameter, parameter}
use Rattle.demands.proofs.Shown.Properties.{no_property, property}
use Rattle.demands.proofs.Shown.Rows.{no_tree, a_tree}

module _ (text : List ℕ) where
  abbrev put_parameter : ℕ → ParameterRow → List Parameter → List Parameter
  put_parameter row q rest = parameter_of text q ∷ rest

  -- the rows of a property make its parameters
  parameters_back : (number row : ℕ) {xs : List Parameter} {qs : List ParameterRow} → Parameters text number xs qs
      → gather property_row_of put_parameter [] number row qs ≡ xs
  parameters_back number row no_parameter = over property_row_of put_parameter [] number row [] refl
  parameters_back number row (parameter q {xs} {qs} e f) =
      taken property_row_of put_parameter [] number row (q ∷ qs) qs q refl e ∙ rw (parameters_back number (row + 1) f)

  module _ (parameters : List ParameterRow) where
    abbrev put_property : ℕ → PropertyRow → List Property → List Property
    put_property row p rest = property_of text parameters row p ∷ rest

    -- the rows of a component make its properties
    properties_back : {owner number at : ℕ} {xs : List Property} {ps : List PropertyRow} {qs : List ParameterRow}
        → Properties text owner number xs ps qs → Standing property_row_of parameters at qs number (number + length ps)
        → gather owner_of put_property [] owner number ps ≡ xs
    properties_back {owner} {number} no_property s = over owner_of put_property [] owner number [] refl
    properties_back {owner} {number} {at} (property p {x} {own} {qs} {xs} {ps} e y o f) s =
        let mine : Standing property_row_of parameters at own number (number + 1) =
        first_of property_row_of (omega arith) (omega arith) s (numbers_clear (behind (omega arith)) f) in
        let theirs : Standing property_row_of parameters (at + length own) qs (number + 1) (number + 1 + length ps) =
        later_of property_row_of (omega arith) (omega arith) s refl (parameters_clear (before (omega arith)) o) in
        taken owner_of put_property [] owner number (p ∷ ps) ps p refl e
        ∙ rw (gathered property_row_of put_parameter [] number (omega arith) (omega arith) mine, parameters_back number at o, y, properties_back f theirs)

  -- a list of trees that may not nest at all is empty
  shallow_none : (ts : Trees) → Shallow zero ts → ts ≡ none
  unfolding Shallow
  shallow_none none h = refl
  shallow_none (tree name properties children rest) h = absurd h

  module _ (components : List ComponentRow) (properties : List PropertyRow) (parameters : List ParameterRow) where
    -- the trees that the tables have below a row, as deep as a level allows, and how a row is put before others
    abbrev below : ℕ → ℕ → Trees
    below = forest text components properties parameters

    abbrev grow : ℕ → ℕ → ComponentRow → Trees → Trees
    grow level = grown text components properties parameters (below level)

    -- the rows of trees stand in the tables: no other component row stands below one of them or below `low`, no other property row belongs to one of
    -- them, and no other parameter row to one of their property rows; the parent is none of them, and none is the row that as a parent means none
    record Planted (parent row number at low : ℕ) (cs : List ComponentRow) (ps : List PropertyRow) (qs : List ParameterRow) : Type 0 where
      early : low ≤ row
      few : row + length cs ≤ no_parent
      apart : Apart parent (parent + 1) row (row + length cs)
      in_components : Standing parent_of components row cs low (row + length cs)
      in_properties : Standing owner_of properties number ps row (row + length cs)
      in_parameters : Standing property_row_of parameters at qs number (number + length ps)

    module _ {parent row number at low : ℕ} {c : ComponentRow} {xs : List Property} {children rest : Trees}
        {cs ds : List ComponentRow} {ps ps₁ ps₂ : List PropertyRow} {qs qs₁ qs₂ : List ParameterRow}
        (e : c.parent ≡ parent) (o : Properties text row number xs ps qs)
        (f : Rows text row (row + 1) (number + length ps) children cs ps₁ qs₁)
        (g : Rows text parent (row + 1 + length cs) (number + length ps + length ps₁) rest ds ps₂ qs₂)
        (s : Planted parent row number at low (c ∷ (cs ++ ds)) (ps ++ (ps₁ ++ ps₂)) (qs ++ (qs₁ ++ qs₂))) where
      -- the first row, those of its children and those behind
      count : row + length (c ∷ (cs ++ ds)) ≡ row + 1 + length cs + length ds
      count = simp length-append (omega arith)

      own_count : number + length (ps ++ (ps₁ ++ ps₂)) ≡ number + length ps + length ps₁ + length ps₂
      own_count = simp length-append (omega arith)

      -- the rows of the children stand in the tables too, and those of the trees behind
      children_planted : Planted row (row + 1) (number + length ps) (at + length qs) row cs ps₁ qs₁
      children_planted =
          record {
            early = omega arith;
            few = omega (arith, s.few, count);
            apart = before (omega arith);
            in_components =
                second_of parent_of {xs = c ∷ []} s.early (omega (arith, count)) s.in_components
                (other {x = c} (rw e (fewer (omega arith) (omega (arith, count)) s.apart)) clear) refl
                (parents_clear (fewer (omega arith) (omega (arith, count)) s.apart) (behind (omega arith)) g);
            in_properties =
                second_of owner_of (omega arith) (omega (arith, count)) s.in_properties (owners_clear (before (omega arith)) o) refl
                (properties_clear (behind (omega arith)) g);
            in_parameters =
                second_of property_row_of (omega arith) (omega (arith, own_count)) s.in_parameters (numbers_clear (before (omega arith)) o) refl
                (held_clear (behind (omega arith)) g);
          }

      rest_planted : Planted parent (row + 1 + length cs) (number + length ps + length ps₁) (at + length qs + length qs₁) (row + 1 + length cs) ds ps₂ qs₂
      rest_planted =
          record {
            early = omega arith;
            few = omega (arith, s.few, count);
            apart = fewer (omega arith) (omega (arith, count)) s.apart;
            in_components =
                third_of parent_of {xs = c ∷ []} (omega (arith, s.early)) (omega (arith, count)) s.in_components
                (other {x = c} (rw e (fewer (omega arith) (omega (arith, count)) s.apart)) clear) refl
                (parents_clear (before (omega arith)) (before (omega arith)) f);
            in_properties =
                third_of owner_of (omega arith) (omega (arith, count)) s.in_properties (owners_clear (before (omega arith)) o) refl
                (properties_clear (before (omega arith)) f);
            in_parameters =
                third_of property_row_of (omega arith) (omega (arith, own_count)) s.in_parameters (numbers_clear (before (omega arith)) o) refl
                (held_clear (before (omega arith)) f);
          }

      -- the whole tables have no other properties of this row
      own_back : properties_of text properties parameters row ≡ xs
      own_back =
          let here : Standing owner_of properties number ps row (row + 1) =
          first_of owner_of (omega arith) (omega (arith, count)) s.in_properties
          (clear_append owner_of (properties_clear (behind (omega arith)) f) (properties_clear (behind (omega arith)) g)) in
          let held : Standing property_row_of parameters at qs number (number + length ps) =
          first_of property_row_of (omega arith) (omega (arith, own_count)) s.in_parameters
          (clear_append property_row_of (held_clear (behind (omega arith)) f) (held_clear (behind (omega arith)) g)) in
          gathered owner_of (put_property parameters) [] row (omega arith) (omega arith) here ∙ properties_back parameters o held

      -- the rows of the first tree's children are passed over
      rest_only : (level : ℕ) → gather parent_of (grow level) none parent (row + 1) (cs ++ ds) ≡ gather parent_of (grow level) none parent (row + 1 + length cs) ds
      rest_only level =
          parts parent_of (grow level) none parent (row + 1) cs ds
          ∙ skipped parent_of (grow level) _ parent (row + 1) (omega arith) (omega arith)
          (parents_clear (some (omega arith) (omega (arith, count)) (turned s.apart)) (some (omega arith) (omega (arith, count)) (turned s.apart)) f)

      -- the whole table has no other children of this row
      children_only : (level : ℕ) → below (suc level) row ≡ gather parent_of (grow level) none row (row + 1) cs
      unfolding forest
      children_only level = gathered parent_of (grow level) none row (omega arith) (omega arith) children_planted.in_components

      -- the first tree, and those behind it
      first_back : (level : ℕ) {name : List ℕ} → viewed text c.name_start c.name_len ≡ name → below level row ≡ children
          → gather parent_of (grow level) none parent (row + 1 + length cs) ds ≡ rest
          → gather parent_of (grow level) none parent row (c ∷ (cs ++ ds)) ≡ tree name xs children rest
      first_back level n inner later =
          taken parent_of (grow level) none parent row (c ∷ (cs ++ ds)) (cs ++ ds) c refl e
          ∙ rw (ne_eqb row no_parent (λ z. omega (arith, s.few, count)), n, own_back, inner, rest_only level, later)

    -- so the trees that the tables have below the parent are these, as deep as the level allows
    trees_back : (level : ℕ) {parent row number at low : ℕ} {ts : Trees} {cs : List ComponentRow} {ps : List PropertyRow} {qs : List ParameterRow}
        → Rows text parent row number ts cs ps qs → Shallow (suc level) ts → Planted parent row number at low cs ps qs
        → gather parent_of (grow level) none parent row cs ≡ ts
    unfolding Shallow forest
    trees_back level {parent} {row} no_tree h s = over parent_of (grow level) none parent row [] refl
    trees_back zero (a_tree c {children} e n o f g) h s =
        first_back e o f g s zero n (rw (shallow_none children h.0)) (trees_back zero g h.1 (rest_planted e o f g s))
    trees_back (suc level) (a_tree c e n o f g) h s =
        first_back e o f g s (suc level) n
        (children_only e o f g s level ∙ trees_back level f h.0 (children_planted e o f g s))
        (trees_back (suc level) g h.1 (rest_planted e o f g s))

  -- tables that hold the rows of trees and nothing else stand for these trees
  pub whole_back : {ts : Trees} {cs : List ComponentRow} {ps : List PropertyRow} {qs : List ParameterRow}
      → Rows text no_parent 0 0 ts cs ps qs → Shallow deepest ts → length cs ≤ no_parent → trees_of text cs ps qs ≡ ts
  unfolding forest
  whole_back {ts} {cs} {ps} {qs} r h few =
      trees_back cs ps qs 63 r h
      record {
        early = omega arith;
        few = omega arith;
        apart = behind (omega arith);
        in_components = all_standing parent_of cs 0 (0 + length cs);
        in_properties = all_standing owner_of ps 0 (0 + length cs);
        in_parameters = all_standing property_row_of qs 0 (0 + length ps);
      }
