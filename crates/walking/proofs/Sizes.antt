-- How many rows trees stand for: the tree of a component row stands for the rows of its subtree, and the trees of a whole table for all of its
-- rows. Assumes nothing.
use mathlib.Core.Path.{◌≡◌, refl, ap, ◌∙◌}
use mathlib.Core.Bool.{Bool, true, false}
use mathlib.Core.List.{List, [], ◌∷◌}
use Prim.Native.Nat.{ℕ, zero, suc, ◌+◌, ◌-◌, ◌≤◌, ◌<◌}
use native.Mathlib.Omega.{arith}
use lib.ListN.{length, get_or, drop}
use lib.Dec.{eqb, leb, ltb}
use borrow.Author.Tests.{lt-leb, ltb-true, ltb-false}
use Rattle.octets.specs.Choice.{pick}
use Rattle.octets.specs.Answers.{deepest}
use Rattle.octets.proofs.Bools.{both}
use Rattle.tables.specs.Rows.{no_parent}
use Rattle.tables.specs.Sizes.{component_count, property_count, held_count, parameter_count}
use Rattle.tables.specs.Lent.{name_in}
use Rattle.tables.specs.TableRule.{inside, property_fits, rising_in, presence_fits, parameter_fits, broken_component, broken_property, broken_parameter, broken}
use Rattle.tables.specs.Fronts.{belongs}
use Rattle.tables.specs.Trees.{Property, Trees, none, tree, gather, parameter_of, parameters_of, property_of, properties_of, children_of, grown, forest, tree_at, trees_of}
use Rattle.tables.specs.declared.ComponentRow.{ComponentRow}
use Rattle.tables.specs.declared.PropertyRow.{PropertyRow}
use Rattle.tables.specs.declared.ParameterRow.{ParameterRow}
use Rattle.std.specs.Prelude.{None}
use Rattle.tables.proofs.Nested.{depth_of, Nested, rows_nested}
use Rattle.tables.proofs.Rule.{seen_at, all_fit, meets}
use Rattle.walking.specs.Walk.{end_of, owned_before, owned_within, owned_by, window_first, window_count, tally}
use Rattle.walking.specs.Totals.{total}
use Rattle.walking.proofs.Tallies.{front_all, front_none, none as none_of}
use Rattle.walking.proofs.Windows.{three}
use Rattle.walking.proofs.Sums.{total_one, total_split, total_same, weight_in, so_many, by_owners, nothing_lost, gathered}
use Rattle.walking.proofs.Siblings.{Siblings, rows_up_to, end_later, end_within, subtree_deeper, next_inside, next_siblings, sibling_first, tops, children, children_trees, top_trees}

-- ---- counts of trees

-- a count of trees that adds up what the name and the properties of each component weigh
pub record Weighs (count : Trees → ℕ) (weigh : List ℕ → List Property → ℕ) : Type 0 where
  pub nothing : count none ≡ 0
  pub first : (name : List ℕ) (properties : List Property) (children rest : Trees)
      → count (tree name properties children rest) ≡ weigh name properties + count children + count rest

by_component : Weighs component_count (λ name properties. 1)
unfolding component_count
by_component = record { nothing = refl; first = λ name properties children rest. refl }

by_property : Weighs property_count (λ name. length)
unfolding property_count
by_property = record { nothing = refl; first = λ name properties children rest. refl }

by_parameter : Weighs parameter_count (λ name. held_count)
unfolding parameter_count
by_parameter = record { nothing = refl; first = λ name properties children rest. refl }

module _ {count : Trees → ℕ} {weigh : List ℕ → List Property → ℕ} (w : Weighs count weigh)
    (text : List ℕ) (components : List ComponentRow) (properties : List PropertyRow) (parameters : List ParameterRow)
    (text_length : ℕ) (fits : broken_component text_length 0 [] components ≡ None) where
  -- what a component row weighs, without its children
  abbrev pub weight : ℕ → ℕ
  weight row = weigh (name_in text components row) (properties_of text properties parameters row)

  nested : (row : ℕ) → row < length components → Nested components row
  nested = rows_nested components text_length fits

  abbrev below : ℕ → ℕ → Trees
  below = forest text components properties parameters

  -- the trees of the rows from `from` up to `to` that have a parent
  abbrev trees : ℕ → ℕ → ℕ → ℕ → Trees
  trees level parent from to = gather (λ (c : ComponentRow). c.parent) (grown text components properties parameters (below level)) none parent from (rows_up_to components from to)

  -- they weigh what the rows weigh
  abbrev Even : ℕ → ℕ → ℕ → ℕ → Type 0
  Even level parent from to = count (trees level parent from to) ≡ total weight from (to - from)

  no_rows : (level parent from to : ℕ) → to ≤ from → Even level parent from to
  unfolding total gather
  no_rows level parent from to h =
      let e : to - from ≡ 0 = omega arith in
      rw e w.nothing

  -- where the level ends, so do the rows
  childless : (row : ℕ) → row < length components → deepest ≤ depth_of components row + 0 → end_of components row ≤ row + 1
  childless row h enough = go (ltb (row + 1) (end_of components row)) refl
    where
      go : (t : Bool) → ltb (row + 1) (end_of components row) ≡ t → end_of components row ≤ row + 1
      go true t =
          let l = ltb-true (row + 1) (end_of components row) t in
          absurd (omega (arith, subtree_deeper components row (row + 1) (omega arith) l, (nested (row + 1) (omega (arith, end_within components row h))).bounded))
      go false t = ltb-false (row + 1) (end_of components row) t

  -- the children of a row weigh what the other rows of its subtree weigh, if they do so on each level that is enough for them
  children_weigh : (level row : ℕ) → row < length components → deepest ≤ depth_of components row + level
      → ((level : ℕ) → deepest ≤ depth_of components row + 1 + level → Even level row (row + 1) (end_of components row))
      → count (children_of text components properties parameters (below level) row) ≡ total weight (row + 1) (end_of components row - (row + 1))
  unfolding forest total
  children_weigh zero row h enough inner =
      let e : end_of components row - (row + 1) ≡ 0 = omega (arith, childless row h enough) in
      rw e (go (eqb row no_parent))
    where
      go : (t : Bool) → count (pick t none none) ≡ 0
      go true = w.nothing
      go false = w.nothing
  children_weigh (suc level) row h enough inner =
      rw (children_trees components nested text properties parameters level row h) (inner level (omega arith))

  -- a first sibling with its subtree, and then those behind it
  first_weighs : (level : ℕ) {parent d from to : ℕ} → Siblings components parent d from to → from < to → deepest ≤ d + level
      → ((level : ℕ) → deepest ≤ depth_of components from + 1 + level → Even level from (from + 1) (end_of components from))
      → Even level parent (end_of components from) to → Even level parent from to
  first_weighs level {parent} {d} {from} {to} s h enough inner outer =
      ap count (sibling_first components s h (grown text components properties parameters (below level)) none)
      ∙ (w.first _ (properties_of text properties parameters from) (children_of text components properties parameters (below level) from) (trees level parent (end_of components from) to)
      ∙ omega (
        arith,
        children_weigh level from (omega (arith, s.inside)) (omega (arith, s.first h)) inner,
        outer,
        total_split weight from (end_of components from) to (end_later components from) (next_inside components s h),
      ))

  -- siblings, by how many rows there are
  siblings_weigh : (n level : ℕ) {parent d from to : ℕ} → to - from ≤ n → Siblings components parent d from to → deepest ≤ d + level → Even level parent from to
  siblings_weigh zero level {parent} {d} {from} {to} few s enough = no_rows level parent from to (omega arith)
  siblings_weigh (suc n) level {parent} {d} {from} {to} few s enough =
      go (ltb from to) refl
      (λ h below enough. siblings_weigh n below (omega (arith, next_inside components s h)) (children components nested from (omega (arith, s.inside))) enough)
      (λ h. siblings_weigh n level (omega (arith, end_later components from)) (next_siblings components s h) enough)
    where
      go : (t : Bool) → ltb from to ≡ t
          → (from < to → (level : ℕ) → deepest ≤ depth_of components from + 1 + level → Even level from (from + 1) (end_of components from))
          → (from < to → Even level parent (end_of components from) to) → Even level parent from to
      go true t inner outer = let h = ltb-true from to t in first_weighs level s h enough (inner h) (outer h)
      go false t inner outer = no_rows level parent from to (ltb-false from to t)

  -- the tree of a row weighs what the rows of its subtree weigh
  tree_weighs : (level row : ℕ) → row < length components → deepest ≤ depth_of components row + level
      → count (tree_at text components properties parameters level row) ≡ total weight row (end_of components row - row)
  unfolding total
  tree_weighs level row h enough =
      let e : end_of components row - end_of components row ≡ 0 = omega arith in
      let z : total weight (end_of components row) (end_of components row - end_of components row) ≡ 0 = rw e in
      w.first _ (properties_of text properties parameters row) (children_of text components properties parameters (below level) row) none
      ∙ omega (
        arith,
        w.nothing,
        children_weigh level row h enough (λ level more. siblings_weigh (end_of components row) level (omega arith) (children components nested row h) more),
        total_split weight row (end_of components row) (end_of components row) (end_later components row) (omega arith),
      )

  -- and those of a table weigh what its rows weigh
  pub all_weigh : count (trees_of text components properties parameters) ≡ total weight 0 (length components)
  all_weigh =
      let e : length components - 0 ≡ length components = omega arith in
      ap count (top_trees components nested text properties parameters 63)
      ∙ (siblings_weigh (length components) 63 (omega arith) (tops components nested) (omega arith) ∙ ap (total weight 0) e)

-- ---- what the rows weigh

module _ (text : List ℕ) (properties : List PropertyRow) (parameters : List ParameterRow) where
  abbrev parameter_weight : ℕ → ℕ
  parameter_weight property = length (parameters_of text parameters property)

  its_properties : (component : ℕ) → length (properties_of text properties parameters component) ≡ weight_in (owned_by component) (λ row. 1) 0 properties
  its_properties component =
      gathered (λ (p : PropertyRow). p.owner) (λ row. 1) (λ row p rest. property_of text parameters row p ∷ rest) [] length refl
      component 0 properties (λ i d rest h. omega arith)

  its_held : (component : ℕ) → held_count (properties_of text properties parameters component) ≡ weight_in (owned_by component) parameter_weight 0 properties
  unfolding held_count
  its_held component =
      gathered (λ (p : PropertyRow). p.owner) parameter_weight (λ row p rest. property_of text parameters row p ∷ rest) [] held_count refl
      component 0 properties (λ i d rest h. refl)

  its_parameters : (property : ℕ) → parameter_weight property ≡ weight_in (belongs property) (λ row. 1) 0 parameters
  its_parameters property =
      gathered (λ (p : ParameterRow). p.property) (λ row. 1) (λ row p rest. parameter_of text p ∷ rest) [] length refl
      property 0 parameters (λ i d rest h. omega arith)

-- ---- the tree of a row

-- the properties behind the window of a component
abbrev pub behind_window : List ComponentRow → List PropertyRow → ℕ → List PropertyRow
behind_window components properties row = drop (window_first properties row + window_count components properties row) properties

module _ (text : List ℕ) (components : List ComponentRow) (properties : List PropertyRow) (parameters : List ParameterRow)
    (text_length : ℕ) (fits : broken_component text_length 0 [] components ≡ None) (level row : ℕ)
    (there : row < length components) (enough : deepest ≤ depth_of components row + level) where
  -- it has a component for each row of the subtree
  pub tree_components : component_count (tree_at text components properties parameters level row) ≡ end_of components row - row
  tree_components =
      tree_weighs by_component text components properties parameters text_length fits level row there enough ∙ total_one row (end_of components row - row)

  -- and a property for each that belongs to one of them
  pub tree_properties : property_count (tree_at text components properties parameters level row) ≡ tally (owned_within row (end_of components row)) properties
  tree_properties =
      let e : row + (end_of components row - row) ≡ end_of components row = omega (arith, end_later components row) in
      tree_weighs by_property text components properties parameters text_length fits level row there enough
      ∙ (total_same _ _ (its_properties text properties parameters) row (end_of components row - row)
      ∙ (by_owners (λ (p : PropertyRow). p.owner) (λ row. 1) row (end_of components row - row) 0 properties
      ∙ (rw e (so_many (owned_within row (end_of components row)) 0 properties))))

  -- these are those in its window, and those of the subtree that stand behind it
  pub tree_window : property_count (tree_at text components properties parameters level row)
      ≡ window_count components properties row + tally (owned_within row (end_of components row)) (behind_window components properties row)
  tree_window =
      omega (
        arith,
        tree_properties,
        three components properties (owned_within row (end_of components row)) row,
        front_none (owned_before row) (owned_within row (end_of components row)) earlier properties,
        front_all (owned_within row (end_of components row)) (drop (window_first properties row) properties),
      )
    where
      earlier : (p : PropertyRow) → owned_before row p ≡ true → owned_within row (end_of components row) p ≡ false
      earlier p t = rw (lt-leb row p.owner (ltb-true p.owner row t))

  -- so the window holds as many as the tree has, if none stands behind it. That tables are in order does not say so (Examples: inner-window)
  pub window_whole : ((i : ℕ) (d : PropertyRow) → i < length (behind_window components properties row)
      → owned_within row (end_of components row) (get_or (behind_window components properties row) i d) ≡ false)
      → property_count (tree_at text components properties parameters level row) ≡ window_count components properties row
  window_whole no_more = omega (arith, tree_window, none_of (owned_within row (end_of components row)) (behind_window components properties row) no_more)

-- ---- whole tables

-- owners are in range
pub owners_there : (text_length n row : ℕ) (properties : List PropertyRow) → broken_property text_length n row properties ≡ None
    → (i : ℕ) (d : PropertyRow) → i < length properties → (get_or properties i d).owner < n
owners_there text_length n row properties fits i d h =
    let p = get_or properties i d in
    let t = all_fit (λ (seen : Bool). property_fits text_length n) (λ row seen p. seen) row true properties fits i d h in
    let u = (both (inside text_length p.key_start p.key_len) _ t).1 in
    ltb-true p.owner n (both (inside text_length p.value_start p.value_len) (ltb p.owner n) u).1

properties_there : (text_length n row seen : ℕ) (parameters : List ParameterRow) → broken_parameter text_length n row seen parameters ≡ None
    → (i : ℕ) (d : ParameterRow) → i < length parameters → (get_or parameters i d).property < n
properties_there text_length n row seen parameters fits i d h =
    let p = get_or parameters i d in
    let before = seen_at (parameter_fits text_length n) (λ row seen p. p.property) row seen parameters i in
    let t = all_fit (parameter_fits text_length n) (λ row seen p. p.property) row seen parameters fits i d h in
    let u = (both (inside text_length p.key_start p.key_len) _ t).1 in
    let v = (both (inside text_length p.value_start p.value_len) _ u).1 in
    ltb-true p.property n (both (leb before p.property) (ltb p.property n) (both (rising_in n before p) (presence_fits p) v).0).1

module _ (text : List ℕ) (components : List ComponentRow) (properties : List PropertyRow) (parameters : List ParameterRow)
    (text_length : ℕ) (fits : broken text_length components properties parameters ≡ None) where
  pub all_components : component_count (trees_of text components properties parameters) ≡ length components
  all_components =
      let m = meets text_length components properties parameters fits in
      all_weigh by_component text components properties parameters text_length m.components_fit ∙ total_one 0 (length components)

  pub all_properties : property_count (trees_of text components properties parameters) ≡ length properties
  all_properties =
      let m = meets text_length components properties parameters fits in
      all_weigh by_property text components properties parameters text_length m.components_fit
      ∙ (total_same _ _ (its_properties text properties parameters) 0 (length components)
      ∙ (nothing_lost (λ (p : PropertyRow). p.owner) (λ row. 1) (length components) properties (owners_there text_length _ _ properties m.properties_fit)
      ∙ total_one 0 (length properties)))

  pub all_parameters : parameter_count (trees_of text components properties parameters) ≡ length parameters
  all_parameters =
      let m = meets text_length components properties parameters fits in
      all_weigh by_parameter text components properties parameters text_length m.components_fit
      ∙ (total_same _ _ (its_held text properties parameters) 0 (length components)
      ∙ (nothing_lost (λ (p : PropertyRow). p.owner) (parameter_weight text properties parameters) (length components) properties (owners_there text_length _ _ properties m.properties_fit)
      ∙ (total_same _ _ (its_parameters text properties parameters) 0 (length properties)
      ∙ (nothing_lost (λ (p : ParameterRow). p.property) (λ row. 1) (length properties) parameters (properties_there text_length _ _ 0 parameters m.parameters_fit)
      ∙ total_one 0 (length parameters)))))
