-- The level of 64 is enough for tables that meet the table rule: no tree goes deeper, so that none is cut, nor is that of a row. Assumes nothing.
use mathlib.Core.Path.{◌≡◌, refl, sym, ap, ◌∙◌}
use mathlib.Core.Bool.{Bool, true, false}
use mathlib.Core.List.{List, [], ◌∷◌}
use Prim.Native.Nat.{ℕ, zero, suc, ◌+◌, ◌≤◌, ◌<◌, zero-le, suc-le-suc}
use native.Mathlib.Nat.{zero-add, add-zero}
use native.Mathlib.Omega.{arith}
use lib.ListN.{length, get_or}
use lib.Dec.{eqb}
use borrow.Author.Tests.{eqb-true, eqb-false}
use Rattle.octets.specs.Choice.{pick}
use Rattle.octets.specs.Answers.{deepest}
use Rattle.tables.specs.Rows.{no_parent, component_at}
use Rattle.tables.specs.TableRule.{broken_component}
use Rattle.tables.specs.Trees.{Trees, none, gather, grown, forest, tree_at, trees_of}
use Rattle.tables.specs.declared.ComponentRow.{ComponentRow}
use Rattle.tables.specs.declared.PropertyRow.{PropertyRow}
use Rattle.tables.specs.declared.ParameterRow.{ParameterRow}
use Rattle.std.specs.Prelude.{None}
use Rattle.tables.proofs.Gathered.{strangers}
use Rattle.tables.proofs.Nested.{either_default, component_of, depth_of, rows_nested}

-- two ways to gather that agree on the rows that belong to the owner
module _ {A R : Type 0} (owner_of : A → ℕ) (before before' : ℕ → A → R → R) where
  gather_same : (end : R) (owner row : ℕ) (xs : List A)
      → ((i : ℕ) (d : A) → i < length xs → owner_of (get_or xs i d) ≡ owner → (rest : R) → before (row + i) (get_or xs i d) rest ≡ before' (row + i) (get_or xs i d) rest)
      → gather owner_of before end owner row xs ≡ gather owner_of before' end owner row xs
  unfolding gather
  gather_same end owner row [] same = refl
  gather_same end owner row (x ∷ xs) same =
      go (eqb (owner_of x) owner) refl
      (gather_same end owner (row + 1) xs
      (λ i d h o rest. let e : row + 1 + i ≡ row + suc i = omega arith in rw e (same (suc i) d (suc-le-suc h) o rest)))
    where
      go : (t : Bool) → eqb (owner_of x) owner ≡ t → gather owner_of before end owner (row + 1) xs ≡ gather owner_of before' end owner (row + 1) xs
          → pick t (before row x (gather owner_of before end owner (row + 1) xs)) (gather owner_of before end owner (row + 1) xs)
          ≡ pick t (before' row x (gather owner_of before' end owner (row + 1) xs)) (gather owner_of before' end owner (row + 1) xs)
      go true t e =
          let z : row + 0 ≡ row = omega arith in
          rw e (rw z at (same 0 x (suc-le-suc zero-le) (eqb-true (owner_of x) owner t) (gather owner_of before' end owner (row + 1) xs)))
      go false t e = e

module _ (text : List ℕ) (components : List ComponentRow) (properties : List PropertyRow) (parameters : List ParameterRow)
    (text_length : ℕ) (fits : broken_component text_length 0 [] components ≡ None) where
  -- the level reaches below every row that has this parent
  abbrev Enough : ℕ → ℕ → Type 0
  Enough level parent = (row : ℕ) → row < length components → (component_of components row).parent ≡ parent → deepest < depth_of components row + level

  abbrev forest_at : ℕ → ℕ → Trees
  forest_at = forest text components properties parameters

  owned : (i : ℕ) (d : ComponentRow) → i < length components → get_or components i d ≡ component_of components i
  owned i d h = either_default components i d (component_at [] 0) h

  below : (level row : ℕ) → row < length components → deepest < depth_of components row + suc level → (row ≡ no_parent → ⊥) → Enough level row
  below level row h e ne child l o =
      let u = (rows_nested components text_length fits child l).under (λ z. ne (sym o ∙ z)) in
      omega (arith, u.deeper, ap (depth_of components) o)

  -- the tree of a row, where one level more changes nothing below it
  grown_same : (level row : ℕ) (c : ComponentRow) (rest : Trees) → ((row ≡ no_parent → ⊥) → forest_at level row ≡ forest_at (suc level) row)
      → grown text components properties parameters (forest_at level) row c rest ≡ grown text components properties parameters (forest_at (suc level)) row c rest
  grown_same level row c rest same = go (eqb row no_parent) refl
    where
      go : (t : Bool) → eqb row no_parent ≡ t
          → grown text components properties parameters (forest_at level) row c rest ≡ grown text components properties parameters (forest_at (suc level)) row c rest
      go true t = rw t
      go false t = rw (t, same (eqb-false row no_parent t))

  one_more : (level parent : ℕ) → Enough level parent → forest_at level parent ≡ forest_at (suc level) parent
  unfolding forest
  one_more zero parent enough =
      sym (strangers (λ (c : ComponentRow). c.parent) (grown text components properties parameters (forest_at zero)) none parent 0 components
      (λ i d h o. omega (arith, enough i h (rw (owned i d h) at o), (rows_nested components text_length fits i h).bounded)))
  one_more (suc level) parent enough =
      gather_same (λ (c : ComponentRow). c.parent) (grown text components properties parameters (forest_at level)) (grown text components properties parameters (forest_at (suc level)))
      none parent 0 components
      (λ i d h o rest. rw zero-add (grown_same level i (get_or components i d) rest
      (λ ne. one_more level i (below level i h (enough i h (rw (owned i d h) at o)) ne))))

  -- a level above 64 adds nothing
  pub enough : (more : ℕ) → forest_at (deepest + more) no_parent ≡ trees_of text components properties parameters
  enough zero = refl
  enough (suc more) =
      let e : deepest + suc more ≡ suc (deepest + more) = omega arith in
      rw e (sym (one_more (deepest + more) no_parent (λ row h o. omega (arith, (rows_nested components text_length fits row h).some))) ∙ enough more)

  -- nor does a level that is more than enough below a row: its tree is the same with every level that is enough
  pub tree_enough : (level more row : ℕ) → row < length components → deepest ≤ depth_of components row + level
      → tree_at text components properties parameters (level + more) row ≡ tree_at text components properties parameters level row
  tree_enough level zero row h e = ap (λ (n : ℕ). tree_at text components properties parameters n row) (add-zero level)
  tree_enough level (suc more) row h e =
      let f : level + suc more ≡ suc (level + more) = omega arith in
      rw f (sym (grown_same (level + more) row (component_of components row) none (λ ne. one_more (level + more) row (below (level + more) row h (omega arith) ne)))
      ∙ tree_enough level more row h e)
