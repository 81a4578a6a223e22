-- A walk along rows that stand side by side below one parent: how far it has come, and the trees of the rows that are still ahead.
-- Assumes nothing.
use mathlib.Core.Path.{◌≡◌, refl, sym, ◌∙◌}
use mathlib.Core.Bool.{Bool, true, false}
use mathlib.Core.List.{List}
use Prim.Native.Nat.{ℕ, zero, suc, ◌+◌, ◌-◌, ◌≤◌, ◌<◌}
use native.Mathlib.Omega.{arith}
use lib.ListN.{length}
use lib.Dec.{eqb}
use borrow.Author.Tests.{ne_eqb}
use Rattle.octets.specs.Choice.{pick}
use Rattle.tables.specs.Rows.{no_parent}
use Rattle.tables.specs.Trees.{Trees, none, children_of, forest, grown}
use Rattle.tables.specs.Lent.{Lent, components_in, properties_in, parameters_in}
use Rattle.tables.specs.declared.ComponentRow.{ComponentRow}
use Rattle.tables.specs.declared.PropertyRow.{PropertyRow}
use Rattle.tables.specs.declared.ParameterRow.{ParameterRow}
use Rattle.tables.proofs.Gathered.{over}
use Rattle.tables.proofs.Nested.{Nested, component_of, depth_of, rows_nested}
use Rattle.walking.specs.Walk.{end_of, Reached}
use Rattle.walking.specs.Places.{Ruled, Arrived}
use Rattle.walking.specs.declared.Cursor.{Cursor}
use Rattle.walking.proofs.Walks.{reached_on}
use Rattle.walking.proofs.Rows.{end_after, end_before, some_level}
use Rattle.walking.proofs.Siblings.{Siblings, rows_up_to, sibling_trees, end_later, next_inside, next_siblings, sibling_first, children, children_trees}

module _ (b : Lent) where
  abbrev pub comps : List ComponentRow
  comps = components_in b.components

  abbrev pub props : List PropertyRow
  props = properties_in b.properties

  abbrev pub params : List ParameterRow
  params = parameters_in b.parameters

  -- the walk has come to `row`: one of the siblings from `first` up to `last`, which stand at depth d, or the end of them
  pub record Along (parent d first last row : ℕ) (cursor : Cursor) : Type 0 where
    pub after : first ≤ row
    pub bound : row ≤ last
    pub siblings : row < last → Siblings comps parent d row last
    pub reached : Reached props params cursor row

  pub begin : {parent d first last : ℕ} {cursor : Cursor} → first ≤ last → (first < last → Siblings comps parent d first last)
      → Reached props params cursor first → Along parent d first last first cursor
  begin h s r = record { after = omega arith; bound = h; siblings = s; reached = r }

  module _ {parent d first last row : ℕ} {cursor : Cursor} (a : Along parent d first last row cursor) (h : row < last) where
    -- the next one stands behind the subtree
    pub onward : {end : ℕ} {cursor' : Cursor} → end ≡ end_of comps row → Reached props params cursor' end → Along parent d first last end cursor'
    onward e r =
        record {
          after = omega (arith, a.after, e, end_later comps row);
          bound = omega (arith, e, next_inside comps (a.siblings h) h);
          siblings = λ k. rw e (next_siblings comps (a.siblings h) h);
          reached = r;
        }

    -- a row that is not the end is there
    pub placed : Arrived b row cursor
    placed = record { there = omega (arith, (a.siblings h).inside); reached = a.reached }

  -- ---- the trees ahead, their children as deep as the level allows

  module _ (level : ℕ) where
    abbrev pub trees_from : ℕ → ℕ → ℕ → Trees
    trees_from = sibling_trees comps b.text props params level

    pub first_ahead : {parent d first last row : ℕ} {cursor : Cursor} → Along parent d first last row cursor → row < last
        → trees_from parent row last
        ≡ grown b.text comps props params (forest b.text comps props params level) row (component_of comps row) (trees_from parent (end_of comps row) last)
    first_ahead a h = sibling_first comps (a.siblings h) h (grown b.text comps props params (forest b.text comps props params level)) none

    pub none_ahead : (parent from to : ℕ) → to ≤ from → trees_from parent from to ≡ none
    none_ahead parent from to h =
        let e : to - from ≡ 0 = omega arith in
        over (λ (c : ComponentRow). c.parent) (grown b.text comps props params (forest b.text comps props params level)) none parent from
        (rows_up_to comps from to) (rw e)

  -- ---- the children of a row

  -- the walk has come to one of them, or to where they end
  abbrev pub Children : ℕ → ℕ → ℕ → Cursor → Type 0
  Children row last child cursor = Along row (depth_of comps row + 1) (row + 1) last child cursor

  module _ (ruled : Ruled b) (level row : ℕ) (there : row < length comps) where
    nested : (n : ℕ) → n < length comps → Nested comps n
    nested = rows_nested comps (length b.text) ruled.components

    below : (level : ℕ) → children_of b.text comps props params (forest b.text comps props params level) row
        ≡ trees_from (level - 1) row (row + 1) (pick (eqb level 0) (row + 1) (end_of comps row))
    unfolding forest
    below zero = go (eqb row no_parent) ∙ sym (none_ahead 0 row (row + 1) (row + 1) (omega arith))
      where
        go : (t : Bool) → pick t none none ≡ none
        go true = refl
        go false = refl
    below (suc level) =
        let e : suc level - 1 ≡ level = omega arith in
        rw (e, ne_eqb (suc level) 0 (λ z. omega arith)) (children_trees comps nested b.text props params level row there)

    -- they end where children_end says
    module _ {last : ℕ} (ends : last ≡ pick (eqb level 0) (row + 1) (end_of comps row)) where
      pub begin_children : {cursor : Cursor} → Reached props params cursor row → Children row last (row + 1) cursor
      begin_children {cursor} r =
          begin (omega (arith, ends, end_after (row + 1) (end_of comps row) level (omega arith)))
          (λ l. rw (some_level (row + 1) (end_of comps row) level (row + 1) ends (omega arith) l).1 (children comps nested row there))
          (reached_on props params (row + 1) r (omega arith))

      -- their trees
      pub children_ahead : children_of b.text comps props params (forest b.text comps props params level) row ≡ trees_from (level - 1) row (row + 1) last
      children_ahead = rw ends (below level)

      module _ {child : ℕ} {cursor : Cursor} (a : Children row last child cursor) where
        -- where there is one there is a level for it
        pub level_left : child < last → 0 < level
        level_left h = (some_level (row + 1) (end_of comps row) level child ends a.after h).0

        -- a walk along them is inside the subtree
        pub behind : Reached props params cursor (end_of comps row)
        behind = reached_on props params (end_of comps row) a.reached
            (omega (arith, a.bound, ends, end_before (row + 1) (end_of comps row) level (omega arith)))
