-- Two components compared: their heads, and then their children in turn, one of each at a time, whatever test compares values. Assumes nothing.
use mathlib.Core.Path.{◌≡◌, refl, sym, ap, ◌∙◌}
use mathlib.Core.Bool.{Bool, true, false, ◌&&◌, and-false}
use mathlib.Core.List.{List}
use Prim.Native.Nat.{ℕ, ◌+◌, ◌-◌, ◌≤◌, ◌<◌, zero-le}
use native.Mathlib.Omega.{arith}
use lib.ListN.{length}
use lib.Dec.{eqb, leb, ltb}
use borrow.Author.Tests.{eqb-false, ltb-true, ltb-false, le-leb, lt-leb}
use Rattle.octets.specs.Choice.{pick}
use Rattle.octets.proofs.Bools.{both}
use Rattle.octets.specs.Views.{viewed}
use Rattle.octets.specs.Answers.{deepest}
use Rattle.tables.specs.Trees.{Trees, none, properties_of, children_of, forest}
use Rattle.tables.specs.Rows.{component_at}
use Rattle.tables.specs.Lent.{Lent, components_in, tree_in, name_in}
use Rattle.tables.specs.Sizes.{component_count}
use Rattle.tables.specs.declared.ComponentRow.{ComponentRow}
use Rattle.tables.proofs.Nested.{depth_of}
use Rattle.walking.specs.Walk.{end_of, Reached, Holds}
use Rattle.walking.specs.Places.{Ruled, Arrived}
use Rattle.walking.specs.declared.Cursor.{Cursor}
use Rattle.walking.specs.declared.Window.{Window}
use Rattle.walking.proofs.Rows.{name_is}
use Rattle.walking.proofs.Walks.{reached_start, reached_on}
use Rattle.walking.proofs.Sizes.{tree_components}
use Rattle.walking.proofs.Along.{comps, props, params, trees_from, first_ahead, none_ahead, onward, Children, begin_children, children_ahead, behind}
use Rattle.comparing.specs.Pieces.{same_name, same_parameters}
use Rattle.matching.specs.Alike.{alike, same_property_by, same_trees_by}
use Rattle.matching.proofs.Alike.{alone, first_then, none_both, none_first, none_second, other_count}
use Rattle.twins.specs.Matched.{at_row, spot_in, Ended, Behind, alike_heads, alike_trees}
use Rattle.twins.specs.declared.Spot.{Spot}

-- the names of two rows as they are read
pub names_are : (text words : List ℕ) (one other : ℕ) {c d : ComponentRow} {same : Bool} → one < length (components_in words) → other < length (components_in words)
    → c ≡ component_at words one → d ≡ component_at words other
    → same ≡ same_name (viewed text c.name_start c.name_len) (viewed text d.name_start d.name_len)
    → same_name (name_in text (components_in words) one) (name_in text (components_in words) other) ≡ same
names_are text words one other h k e f p = rw (← name_is text words one h e, ← name_is text words other k f) (sym p)

-- a window tells where the subtree ends
pub ended_in : (b : Lent) {row : ℕ} {w : Window} {p : Spot} → Holds (comps b) (props b) (params b) row w → p ≡ spot_in w → Ended b row row p
ended_in b h x = rw x record { end = h.end; reached = h.reached }

-- a walk that has come to the end of a subtree
ended_at : {b : Lent} {number row : ℕ} {cursor : Cursor} → row ≡ end_of (comps b) number → Reached (props b) (params b) cursor (end_of (comps b) number)
    → Behind b number (record { row = row; cursor = cursor })
ended_at f r = rw f record { end = refl; reached = r }

module _ (values : List ℕ → List ℕ → Bool) (b : Lent) (level one other : ℕ) where
  abbrev children_in : ℕ → Trees
  children_in row = children_of b.text (comps b) (props b) (params b) (forest b.text (comps b) (props b) (params b) level) row

  by_heads : alike_trees values b level one other ≡ alike_heads values b one other && same_trees_by values same_parameters (children_in one) (children_in other)
  by_heads =
      alone values same_parameters (name_in b.text (comps b) one) (name_in b.text (comps b) other)
      (properties_of b.text (props b) (params b) one) (properties_of b.text (props b) (params b) other) (children_in one) (children_in other)

  -- heads that differ decide
  pub heads_differ : alike_heads values b one other ≡ false → alike_trees values b level one other ≡ false
  heads_differ e = by_heads ∙ rw e

  -- and so do properties
  pub properties_differ : alike (same_property_by values same_parameters) (properties_of b.text (props b) (params b) one) (properties_of b.text (props b) (params b) other) ≡ false
      → alike_trees values b level one other ≡ false
  properties_differ e = by_heads ∙ rw (e, and-false)

  -- the children of both in turn: those that are ahead compare as the two trees do
  pub record Paired (one_last other_last : ℕ) (p q : Spot) : Type 0 where
    pub first : Children b one one_last p.row p.cursor
    pub second : Children b other other_last q.row q.cursor
    pub ahead : same_trees_by values same_parameters (trees_from b (level - 1) one p.row one_last) (trees_from b (level - 1) other q.row other_last) ≡ alike_trees values b level one other

  module _ {one_last other_last : ℕ} {p q : Spot} (so : Paired one_last other_last p q) where
    -- one of each is next
    module _ (h : p.row < one_last) (k : q.row < other_last) where
      turn : alike_trees values b level one other
          ≡ same_trees_by values same_parameters (tree_in b (level - 1) p.row) (tree_in b (level - 1) q.row)
          && same_trees_by values same_parameters (trees_from b (level - 1) one (end_of (comps b) p.row) one_last) (trees_from b (level - 1) other (end_of (comps b) q.row) other_last)
      turn =
          sym so.ahead
          ∙ (rw (first_ahead b (level - 1) so.first h, first_ahead b (level - 1) so.second k)
          (first_then values same_parameters _ _ _ _ _ _ _ _))

      -- if they differ, so do the two trees
      pub pair_differs : alike_trees values b (level - 1) p.row q.row ≡ false → alike_trees values b level one other ≡ false
      pair_differs e = turn ∙ rw e

      -- if not, the next ones stand behind them
      pub pair_agrees : {x y : Spot} → alike_trees values b (level - 1) p.row q.row ≡ true → Behind b p.row x → Behind b q.row y → Paired one_last other_last x y
      pair_agrees e x y =
          record {
            first = onward b so.first h x.end x.reached;
            second = onward b so.second k y.end y.reached;
            ahead = rw (x.end, y.end) (sym (turn ∙ rw e));
          }

    -- one of the two has no more: the trees are alike exactly if both have none
    pub pairs_end : ltb p.row one_last && ltb q.row other_last ≡ false → leb one_last p.row && leb other_last q.row ≡ alike_trees values b level one other
    pairs_end e = go (ltb p.row one_last) refl (ltb q.row other_last) refl e ∙ so.ahead
      where
        one_trees : Trees
        one_trees = trees_from b (level - 1) one p.row one_last

        other_trees : Trees
        other_trees = trees_from b (level - 1) other q.row other_last

        none_left : one_last ≤ p.row → one_trees ≡ none
        none_left h = none_ahead b (level - 1) one p.row one_last h

        other_none : other_last ≤ q.row → other_trees ≡ none
        other_none h = none_ahead b (level - 1) other q.row other_last h

        go : (t : Bool) → ltb p.row one_last ≡ t → (u : Bool) → ltb q.row other_last ≡ u → t && u ≡ false
            → leb one_last p.row && leb other_last q.row ≡ same_trees_by values same_parameters one_trees other_trees
        go true t true u e = absurd (let z : ◌≡◌ {A = ℕ} 0 1 = cc in omega arith)
        go true t false u e =
            let h = ltb-true p.row one_last t in
            rw (lt-leb one_last p.row h, first_ahead b (level - 1) so.first h, other_none (ltb-false q.row other_last u))
            (sym (none_second values same_parameters _ _ _ _))
        go false t true u e =
            let k = ltb-true q.row other_last u in
            rw (le-leb one_last p.row (ltb-false p.row one_last t), lt-leb other_last q.row k, none_left (ltb-false p.row one_last t), first_ahead b (level - 1) so.second k)
            (sym (none_first values same_parameters _ _ _ _))
        go false t false u e =
            let h = ltb-false p.row one_last t in
            let k = ltb-false q.row other_last u in
            rw (le-leb one_last p.row h, le-leb other_last q.row k, none_left h, other_none k) (sym (none_both values same_parameters))

  module _ (ruled : Ruled b) (there_one : one < length (comps b)) (there_other : other < length (comps b)) {one_last other_last : ℕ}
      (ends_one : one_last ≡ pick (eqb level 0) (one + 1) (end_of (comps b) one)) (ends_other : other_last ≡ pick (eqb level 0) (other + 1) (end_of (comps b) other)) where
    -- heads that agree leave it to the children
    pub pairs_begin : {x y : Spot} → alike_heads values b one other ≡ true → Ended b one one x → Ended b other other y → Paired one_last other_last (at_row (one + 1) x) (at_row (other + 1) y)
    pairs_begin e x y =
        record {
          first = begin_children b ruled level one there_one ends_one x.reached;
          second = begin_children b ruled level other there_other ends_other y.reached;
          ahead =
              rw (← children_ahead b ruled level one there_one ends_one, ← children_ahead b ruled level other there_other ends_other)
              (sym (by_heads ∙ rw e));
        }

    -- and the walk stands behind both, once the children have ended
    pub pairs_behind : {x y p q : Spot} → Ended b one one x → Ended b other other y → Paired one_last other_last p q
        → Behind b one (at_row x.row p) × Behind b other (at_row y.row q)
    pairs_behind x y so =
        (ended_at x.end (behind b ruled level one there_one ends_one so.first), ended_at y.end (behind b ruled level other there_other ends_other so.second))

-- subtrees of different size have different trees, if the level is enough for both
pub sizes_differ : (values : List ℕ → List ℕ → Bool) (b : Lent) (level one other : ℕ) → Ruled b → one < length (comps b) → other < length (comps b)
    → deepest ≤ depth_of (comps b) one + level → deepest ≤ depth_of (comps b) other + level
    → eqb (end_of (comps b) one - one) (end_of (comps b) other - other) ≡ false → alike_trees values b level one other ≡ false
sizes_differ values b level one other ruled h k deep deep' e =
    let size : (row : ℕ) → row < length (comps b) → deepest ≤ depth_of (comps b) row + level → component_count (tree_in b level row) ≡ end_of (comps b) row - row =
    λ row. tree_components b.text (comps b) (props b) (params b) (length b.text) ruled.components level row
    in
    other_count values same_parameters (tree_in b level one) (tree_in b level other)
    (λ same. eqb-false (end_of (comps b) one - one) (end_of (comps b) other - other) e (sym (size one h deep) ∙ (same ∙ size other k deep')))

-- ---- where the comparison of two components stands

-- where the children of a row end, told by the spot behind its subtree
pub ends : (b : Lent) (level row : ℕ) {last : ℕ} {x : Spot} → last ≡ pick (eqb level 0) (row + 1) x.row → Ended b row row x
    → last ≡ pick (eqb level 0) (row + 1) (end_of (comps b) row)
ends b level row e x = e ∙ ap (λ (k : ℕ). pick (eqb level 0) (row + 1) k) x.end

-- both have one more
pub both_more : (m n k l : ℕ) → ltb m n && ltb k l ≡ true → (m < n) × (k < l)
both_more m n k l e = let p = both (ltb m n) (ltb k l) e in (ltb-true m n p.0, ltb-true k l p.1)

-- a cursor of zeros has come to any row
pub arrived : (b : Lent) (row : ℕ) → row < length (comps b) → Arrived b row (record { property = 0; parameter = 0 })
arrived b row h = record { there = h; reached = reached_on (props b) (params b) row (reached_start (props b) (params b)) zero-le }
