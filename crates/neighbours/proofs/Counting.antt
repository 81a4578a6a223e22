-- The children of a component in turn, each compared with the one before it. Assumes nothing.
use mathlib.Core.Path.{◌≡◌, sym, ap, ◌∙◌}
use mathlib.Core.Bool.{Bool, true, false}
use Prim.Native.Nat.{ℕ, ◌+◌, ◌≤◌, ◌<◌, zero-le}
use native.Mathlib.Nat.{add_assoc}
use native.Mathlib.Omega.{arith}
use lib.ListN.{length}
use mir.Val.{bool_byte}
use Rattle.octets.specs.Choice.{pick}
use Rattle.octets.specs.Answers.{deepest}
use Rattle.tables.specs.Trees.{Trees, none}
use Rattle.tables.specs.Lent.{Lent, tree_in}
use Rattle.walking.specs.Walk.{end_of, Reached}
use Rattle.walking.specs.Places.{Ruled}
use Rattle.walking.specs.declared.Cursor.{Cursor}
use Rattle.walking.proofs.Siblings.{end_later}
use Rattle.walking.proofs.Walks.{reached_start, reached_on}
use Rattle.walking.proofs.Along.{comps, props, params, Children, trees_from, first_ahead, none_ahead, onward, begin_children, children_ahead}
use Rattle.comparing.specs.Pieces.{same_value, same_parameters}
use Rattle.matching.specs.Alike.{same_trees}
use Rattle.matching.proofs.Alike.{none_first}
use Rattle.twins.specs.Answers.{levels, twin_rows}
use Rattle.twins.specs.declared.Spot.{Spot}
use Rattle.neighbours.specs.Counts.{repeats, children_in, first_child}

-- a pair adds at most one
pub at_most_one : {n : ℕ} (t : Bool) → n ≡ pick t 1 0 → n ≤ 1
at_most_one true e = omega arith
at_most_one false e = omega arith

module _ (b : Lent) (parent last : ℕ) where
  -- the trees of the children from a row on
  abbrev ahead_of : ℕ → Trees
  ahead_of row = trees_from b levels parent row last

  -- the first of them is compared with the tree before it
  turn : {row : ℕ} {cursor : Cursor} (before : Trees) → Children b parent last row cursor → row < last
      → repeats before (ahead_of row) ≡ pick (same_trees before (tree_in b levels row)) 1 0 + repeats (tree_in b levels row) (ahead_of (end_of (comps b) row))
  unfolding repeats
  turn before a h = ap (repeats before) (first_ahead b levels a h)

  -- without one, nothing is counted
  over : (before : Trees) (row : ℕ) → last ≤ row → repeats before (ahead_of row) ≡ 0
  unfolding repeats
  over before row h = ap (repeats before) (none_ahead b levels parent row last h)

  -- the children up to `next` are compared, the last of them is `before`, and so many are like the one before them
  pub record Counting (before next : Spot) (found : ℕ) : Type 0 where
    pub here : before.row < last
    pub ahead : Children b parent last next.row next.cursor
    pub there : Children b parent last before.row before.cursor
    pub behind : next.row ≡ end_of (comps b) before.row
    pub few : found ≤ before.row
    pub count : found + repeats (tree_in b levels before.row) (ahead_of next.row) ≡ repeats none (ahead_of (parent + 1))

  module _ {before next : Spot} {found : ℕ} (c : Counting before next found) where
    pub counted : {twins : ℕ} {next' : Spot} → next.row < last → twins ≡ pick (twin_rows b before.row next.row) 1 0
        → next'.row ≡ end_of (comps b) next.row → Reached (props b) (params b) next'.cursor next'.row
        → Counting next next' (found + twins)
    counted {twins} h e f r =
        record {
          here = h;
          ahead = onward b c.ahead h f r;
          there = c.ahead;
          behind = f;
          few = omega (arith, c.few, c.behind, end_later (comps b) before.row, at_most_one (twin_rows b before.row next.row) e);
          count = rw (f, e, add_assoc) (ap (λ (n : ℕ). found + n) (sym (turn (tree_in b levels before.row) c.ahead h)) ∙ c.count);
        }

  module _ (ruled : Ruled b) (there : parent < length (comps b)) (ends : last ≡ end_of (comps b) parent) where
    first_child_holds : Children b parent last (parent + 1) (record { property = 0; parameter = 0 })
    first_child_holds =
        begin_children b ruled deepest parent there ends (reached_on (props b) (params b) parent (reached_start (props b) (params b)) zero-le)

    children_are : children_in b parent ≡ ahead_of (parent + 1)
    children_are = children_ahead b ruled deepest parent there ends

    -- there is no child
    pub no_child : {child : Spot} → child ≡ first_child parent → last ≤ child.row → 0 ≡ repeats none (children_in b parent)
    no_child e h = sym (ap (repeats none) children_are ∙ over none (parent + 1) (rw e at h))

    -- the first one is there, and the next stands behind it
    module _ {child : Spot} (e : child ≡ first_child parent) (h : child.row < last) where
      pub child_there : Children b parent last child.row child.cursor
      child_there = rw e first_child_holds

      pub begin_count : {next : Spot} → next.row ≡ end_of (comps b) child.row → Reached (props b) (params b) next.cursor next.row
          → Counting child next 0
      begin_count f r =
          record {
            here = h;
            ahead = onward b child_there h f r;
            there = child_there;
            behind = f;
            few = zero-le;
            count = rw (f, e) (sym (turn none first_child_holds (rw e at h) ∙ rw (none_first same_value same_parameters)));
          }

    -- there is none behind the last one
    pub end_count : {before next : Spot} {found : ℕ} → Counting before next found → last ≤ next.row
        → found ≡ repeats none (children_in b parent)
    end_count {before} {next} c h = omega (arith, c.count, over (tree_in b levels before.row) next.row h, ap (repeats none) children_are)

-- a pair that is alike counts one
pub as_many : {n : ℕ} {alike : Bool} (told : Bool) → n ≡ bool_byte told → told ≡ alike → n ≡ pick alike 1 0
as_many true e a = rw (← a) e
as_many false e a = rw (← a) e
