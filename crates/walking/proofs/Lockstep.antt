-- Two fronts searched in lockstep: whether they are equally long, one row of each at a time. Assumes nothing.
use mathlib.Core.Path.{◌≡◌, refl, ◌∙◌}
use mathlib.Core.Bool.{Bool, true, false, not, ◌&&◌}
use mathlib.Core.List.{List}
use Prim.Native.Nat.{ℕ, suc, ◌+◌, ◌-◌, ◌/◌, ◌≤◌, ◌<◌}
use native.Mathlib.Omega.{arith}
use lib.ListN.{length, drop}
use lib.Dec.{eqb, ltb, eqb-zero-suc, eqb-suc-zero, eqb-suc-suc}
use borrow.Author.Tests.{ltb-true, ltb-false, lt-ltb, le-ltb}
use Rattle.tables.specs.Rows.{rows_of, component_size, component_at}
use Rattle.tables.specs.Lent.{components_in}
use Rattle.tables.specs.Fronts.{front}
use Rattle.tables.proofs.Laws.{row_here, rows_end}
use Rattle.tables.proofs.Fronts.{on, stop, ended}
use Rattle.walking.specs.Walk.{deeper, end_of, stands}
use Rattle.walking.proofs.Search.{depth_there}

module _ {A : Type 0} (size : ℕ) (at : List ℕ → ℕ → A) (class : A → Bool) (table : List ℕ) where
  -- a row that is there is asked for its class, and no other stands
  pub stands_there : (i : ℕ) → i < length table / size → class (at table i) ≡ stands size at class table i
  stands_there i h = rw (lt-ltb i (length table / size) h)

  pub stands_not : (i : ℕ) → length table / size ≤ i → false ≡ stands size at class table i
  stands_not i h = rw (le-ltb i (length table / size) h)

  pub is_there : (i : ℕ) → stands size at class table i ≡ true → i < length table / size
  is_there i = go (ltb i (length table / size)) refl
    where
      go : (t : Bool) → ltb i (length table / size) ≡ t → t && class (at table i) ≡ true → i < length table / size
      go true e s = ltb-true i (length table / size) e
      go false e s = ltb-true i (length table / size) (e ∙ s)

  -- the front from row i on
  abbrev pub ahead : ℕ → ℕ
  ahead i = front class (drop i (rows_of size at table))

  -- it goes on where the row stands, and ends where not
  pub ahead_on : (i : ℕ) → stands size at class table i ≡ true → ahead i ≡ suc (ahead (i + 1))
  ahead_on i s = let h = is_there i s in on class _ _ (at table i) (row_here size at table i h) (stands_there i h ∙ s)

  pub ahead_ends : (i : ℕ) → stands size at class table i ≡ false → ahead i ≡ 0
  ahead_ends i = go (ltb i (length table / size)) refl
    where
      go : (t : Bool) → ltb i (length table / size) ≡ t → t && class (at table i) ≡ false → ahead i ≡ 0
      go true e s = stop class _ _ (at table i) (row_here size at table i (ltb-true i (length table / size) e)) s
      go false e s = ended class _ (rows_end size at table i (ltb-false i (length table / size) e))

module _ {A : Type 0} (size : ℕ) (at : List ℕ → ℕ → A) (one other : A → Bool) (table : List ℕ) where
  abbrev pub level : ℕ → ℕ → Bool
  level i j = eqb (ahead size at one table i) (ahead size at other table j)

  module _ (i j : ℕ) where
    -- both go on
    pub both_on : stands size at one table i ≡ true → stands size at other table j ≡ true → level (i + 1) (j + 1) ≡ level i j
    both_on s t = rw (ahead_on size at one table i s, ahead_on size at other table j t, eqb-suc-suc)

    -- only the first goes on
    pub one_longer : stands size at one table i ≡ true → stands size at other table j ≡ false → false ≡ level i j
    one_longer s t = rw (ahead_on size at one table i s, ahead_ends size at other table j t, eqb-suc-zero)

    -- the first ends: they are equal exactly if the other ends too
    pub one_ends : stands size at one table i ≡ false → not (stands size at other table j) ≡ level i j
    one_ends s = rw (ahead_ends size at one table i s) (go (stands size at other table j) refl)
      where
        go : (t : Bool) → stands size at other table j ≡ t → not t ≡ eqb 0 (ahead size at other table j)
        go true t = rw (ahead_on size at other table j t, eqb-zero-suc)
        go false t = rw (ahead_ends size at other table j t)

-- the subtrees of two components have equally many rows if equally many are deeper behind both
module _ (table : List ℕ) where
  below_is : {depth : ℕ} (row : ℕ) → row < length table / component_size → depth ≡ (component_at table row).depth
      → end_of (components_in table) row - row ≡ suc (ahead component_size component_at (deeper depth) table (row + 1))
  below_is row h e = rw (e, depth_there table row h) (omega arith)

  pub sizes : {one other : ℕ} (first second : ℕ) → first < length table / component_size → second < length table / component_size
      → one ≡ (component_at table first).depth → other ≡ (component_at table second).depth
      → level component_size component_at (deeper one) (deeper other) table (first + 1) (second + 1)
      ≡ eqb (end_of (components_in table) first - first) (end_of (components_in table) second - second)
  sizes first second h k e f = rw (below_is first h e, below_is second k f, eqb-suc-suc)
