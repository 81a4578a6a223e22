-- Rows that stand side by side below one parent: the next one stands behind the subtree of the one before, and there are no others.
-- Assumes nothing.
use mathlib.Core.Path.{◌≡◌, refl, sym, ap, ◌∙◌}
use mathlib.Core.Bool.{Bool, true, false}
use mathlib.Core.List.{List, [], ◌∷◌, ◌++◌}
use Prim.Native.Nat.{ℕ, zero, suc, ◌+◌, ◌-◌, ◌≤◌, ◌<◌, zero-le}
use native.Mathlib.Numerals.{add-one}
use native.Mathlib.Omega.{arith}
use lib.ListN.{length, get_or, take, drop, length-take, length-drop, take-append-drop}
use lib.Seq.{drop-cons, take-add, take_all, drop-drop, get_or-drop, get_or-take}
use lib.Dec.{eqb, leb, ltb}
use borrow.Author.Tests.{ltb-true, ltb-false, leb-true, leb-false, eqb-true, eqb-false}
use Rattle.octets.specs.Choice.{pick}
use Rattle.tables.specs.Rows.{no_parent, component_at}
use Rattle.tables.specs.Fronts.{front}
use Rattle.tables.specs.Trees.{Trees, none, gather, children_of, forest, grown}
use Rattle.tables.specs.declared.ComponentRow.{ComponentRow}
use Rattle.tables.specs.declared.PropertyRow.{PropertyRow}
use Rattle.tables.specs.declared.ParameterRow.{ParameterRow}
use Rattle.tables.proofs.Gathered.{taken, parts, strangers}
use Rattle.tables.proofs.Fronts.{within, each, beyond}
use Rattle.tables.proofs.Nested.{either_default, component_of, depth_of, Nested, Under}
use Rattle.walking.specs.Walk.{deeper, end_of}

module _ (components : List ComponentRow) where
  -- the rows from `from` up to `to`
  abbrev pub rows_up_to : ℕ → ℕ → List ComponentRow
  rows_up_to from to = take (to - from) (drop from components)

  -- the trees of those of them that have a parent, their children as deep as the level allows
  abbrev pub sibling_trees : List ℕ → List PropertyRow → List ParameterRow → ℕ → ℕ → ℕ → ℕ → Trees
  sibling_trees text properties parameters level parent from to =
      gather (λ (c : ComponentRow). c.parent) (grown text components properties parameters (forest text components properties parameters level))
      none parent from (rows_up_to from to)

  -- ---- the subtree of a row

  pub end_later : (row : ℕ) → row < end_of components row
  end_later row = omega arith

  pub end_within : (row : ℕ) → row < length components → end_of components row ≤ length components
  end_within row h = omega (arith, within (deeper (depth_of components row)) (drop (row + 1) components), length-drop (row + 1) components)

  pub subtree_deeper : (row k : ℕ) → row < k → k < end_of components row → depth_of components row < depth_of components k
  subtree_deeper row k h l =
      let e : row + 1 + (k - (row + 1)) ≡ k = omega arith in
      ltb-true (depth_of components row) (depth_of components k)
      (rw (get_or-drop (row + 1) components (k - (row + 1)) (component_at [] 0), e)
      at (each (deeper (depth_of components row)) (drop (row + 1) components) (k - (row + 1)) (component_at [] 0) (omega arith)))

  pub end_no_deeper : (row : ℕ) → end_of components row < length components → depth_of components (end_of components row) ≤ depth_of components row
  end_no_deeper row h =
      ltb-false (depth_of components row) (depth_of components (end_of components row))
      (rw (get_or-drop (row + 1) components (front (deeper (depth_of components row)) (drop (row + 1) components)) (component_at [] 0))
      at (beyond (deeper (depth_of components row)) (drop (row + 1) components) (component_at [] 0) (omega (arith, length-drop (row + 1) components))))

  -- ---- siblings

  -- from the row `from` on, which is one of them, up to `to` the rows of depth d are those below the parent, and no row stands higher
  pub record Siblings (parent d from to : ℕ) : Type 0 where
    pub ordered : from ≤ to
    pub inside : to ≤ length components
    pub first : from < to → depth_of components from ≡ d
    pub deep : (row : ℕ) → from ≤ row → row < to → d ≤ depth_of components row
    pub theirs : (row : ℕ) → from ≤ row → row < to → depth_of components row ≡ d → (component_of components row).parent ≡ parent
    pub others : (row : ℕ) → from ≤ row → row < to → (component_of components row).parent ≡ parent → depth_of components row ≡ d
    pub edge : to < length components → depth_of components to < d

  module _ {parent d from to : ℕ} (s : Siblings parent d from to) (h : from < to) where
    pub next_inside : end_of components from ≤ to
    next_inside = go (leb (end_of components from) to) refl
      where
        go : (t : Bool) → leb (end_of components from) to ≡ t → end_of components from ≤ to
        go true e = leb-true (end_of components from) to e
        go false e =
            let l = leb-false (end_of components from) to e in
            absurd (omega (arith, subtree_deeper from to h l, s.edge (omega (arith, end_within from (omega (arith, s.inside)))), s.first h))

    pub next_siblings : Siblings parent d (end_of components from) to
    next_siblings =
        record {
          ordered = next_inside;
          inside = s.inside;
          first = λ l. omega (arith, end_no_deeper from (omega (arith, s.inside)), s.first h, s.deep (end_of components from) (omega arith) l);
          deep = λ row a b. s.deep row (omega arith) b;
          theirs = λ row a b. s.theirs row (omega arith) b;
          others = λ row a b. s.others row (omega arith) b;
          edge = s.edge;
        }

    -- the first one, and then those behind its subtree
    pub sibling_first : {R : Type 0} (before : ℕ → ComponentRow → R → R) (nothing : R)
        → gather (λ (c : ComponentRow). c.parent) before nothing parent from (rows_up_to from to)
        ≡ before from (component_of components from)
        (gather (λ (c : ComponentRow). c.parent) before nothing parent (end_of components from) (rows_up_to (end_of components from) to))
    sibling_first before nothing =
        taken (λ (c : ComponentRow). c.parent) before nothing parent from (rows_up_to from to) (rows_up_to (from + 1) to) (component_of components from) here
        (s.theirs from (omega arith) h (s.first h))
        ∙ ap (before from (component_of components from))
        (rw split (parts (λ (c : ComponentRow). c.parent) before nothing parent (from + 1) inner outer ∙ (rw count skipped)))
      where
        inner : List ComponentRow
        inner = rows_up_to (from + 1) (end_of components from)

        outer : List ComponentRow
        outer = rows_up_to (end_of components from) to

        here : rows_up_to from to ≡ component_of components from ∷ rows_up_to (from + 1) to
        here =
            let e : to - from ≡ suc (to - (from + 1)) = omega arith in
            rw (e, drop-cons components from (component_at [] 0) (omega (arith, s.inside)), add-one)

        split : rows_up_to (from + 1) to ≡ inner ++ outer
        split =
            let e : to - (from + 1) ≡ end_of components from - (from + 1) + (to - end_of components from) = omega (arith, next_inside) in
            let f : from + 1 + (end_of components from - (from + 1)) ≡ end_of components from = omega arith in
            rw (e, take-add, drop-drop, f)

        count : from + 1 + length inner ≡ end_of components from
        count = omega (arith, length-take (end_of components from - (from + 1)) (drop (from + 1) components), length-drop (from + 1) components, s.inside, next_inside)

        outside : (i : ℕ) (x : ComponentRow) → i < length inner → (get_or inner i x).parent ≡ parent → ⊥
        outside i x l o =
            let m : i < end_of components from - (from + 1) = omega (arith, length-take (end_of components from - (from + 1)) (drop (from + 1) components)) in
            let e : get_or inner i x ≡ component_of components (from + 1 + i) =
            either_default inner i x (component_at [] 0) l ∙ rw (get_or-take (end_of components from - (from + 1)) (drop (from + 1) components) i (component_at [] 0) m, get_or-drop) in
            omega (arith, s.others (from + 1 + i) (omega arith) (omega (arith, next_inside)) (rw e at o), subtree_deeper from (from + 1 + i) (omega arith) (omega arith), s.first h)

        skipped : gather (λ (c : ComponentRow). c.parent) before
            (gather (λ (c : ComponentRow). c.parent) before nothing parent (end_of components from) outer) parent (from + 1) inner
            ≡ gather (λ (c : ComponentRow). c.parent) before nothing parent (end_of components from) outer
        skipped =
            strangers (λ (c : ComponentRow). c.parent) before (gather (λ (c : ComponentRow). c.parent) before nothing parent (end_of components from) outer) parent (from + 1) inner
            outside

  -- ---- all siblings of a table, and the children of a row

  module _ (nested : (row : ℕ) → row < length components → Nested components row) where
    abbrev parent_of : ℕ → ℕ
    parent_of row = (component_of components row).parent

    -- a row at the top, or below its parent
    by_parent : {B : Type 0} (row : ℕ) → row < length components → (parent_of row ≡ no_parent → B) → (Under components row (parent_of row) → B) → B
    by_parent {B} row h top below = go (eqb (parent_of row) no_parent) refl
      where
        go : (t : Bool) → eqb (parent_of row) no_parent ≡ t → B
        go true t = top (eqb-true (parent_of row) no_parent t)
        go false t = below ((nested row h).under (eqb-false (parent_of row) no_parent t))

    -- the rows at the top
    pub tops : Siblings no_parent 1 0 (length components)
    tops =
        record {
          ordered = zero-le;
          inside = omega arith;
          first = λ h. by_parent 0 h (λ e. (nested 0 h).top e) (λ u. absurd (omega (arith, u.earlier)));
          deep = λ row a b. (nested row b).some;
          theirs = λ row a b e. by_parent row b (λ p. p) (λ u. absurd (omega (arith, u.deeper, (nested (parent_of row) (omega (arith, u.earlier))).some)));
          others = λ row a b e. (nested row b).top e;
          edge = λ h. absurd (omega arith);
        }

    module _ (row : ℕ) (h : row < length components) where
      -- a row of the subtree stands below its parent, which is the row or another of the subtree
      inner : (k : ℕ) → row < k → k < end_of components row → Under components k (parent_of k) × (row ≤ parent_of k)
      inner k a b =
          let l : k < length components = omega (arith, end_within row h) in
          let d = subtree_deeper row k a b in
          by_parent k l (λ e. absurd (omega (arith, (nested k l).top e, (nested row h).some)))
          (λ u. (u, after u (ltb (parent_of k) row) refl))
        where
          after : Under components k (parent_of k) → (t : Bool) → ltb (parent_of k) row ≡ t → row ≤ parent_of k
          after u true t =
              absurd (omega (arith, u.between row (ltb-true (parent_of k) row t) a, u.deeper, subtree_deeper row k a b))
          after u false t = ltb-false (parent_of k) row t

      its : (k : ℕ) → row < k → k < end_of components row → depth_of components k ≡ depth_of components row + 1 → parent_of k ≡ row
      its k a b e = go (ltb row (parent_of k)) refl
        where
          u : Under components k (parent_of k) × (row ≤ parent_of k)
          u = inner k a b

          go : (t : Bool) → ltb row (parent_of k) ≡ t → parent_of k ≡ row
          go true t =
              absurd (omega (arith, subtree_deeper row (parent_of k) (ltb-true row (parent_of k) t) (omega (arith, u.0.earlier)), u.0.deeper))
          go false t = omega (arith, ltb-false row (parent_of k) t, u.1)

      -- the children of a row
      pub children : Siblings row (depth_of components row + 1) (row + 1) (end_of components row)
      children =
          record {
            ordered = omega arith;
            inside = end_within row h;
            first = λ l. below_next l;
            deep = λ k a b. omega (arith, subtree_deeper row k (omega arith) b);
            theirs = λ k a b e. its k (omega arith) b e;
            others = λ k a b e. (inner k (omega arith) b).0.deeper ∙ ap (λ (n : ℕ). depth_of components n + 1) e;
            edge = λ l. omega (arith, end_no_deeper row l);
          }
        where
          below_next : row + 1 < end_of components row → depth_of components (row + 1) ≡ depth_of components row + 1
          below_next l =
              let u = inner (row + 1) (omega arith) l in
              let e : parent_of (row + 1) ≡ row = omega (arith, u.0.earlier, u.1) in
              u.0.deeper ∙ ap (λ (n : ℕ). depth_of components n + 1) e

      -- no row of a subtree stands at the top
      none_at_top : row ≡ no_parent → (k : ℕ) → row + 1 ≤ k → k < end_of components row → parent_of k ≡ row → ⊥
      none_at_top e k a b o = let l : k < length components = omega (arith, end_within row h) in
          omega (arith, (nested k l).top (o ∙ e), subtree_deeper row k (omega arith) b, (nested row h).some)

      -- so those rows of a table that have the row as their parent stand in its subtree
      module _ {R : Type 0} (before : ℕ → ComponentRow → R → R) (nothing : R) where
        abbrev at : R → ℕ → List ComponentRow → R
        at end n xs = gather (λ (c : ComponentRow). c.parent) before end row n xs

        pub all_inside : (row ≡ no_parent → ⊥) → at nothing 0 components ≡ at nothing (row + 1) (rows_up_to (row + 1) (end_of components row))
        all_inside ne =
            ap (at nothing 0) split
            ∙ (parts (λ (c : ComponentRow). c.parent) before nothing row 0 front_rows (window ++ back_rows)
            ∙ (strangers (λ (c : ComponentRow). c.parent) before _ row 0 front_rows not_before
            ∙ (rw count (parts (λ (c : ComponentRow). c.parent) before nothing row (row + 1) window back_rows)
            ∙ ap (λ (end : R). at end (row + 1) window)
            (strangers (λ (c : ComponentRow). c.parent) before nothing row (row + 1 + length window) back_rows not_behind))))
          where
            front_rows : List ComponentRow
            front_rows = take (row + 1) components

            window : List ComponentRow
            window = rows_up_to (row + 1) (end_of components row)

            back_rows : List ComponentRow
            back_rows = drop (end_of components row) components

            split : components ≡ front_rows ++ (window ++ back_rows)
            split =
                let f : row + 1 + (end_of components row - (row + 1)) ≡ end_of components row = omega arith in
                sym (take-append-drop (row + 1) components)
                ∙ ap (λ (l : List ComponentRow). front_rows ++ l)
                (sym (take-append-drop (end_of components row - (row + 1)) (drop (row + 1) components)) ∙ rw (drop-drop, f))

            count : 0 + length front_rows ≡ row + 1
            count = omega (arith, length-take (row + 1) components)

            not_before : (i : ℕ) (x : ComponentRow) → i < length front_rows → (get_or front_rows i x).parent ≡ row → ⊥
            not_before i x l o =
                let m : i < row + 1 = omega (arith, length-take (row + 1) components) in
                let e : get_or front_rows i x ≡ component_of components i =
                either_default front_rows i x (component_at [] 0) l ∙ get_or-take (row + 1) components i (component_at [] 0) m in
                let p : parent_of i ≡ row = rw e at o in
                omega (arith, ((nested i (omega arith)).under (λ z. ne (sym p ∙ z))).earlier)

            not_behind : (i : ℕ) (x : ComponentRow) → i < length back_rows → (get_or back_rows i x).parent ≡ row → ⊥
            not_behind i x l o =
                let m : end_of components row + i < length components = omega (arith, length-drop (end_of components row) components) in
                let e : get_or back_rows i x ≡ component_of components (end_of components row + i) =
                either_default back_rows i x (component_at [] 0) l ∙ get_or-drop (end_of components row) components i (component_at [] 0) in
                let p : parent_of (end_of components row + i) ≡ row = rw e at o in
                let u = (nested (end_of components row + i) m).under (λ z. ne (sym p ∙ z)) in
                let d : depth_of components (end_of components row + i) ≡ depth_of components row + 1 =
                u.deeper ∙ ap (λ (n : ℕ). depth_of components n + 1) p in
                let n = end_no_deeper row (omega arith) in
                past i u p d n
              where
                past : (i : ℕ) → Under components (end_of components row + i) (parent_of (end_of components row + i)) → parent_of (end_of components row + i) ≡ row
                    → depth_of components (end_of components row + i) ≡ depth_of components row + 1 → depth_of components (end_of components row) ≤ depth_of components row → ⊥
                past zero u p d n =
                    let z : end_of components row + 0 ≡ end_of components row = omega arith in
                    omega (arith, ap (depth_of components) z)
                past (suc i) u p d n =
                    let q : depth_of components (parent_of (end_of components row + suc i)) ≡ depth_of components row = ap (depth_of components) p in
                    omega (arith, u.between (end_of components row) (omega arith) (omega arith))

        none_inside : row ≡ no_parent → nothing ≡ at nothing (row + 1) (rows_up_to (row + 1) (end_of components row))
        none_inside z =
            sym (strangers (λ (c : ComponentRow). c.parent) before nothing row (row + 1) (rows_up_to (row + 1) (end_of components row)) (λ i x l o.
            let m : i < end_of components row - (row + 1) = omega (arith, length-take (end_of components row - (row + 1)) (drop (row + 1) components)) in
            let e : get_or (rows_up_to (row + 1) (end_of components row)) i x ≡ component_of components (row + 1 + i) =
            either_default (rows_up_to (row + 1) (end_of components row)) i x (component_at [] 0) l
            ∙ rw (get_or-take (end_of components row - (row + 1)) (drop (row + 1) components) i (component_at [] 0) m, get_or-drop) in
            none_at_top z (row + 1 + i) (omega arith) (omega arith) (rw e at o)))

    -- ---- trees

    module _ (text : List ℕ) (properties : List PropertyRow) (parameters : List ParameterRow) (level : ℕ) where
      pub children_trees : (row : ℕ) → row < length components
          → children_of text components properties parameters (forest text components properties parameters (suc level)) row
          ≡ sibling_trees text properties parameters level row (row + 1) (end_of components row)
      unfolding forest
      children_trees row h = go (eqb row no_parent) refl
        where
          go : (t : Bool) → eqb row no_parent ≡ t
              → pick t none (forest text components properties parameters (suc level) row)
              ≡ sibling_trees text properties parameters level row (row + 1) (end_of components row)
          go true t = none_inside row h (grown text components properties parameters (forest text components properties parameters level)) none (eqb-true row no_parent t)
          go false t = all_inside row h (grown text components properties parameters (forest text components properties parameters level)) none (eqb-false row no_parent t)

      pub top_trees : forest text components properties parameters (suc level) no_parent
          ≡ sibling_trees text properties parameters level no_parent 0 (length components)
      unfolding forest
      top_trees =
          let e : length components - 0 ≡ length components = omega arith in
          rw (e, take_all (length components) components (omega arith))
