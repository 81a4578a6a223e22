-- What the table rule says of one component row: how deep it stands, and that all rows behind its parent stand deeper than the parent.
-- Assumes nothing.
use mathlib.Core.Path.{◌≡◌, refl, ap, ◌∙◌}
use mathlib.Core.Bool.{Bool, true, false, ◌&&◌}
use mathlib.Core.List.{List, [], ◌∷◌}
use Prim.Native.Nat.{ℕ, ◌+◌, ◌≤◌, ◌<◌}
use native.Mathlib.Numerals.{add-one}
use native.Mathlib.Omega.{arith}
use lib.ListN.{length, get_or, drop, length-drop}
use lib.Seq.{drop-cons}
use lib.Dec.{eqb, leb, ltb}
use borrow.Author.Tests.{eqb-true, eqb-false, leb-true, ltb-true, ltb-false, eq-eqb, ne_eqb}
use Rattle.octets.specs.Choice.{pick}
use Rattle.octets.specs.Answers.{deepest}
use Rattle.octets.proofs.Bools.{both}
use Rattle.tables.specs.Rows.{no_parent, component_at}
use Rattle.tables.specs.TableRule.{Opened, inside, out_from, ancestors, some, parent_fits, parent_depth, depth_fits, component_fits, opens_after, broken_component}
use Rattle.tables.specs.declared.ComponentRow.{ComponentRow}
use Rattle.std.specs.Prelude.{None}
use Rattle.tables.proofs.Rule.{first_fits}

-- an element that is there is read alike whatever is read past the end
pub either_default : {A : Type 0} (xs : List A) (i : ℕ) (d d' : A) → i < length xs → get_or xs i d ≡ get_or xs i d'
either_default xs i d d' h = cc (drop-cons xs i d h, drop-cons xs i d' h)

-- the component at a row
abbrev pub component_of : List ComponentRow → ℕ → ComponentRow
component_of components row = get_or components row (component_at [] 0)

abbrev pub depth_of : List ComponentRow → ℕ → ℕ
depth_of components row = (component_of components row).depth

module _ (components : List ComponentRow) where
  -- a row stands inside its parent: one deeper, and so are or deeper all rows between them
  pub record Under (row parent : ℕ) : Type 0 where
    pub earlier : parent < row
    pub deeper : depth_of components row ≡ depth_of components parent + 1
    pub between : (k : ℕ) → parent < k → k < row → depth_of components parent < depth_of components k

  pub record Nested (row : ℕ) : Type 0 where
    pub some : 0 < depth_of components row
    pub bounded : depth_of components row ≤ deepest
    pub top : (component_of components row).parent ≡ no_parent → depth_of components row ≡ 1
    pub under : ((component_of components row).parent ≡ no_parent → ⊥) → Under row (component_of components row).parent

  -- the rows that the row i may name as its parent, innermost first: their depths fall by one, and rows behind one of them stand deeper
  data Chain (i : ℕ) : List Opened → Type 0 where
    none : Chain i []
    next : {o : Opened} {os : List Opened} → o.row < i → depth_of components o.row ≡ o.depth → o.depth ≡ length os + 1
        → ((k : ℕ) → o.row < k → k < i → o.depth < depth_of components k) → Chain i os → Chain i (o ∷ os)

  chain_depth : {i : ℕ} {os : List Opened} → Chain i os → parent_depth os ≡ length os
  chain_depth none = refl
  chain_depth (next r d l b c) = omega arith

  chain_out : {i : ℕ} (parent : ℕ) {os : List Opened} → Chain i os → Chain i (out_from parent os)
  unfolding out_from
  chain_out parent none = none
  chain_out {i} parent (next {o} {os} r d l b c) = go (eqb o.row parent) (chain_out parent c)
    where
      go : (t : Bool) → Chain i (out_from parent os) → Chain i (pick t (o ∷ os) (out_from parent os))
      go true outer = next {o = o} {os = os} r d l b c
      go false outer = outer

  -- a parent that is among them
  record Parent (i parent : ℕ) (os : List Opened) : Type 0 where
    earlier : parent < i
    depth : depth_of components parent ≡ length (out_from parent os)
    between : (k : ℕ) → parent < k → k < i → depth_of components parent < depth_of components k

  parent_of : {i : ℕ} (parent : ℕ) {os : List Opened} → Chain i os → some (out_from parent os) ≡ true → Parent i parent os
  unfolding out_from
  parent_of parent none e = absurd (let z : ◌≡◌ {A = ℕ} 0 1 = cc in omega arith)
  parent_of {i} parent (next {o} {os} r d l b c) e = go (eqb o.row parent) refl (λ e. parent_of parent c e) e
    where
      go : (t : Bool) → eqb o.row parent ≡ t → (some (out_from parent os) ≡ true → Parent i parent os)
          → some (pick t (o ∷ os) (out_from parent os)) ≡ true → Parent i parent (o ∷ os)
      go true t outer e =
          let p : o.row ≡ parent = eqb-true o.row parent t in
          record {
            earlier = omega arith;
            depth = rw (t, ← p) (d ∙ (l ∙ add-one (length os)));
            between = λ k h m. rw (← p, d) (b k (omega arith) m);
          }
      go false t outer e =
          let q = outer e in
          record { earlier = q.earlier; depth = rw t q.depth; between = q.between }

  -- a row deeper than all of them leaves them as they are
  chain_next : {i : ℕ} {os : List Opened} → Chain i os → length os < depth_of components i → Chain (i + 1) os
  chain_next none h = none
  chain_next {i} (next {o} {os} r d l b c) h =
      next {o = o} {os = os} (omega arith) d l (λ k p q. by k p q (ltb k i) refl) (chain_next c (omega arith))
    where
      by : (k : ℕ) → o.row < k → k < i + 1 → (t : Bool) → ltb k i ≡ t → o.depth < depth_of components k
      by k p q true t = b k p (ltb-true k i t)
      by k p q false t =
          let e : k ≡ i = omega (arith, ltb-false k i t) in
          rw e (omega arith)

  module _ (text_length : ℕ) where
    -- a row that fits: its ancestors, its depth, and what is open behind it
    module _ (i : ℕ) (opens : List Opened) (chain : Chain i opens) (fits : component_fits text_length opens (component_of components i) ≡ true) where
      abbrev c : ComponentRow
      c = component_of components i

      rest : parent_fits opens c && depth_fits opens c ≡ true
      rest = (both (inside text_length c.name_start c.name_len) _ fits).1

      depths : depth_fits opens c ≡ true
      depths = (both (parent_fits opens c) (depth_fits opens c) rest).1

      around : Chain i (ancestors opens c)
      around = go (eqb c.parent no_parent)
        where
          go : (t : Bool) → Chain i (pick t [] (out_from c.parent opens))
          go true = none
          go false = chain_out c.parent chain

      depth_is : c.depth ≡ length (ancestors opens c) + 1
      depth_is =
          let e = eqb-true c.depth (parent_depth (ancestors opens c) + 1) (both _ _ depths).0 in
          omega (arith, chain_depth around)

      after : Chain (i + 1) (opens_after i opens c)
      after =
          next {o = record { row = i; depth = c.depth }} {os = ancestors opens c} (omega arith) refl depth_is (λ k p q. absurd (omega arith))
          (chain_next around (omega (arith, depth_is)))

      nested : Nested i
      nested =
          record {
            some = omega (arith, depth_is);
            bounded = leb-true c.depth deepest (both (eqb c.depth (parent_depth (ancestors opens c) + 1)) (leb c.depth deepest) depths).1;
            top = λ e. depth_is ∙ rw (eqb_is e);
            under = λ ne. found ne (parent_of c.parent chain (listed ne));
          }
        where
          eqb_is : c.parent ≡ no_parent → eqb c.parent no_parent ≡ true
          eqb_is e = eq-eqb c.parent no_parent e

          listed : (c.parent ≡ no_parent → ⊥) → some (out_from c.parent opens) ≡ true
          listed ne = (rw (ne_eqb c.parent no_parent ne) at (both (parent_fits opens c) (depth_fits opens c) rest).0)

          found : (c.parent ≡ no_parent → ⊥) → Parent i c.parent opens → Under i c.parent
          found ne p =
              record {
                earlier = p.earlier;
                deeper = (rw (ne_eqb c.parent no_parent ne) at depth_is) ∙ rw (← p.depth);
                between = p.between;
              }

    all_nested : (xs : List ComponentRow) (i : ℕ) (opens : List Opened) → xs ≡ drop i components → Chain i opens
        → broken_component text_length i opens xs ≡ None → (row : ℕ) → i ≤ row → row < length components → Nested row
    all_nested [] i opens e chain fits row h l = absurd (omega (arith, length-drop i components, ap length e))
    all_nested (x ∷ xs) i opens e chain fits row h l =
        let split = first_fits (component_fits text_length) opens_after i opens x xs fits in
        let f : component_fits text_length opens (component_of components i) ≡ true = rw first at split.0 in
        go (eqb i row) refl f
        (λ m. all_nested xs (i + 1) (opens_after i opens x) later (rw first (after i opens chain f)) split.1 row (omega arith) l)
      where
        here : drop i components ≡ component_of components i ∷ drop (i + 1) components
        here = rw (add-one, drop-cons components i (component_at [] 0) (omega arith))

        first : x ≡ component_of components i
        first = cc here

        later : xs ≡ drop (i + 1) components
        later = cc here

        go : (t : Bool) → eqb i row ≡ t → component_fits text_length opens (component_of components i) ≡ true → (i < row → Nested row) → Nested row
        go true t f outer = rw (← eqb-true i row t) (nested i opens chain f)
        go false t f outer = outer (omega (arith, eqb-false i row t))

  -- so every component row of tables that meet the rule
  pub rows_nested : (text_length : ℕ) → broken_component text_length 0 [] components ≡ None → (row : ℕ) → row < length components → Nested row
  rows_nested text_length fits row l = all_nested text_length components 0 [] refl none fits row (omega arith) l
