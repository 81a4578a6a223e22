-- The rows that a row may name as its parent, in places by their depth: the parent is in the place below the row's own, or nowhere. Assumes nothing.
use mathlib.Core.Path.{◌≡◌, refl, sym, ◌∙◌}
use mathlib.Core.Bool.{Bool, true, false, ◌&&◌}
use mathlib.Core.List.{List, [], ◌∷◌, ◌++◌}
use Prim.Native.Nat.{ℕ, zero, suc, ◌+◌, ◌-◌, ◌≤◌, ◌<◌}
use native.Mathlib.Nat.{not-suc-le-zero}
use native.Mathlib.Omega.{arith}
use lib.ListN.{length, get_or, take, length-append, get_or-append}
use lib.Seq.{get_or-take, get_or-append_seam, length-take-le}
use lib.Dec.{eqb, leb}
use borrow.Author.Tests.{eqb-true, eqb-false, eq-eqb, ne_eqb, leb-true, le-leb}
use Rattle.octets.specs.Answers.{deepest}
use Rattle.octets.proofs.Bools.{both}
use Rattle.tables.specs.Rows.{no_parent}
use Rattle.tables.specs.TableRule.{out_from, ancestors, inside, some, parent_fits, parent_depth, depth_fits, component_fits, opens_after}
use Rattle.tables.specs.declared.ComponentRow.{ComponentRow}
use Rattle.checking.specs.Chains.{chain, Rising}

-- the search for a parent ends with the first k rows, and the last of them is the parent
record Ends (rows : List ℕ) (d parent k : ℕ) : Type 0 where
  within : k ≤ d
  is : out_from parent (chain rows d) ≡ chain rows k
  there : (j : ℕ) → k ≡ suc j → get_or rows j 0 ≡ parent

ends : (rows : List ℕ) (d parent : ℕ) → (k : ℕ) × Ends rows d parent k
unfolding chain out_from
ends rows zero parent = (0, record { within = omega arith; is = refl; there = λ j e. absurd (omega arith) })
ends rows (suc d) parent = go (eqb (get_or rows d 0) parent) refl (ends rows d parent)
  where
    go : (t : Bool) → eqb (get_or rows d 0) parent ≡ t → (k : ℕ) × Ends rows d parent k → (k : ℕ) × Ends rows (suc d) parent k
    go true e r =
        (suc d, record { within = omega arith; is = rw e; there = λ j q. let s : d ≡ j = omega arith in rw (← s) (eqb-true (get_or rows d 0) parent e) })
    go false e r = (r.0, record { within = omega (arith, r.1.within); is = rw e r.1.is; there = r.1.there })

-- where the rows rise, a row that is among them is found
found : (rows : List ℕ) (d j : ℕ) → Rising rows d → j < d → out_from (get_or rows j 0) (chain rows d) ≡ chain rows (suc j)
unfolding chain out_from
found rows zero j r h = absurd (not-suc-le-zero h)
found rows (suc d) j r h = go (eqb d j) refl (found rows d j (record { rise = λ i k a b. r.rise i k a (omega arith) }))
  where
    go : (t : Bool) → eqb d j ≡ t → (j < d → out_from (get_or rows j 0) (chain rows d) ≡ chain rows (suc j))
        → out_from (get_or rows j 0) (chain rows (suc d)) ≡ chain rows (suc j)
    go true e next = let s : d ≡ j = eqb-true d j e in rw (← s, eq-eqb (get_or rows d 0) (get_or rows d 0) refl)
    go false e next =
        let l : j < d = omega (arith, eqb-false d j e) in
        rw (ne_eqb (get_or rows d 0) (get_or rows j 0) (λ q. omega (arith, r.rise j d l (omega arith)))) (next l)

not_both : (s t : Bool) → (s ≡ true → t ≡ true → ⊥) → false ≡ (s && t)
not_both true true h = absurd (h refl refl)
not_both true false h = refl
not_both false t h = refl

module _ (rows : List ℕ) (d : ℕ) (c : ComponentRow) where
  abbrev pub nests : Bool
  nests = parent_fits (chain rows d) c && depth_fits (chain rows d) c

  pub on_top : c.parent ≡ no_parent → eqb c.depth 1 ≡ nests
  on_top e = rw (eq-eqb c.parent no_parent e) (go (eqb c.depth 1) refl)
    where
      go : (t : Bool) → eqb c.depth 1 ≡ t → t ≡ (t && leb c.depth deepest)
      go true q = sym (le-leb c.depth deepest (omega (arith, eqb-true c.depth 1 q)))
      go false q = refl

  module _ (inner : c.parent ≡ no_parent → ⊥) where
    -- a parent elsewhere than in the place below the row's own
    pub astray : ((j : ℕ) → j < d → c.depth ≡ j + 2 → c.depth ≤ deepest → get_or rows j 0 ≡ c.parent → ⊥) → false ≡ nests
    unfolding chain
    astray not = rw (ne_eqb c.parent no_parent inner) (go (ends rows d c.parent).0 (ends rows d c.parent).1)
      where
        go : (k : ℕ) → Ends rows d c.parent k
            → false
            ≡ (some (out_from c.parent (chain rows d)) && (eqb c.depth (parent_depth (out_from c.parent (chain rows d)) + 1) && leb c.depth deepest))
        go zero e = rw e.is
        go (suc j) e =
            rw e.is
            (not_both (eqb c.depth (suc j + 1)) (leb c.depth deepest)
            (λ s t. not j (omega (arith, e.within)) (omega (arith, eqb-true c.depth (suc j + 1) s)) (leb-true c.depth deepest t) (e.there j refl)))

    pub in_place : (j : ℕ) → Rising rows d → j < d → c.depth ≡ j + 2 → c.depth ≤ deepest → get_or rows j 0 ≡ c.parent → true ≡ nests
    unfolding chain
    in_place j r h own few e =
        let f : out_from c.parent (chain rows d) ≡ chain rows (suc j) = rw (← e) (found rows d j r h) in
        rw (ne_eqb c.parent no_parent inner, f, eq-eqb c.depth (suc j + 1) (omega arith), le-leb c.depth deepest few)

    -- so the place below the row's own decides
    pub decides : Rising rows d → 2 ≤ c.depth → c.depth - 1 ≤ d → c.depth ≤ deepest → eqb (get_or rows (c.depth - 2) 0) c.parent ≡ nests
    decides r two h few = go (eqb (get_or rows (c.depth - 2) 0) c.parent) refl
      where
        go : (t : Bool) → eqb (get_or rows (c.depth - 2) 0) c.parent ≡ t → t ≡ nests
        go true e = in_place (c.depth - 2) r (omega arith) (omega arith) few (eqb-true (get_or rows (c.depth - 2) 0) c.parent e)
        go false e =
            astray (λ j l own b q. let s : c.depth - 2 ≡ j = omega arith in eqb-false (get_or rows (c.depth - 2) 0) c.parent e (rw s q))

  -- what a row that fits leaves for the next
  pub record Placed : Type 0 where
    pub some : 0 < c.depth
    pub few : c.depth ≤ deepest
    pub within : c.depth - 1 ≤ d
    pub is : ancestors (chain rows d) c ≡ chain rows (c.depth - 1)

  -- a row one deeper than the first k rows, which are its ancestors
  alike : (k : ℕ) → (eqb c.depth (k + 1) ≡ true) × (leb c.depth deepest ≡ true) → k ≤ d → ancestors (chain rows d) c ≡ chain rows k → Placed
  alike k (own, few) h e =
      let o : c.depth ≡ k + 1 = eqb-true c.depth (k + 1) own in
      let l : c.depth - 1 ≡ k = omega arith in
      record { some = omega arith; few = leb-true c.depth deepest few; within = omega arith; is = rw l e }

  pub placed : (size : ℕ) → component_fits size (chain rows d) c ≡ true → Placed
  unfolding chain
  placed size fit = go (eqb c.parent no_parent) refl (ends rows d c.parent).0 (ends rows d c.parent).1
    where
      t : nests ≡ true
      t = (both (inside size c.name_start c.name_len) nests fit).1

      go : (top : Bool) → eqb c.parent no_parent ≡ top → (k : ℕ) → Ends rows d c.parent k → Placed
      go true e k r = alike 0 (both (eqb c.depth 1) (leb c.depth deepest) (rw e at t)) (omega arith) (rw e)
      go false e zero r = let z : false ≡ true = rw (e, r.is) at t in absurd (let w : ◌≡◌ {A = ℕ} 0 1 = cc in omega arith)
      go false e (suc j) r = alike (suc j) (both (eqb c.depth (suc j + 1)) (leb c.depth deepest) (rw (e, r.is) at t)) r.within (rw e r.is)

-- the rows stand in a list of at most 64, and all of them below n
pub record Standing (rows : List ℕ) (n : ℕ) : Type 0 where
  pub few : length rows ≤ deepest
  pub below : (i : ℕ) → i < length rows → get_or rows i 0 < n
  pub rising : Rising rows (length rows)

-- row n put behind the first k rows
module _ (rows : List ℕ) (k n : ℕ) (h : k ≤ length rows) where
  abbrev pub put : List ℕ
  put = take k rows ++ (n ∷ [])

  size : length (take k rows) ≡ k
  size = length-take-le k rows h

  pub length_put : length put ≡ k + 1
  length_put = rw (length-append, size)

  kept : (i : ℕ) → i < k → get_or put i 0 ≡ get_or rows i 0
  kept i l = get_or-append (take k rows) (n ∷ []) 0 i (omega (arith, size)) ∙ get_or-take k rows i 0 l

  stored : get_or put k 0 ≡ n
  stored = rw size at (get_or-append_seam (take k rows) n [] 0)

  chain_kept : (d : ℕ) → d ≤ k → chain put d ≡ chain rows d
  unfolding chain
  chain_kept zero l = refl
  chain_kept (suc d) l = rw (kept d (omega arith), chain_kept d (omega arith))

  pushed : chain put (suc k) ≡ record { row = n; depth = suc k } ∷ chain rows k
  unfolding chain
  pushed = rw (stored, chain_kept k (omega arith))

  module _ (below : (i : ℕ) → i < k → get_or rows i 0 < n) where
    below_next : (i : ℕ) → i < suc k → get_or put i 0 < n + 1
    below_next i l = go (eqb k i) refl
      where
        go : (t : Bool) → eqb k i ≡ t → get_or put i 0 < n + 1
        go true e = rw (← eqb-true k i e, stored) (omega arith)
        go false e =
            let m : i < k = omega (arith, eqb-false k i e) in
            rw (kept i m) (omega (arith, below i m))

    rise_next : Rising rows k → (i j : ℕ) → i < j → j < suc k → get_or put i 0 < get_or put j 0
    rise_next r i j a b = rw (kept i (omega arith)) (go (eqb k j) refl)
      where
        go : (t : Bool) → eqb k j ≡ t → get_or rows i 0 < get_or put j 0
        go true e = let q = eqb-true k j e in rw (← q, stored) (below i (omega arith))
        go false e =
            let m : j < k = omega (arith, eqb-false k j e) in
            rw (kept j m) (r.rise i j a m)

module _ (rows : List ℕ) (n : ℕ) (c : ComponentRow) (s : Standing rows n) (p : Placed rows (length rows) c) where
  own : c.depth ≡ suc (c.depth - 1)
  own = omega (arith, p.some)

  pub opens_after_holds : chain (put rows (c.depth - 1) n p.within) (length (put rows (c.depth - 1) n p.within)) ≡ opens_after n (chain rows (length rows)) c
  opens_after_holds =
      let l : length (put rows (c.depth - 1) n p.within) ≡ suc (c.depth - 1) = omega (arith, length_put rows (c.depth - 1) n p.within) in
      rw l (pushed rows (c.depth - 1) n p.within ∙ rw (← own, p.is))

  pub standing : Standing (put rows (c.depth - 1) n p.within) (n + 1)
  standing =
      let below : (i : ℕ) → i < c.depth - 1 → get_or rows i 0 < n = λ i h. s.below i (omega (arith, p.within)) in
      let rising : Rising rows (c.depth - 1) = record { rise = λ i j a b. s.rising.rise i j a (omega (arith, p.within)) } in
      let size = length_put rows (c.depth - 1) n p.within in
      record {
        few = omega (arith, p.some, p.few, size);
        below = λ i h. below_next rows (c.depth - 1) n p.within below i (omega (arith, size));
        rising = record { rise = λ i j a b. rise_next rows (c.depth - 1) n p.within below rising i j a (omega (arith, size)) };
      }
