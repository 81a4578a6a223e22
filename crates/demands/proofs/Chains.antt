-- The open components of a reading as the table rule sees them: the row before, its parent, and so on outwards. Assumes nothing.
use mathlib.Core.Path.{◌≡◌, refl}
use mathlib.Core.List.{List, [], ◌∷◌}
use Prim.Native.Nat.{ℕ, ◌+◌, ◌≤◌, ◌<◌}
use native.Mathlib.Nat.{le_trans, le_of_lt}
use native.Mathlib.Omega.{arith}
use lib.ListN.{length}
use borrow.Author.Tests.{eq-eqb, ne_eqb}
use Rattle.tables.specs.Rows.{no_parent}
use Rattle.tables.specs.TableRule.{Opened, out_from, ancestors, parent_depth}
use Rattle.tables.specs.declared.ComponentRow.{ComponentRow}
use Rattle.nesting.specs.Rows.{top}
use Rattle.nesting.specs.declared.Entry.{Entry}

-- each open component stands one deeper than those around it
abbrev pub chain : List Entry → List Opened
chain [] = []
chain (e ∷ es) = record { row = e.row; depth = length es + 1 } ∷ chain es

pub chain_depth : (es : List Entry) → parent_depth (chain es) ≡ length es
chain_depth [] = refl
chain_depth (e ∷ es) = omega arith

-- rows fall, from below n on
pub data Falling : ℕ → List Opened → Type 0 where
  none : {n : ℕ} → Falling n []
  next : {n : ℕ} {o : Opened} {os : List Opened} → o.row < n → Falling o.row os → Falling n (o ∷ os)

-- os are the last of a list
pub data Last (os : List Opened) : List Opened → Type 0 where
  all : Last os os
  later : (o : Opened) {ps : List Opened} → Last os ps → Last os (o ∷ ps)

pub fewer : {o : Opened} {os ps : List Opened} → Last (o ∷ os) ps → Last os ps
fewer {o} all = later o all
fewer (later p l) = later p (fewer l)

higher : {m n : ℕ} {os : List Opened} → m ≤ n → Falling m os → Falling n os
higher h none = none
higher h (next b f) = next (le_trans b h) f

pub falling_last : {os : List Opened} {n : ℕ} {ps : List Opened} → Last os ps → Falling n ps → Falling n os
falling_last all f = f
falling_last (later p l) (next b f) = higher (le_of_lt b) (falling_last l f)

pub first_below : {n : ℕ} {o : Opened} {os ps : List Opened} → Last (o ∷ os) ps → Falling n ps → o.row < n
first_below l f = head (falling_last l f)
  where
    head : {n : ℕ} {o : Opened} {os : List Opened} → Falling n (o ∷ os) → o.row < n
    head (next b f) = b

-- where rows fall, the search for a row of the list finds it, and what stands around it
found : {o : Opened} {os : List Opened} {n : ℕ} {ps : List Opened} → Last (o ∷ os) ps → Falling n ps → out_from o.row ps ≡ o ∷ os
unfolding out_from
found {o} {os} all f = rw (eq-eqb o.row o.row refl)
found {o} {os} (later p l) (next b f) = rw (ne_eqb p.row o.row (λ e. omega (arith, first_below l f))) (found l f)

-- so the ancestors of a row whose parent is the innermost open component are the open components
pub parents : {n : ℕ} (es : List Entry) {ps : List Opened} (c : ComponentRow) → Last (chain es) ps → Falling n ps → n ≤ no_parent → c.parent ≡ top es
    → ancestors ps c ≡ chain es
parents [] c l f h e = rw (eq-eqb c.parent no_parent e)
parents (o ∷ os) c l f h e = rw (ne_eqb c.parent no_parent (λ z. omega (arith, first_below l f)), e) (found l f)
