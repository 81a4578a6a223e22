-- The entries of the open components as a list. Assumes nothing.
use mathlib.Core.Path.{◌≡◌, refl, sym, ap, ◌∙◌}
use mathlib.Core.List.{List, [], ◌∷◌, ◌++◌, reverse, append_assoc}
use Prim.Native.Nat.{ℕ, zero, suc, ◌+◌, ◌-◌, ◌≤◌, ◌<◌}
use native.Mathlib.Numerals.{add-one}
use native.Mathlib.Omega.{arith}
use lib.ListN.{length, get_or, set, replicate}
use lib.Seq.{get_or-set_same, get_or-set_other, set-append_seam}
use Rattle.std.proofs.lemmas.List.{length-reverse}
use Rattle.std.proofs.lemmas.Grind.{reverse_onto}
use Rattle.octets.specs.Answers.{deepest}
use Rattle.nesting.specs.Rows.{no_entry}
use Rattle.nesting.specs.declared.Entry.{Entry}
use Rattle.std.specs.Prelude.{Some, None}
use Rattle.nesting.specs.Held.{zero_entry, stack, length_stack, array_of, innermost}
use Rattle.nesting.specs.Steps.{closed}

-- a store at or above the depth leaves the open ones
pub stack_set : (rows : List Entry) (d i : ℕ) (e : Entry) → d ≤ i → stack (set rows i e) d ≡ stack rows d
unfolding stack
stack_set rows zero i e h = refl
stack_set rows (suc d) i e h =
    rw (get_or-set_other rows i d e zero_entry (λ q. omega arith), stack_set rows d i e (omega arith))

pub pushed : (rows : List Entry) (d : ℕ) (e : Entry) → d < length rows → stack (set rows d e) (d + 1) ≡ e ∷ stack rows d
unfolding stack
pushed rows d e h = rw (add-one, get_or-set_same rows d e zero_entry h, stack_set rows d d e (omega arith))

-- with d + 1 open, the innermost is at d
topmost : (rows : List Entry) (d n : ℕ) → n ≡ d + 1 → stack rows n ≡ get_or rows d zero_entry ∷ stack rows d
unfolding stack
topmost rows d n e = rw (e, add-one)

-- ---- the whole array of the open ones

-- with one more open there is an entry, and with one less there is none
opened_one : (e : Entry) (opens : List Entry) → array_of (e ∷ opens) ≡ reverse opens ++ e ∷ replicate (deepest - suc (length opens)) no_entry
unfolding array_of
opened_one e opens =
    ap (λ (l : List Entry). l ++ replicate (deepest - suc (length opens)) no_entry) (reverse_onto opens e [])
    ∙ append_assoc (reverse opens) (e ∷ []) (replicate (deepest - suc (length opens)) no_entry)

none_behind : (opens : List Entry) → length opens < deepest → array_of opens ≡ reverse opens ++ no_entry ∷ replicate (deepest - suc (length opens)) no_entry
unfolding array_of
none_behind opens h =
    let one : deepest - length opens ≡ suc (deepest - suc (length opens)) = omega (arith, h) in
    ap (λ (n : ℕ). reverse opens ++ replicate n no_entry) one

at_the_seam : (opens : List Entry) (x y : Entry) (rest : List Entry) (n : ℕ) → n ≡ length opens → set (reverse opens ++ x ∷ rest) n y ≡ reverse opens ++ y ∷ rest
at_the_seam opens x y rest n e = rw (e, ← length-reverse opens) (set-append_seam (reverse opens) x rest y)

array_pushed : (e : Entry) (opens : List Entry) → length opens < deepest → set (array_of opens) (length opens) e ≡ array_of (e ∷ opens)
array_pushed e opens h = rw (none_behind opens h, opened_one e opens) (at_the_seam opens no_entry e _ _ refl)

array_popped : (opens : List Entry) → length opens ≤ deepest → set (array_of opens) (length opens - 1) no_entry ≡ array_of (closed opens)
array_popped [] h = rw (none_behind [] (omega arith)) (at_the_seam [] no_entry no_entry _ _ refl)
array_popped (e ∷ opens) h = rw (opened_one e opens, none_behind opens (omega (arith, h))) (at_the_seam opens e no_entry _ _ (omega arith))

-- ---- as the methods of `Open` have them

module _ (rows : List Entry) (d : ℕ) (opens : List Entry) (is : stack rows d ≡ opens) where
  pub nothing_open : d ≡ 0 → None ≡ innermost opens
  unfolding stack
  nothing_open z = rw z at (ap innermost is)

  pub last_open : (d ≡ 0 → ⊥) → Some (get_or rows (d - 1) zero_entry) ≡ innermost opens
  last_open some = ap innermost (sym (topmost rows (d - 1) d (omega arith)) ∙ is)

  -- what is closed may be stored over
  pub popped : (n : ℕ) (x : Entry) → n ≡ d - 1 → stack (set rows n x) n ≡ closed opens
  unfolding stack
  popped n x e = stack_set rows n n x (omega arith) ∙ go d is e
    where
      go : (k : ℕ) → stack rows k ≡ opens → n ≡ k - 1 → stack rows n ≡ closed opens
      go zero q e = rw e (ap closed q)
      go (suc k) q e = let same : n ≡ k = omega arith in rw same (ap closed q)

-- ---- the array that the list tells, after a store by a method

module _ (rows : List Entry) (d : ℕ) (whole : rows ≡ array_of (stack rows d)) where
  pub pushed_whole : (e : Entry) → d < deepest → length rows ≡ deepest → set rows d e ≡ array_of (stack (set rows d e) (d + 1))
  pushed_whole e h long =
      rw (pushed rows d e (omega (arith, h, long)))
      (ap (λ (r : List Entry). set r d e) whole
      ∙ (ap (λ (n : ℕ). set (array_of (stack rows d)) n e) (sym (length_stack rows d))
      ∙ array_pushed e (stack rows d) (rw (length_stack rows d) h)))

  pub popped_whole : (n : ℕ) → n ≡ d - 1 → d ≤ deepest → set rows n no_entry ≡ array_of (stack (set rows n no_entry) n)
  popped_whole n e h =
      let place : n ≡ length (stack rows d) - 1 = omega (arith, e, length_stack rows d) in
      rw (popped rows d (stack rows d) refl n no_entry e)
      (ap (λ (r : List Entry). set r n no_entry) whole
      ∙ (ap (λ (k : ℕ). set (array_of (stack rows d)) k no_entry) place
      ∙ array_popped (stack rows d) (rw (length_stack rows d) h)))
