-- Rows that stand in a table while no other row of it has an owner of theirs: what the table makes for such an owner is what they make.
-- Assumes nothing.
use mathlib.Core.Path.{◌≡◌, refl, ◌∙◌}
use mathlib.Core.List.{List, [], ◌∷◌, ◌++◌, append_assoc, append-nil}
use Prim.Native.Nat.{ℕ, ◌+◌, ◌≤◌, ◌<◌}
use native.Mathlib.Nat.{le_refl}
use native.Mathlib.Omega.{arith}
use lib.ListN.{length, length-append}
use Rattle.tables.specs.Trees.{gather}
use Rattle.tables.proofs.Gathered.{passed, over, parts}

-- ---- numbers outside of a range

-- the numbers from a up to b are none of those from low up to high
pub data Apart (a b low high : ℕ) : Type 0 where
  before : b ≤ low → Apart a b low high
  behind : high ≤ a → Apart a b low high

-- the same of a part of either
pub fewer : {a b low high low' high' : ℕ} → low ≤ low' → high' ≤ high → Apart a b low high → Apart a b low' high'
fewer l m (before o) = before (omega arith)
fewer l m (behind o) = behind (omega arith)

pub some : {a b a' b' low high : ℕ} → a ≤ a' → b' ≤ b → Apart a b low high → Apart a' b' low high
some h k (before o) = before (omega arith)
some h k (behind o) = behind (omega arith)

pub turned : {a b low high : ℕ} → Apart a b low high → Apart low high a b
turned (before o) = behind o
turned (behind o) = before o

not_one : {n k low high : ℕ} → Apart n (n + 1) low high → low ≤ k → k < high → n ≡ k → ⊥
not_one (before o) h l e = omega arith
not_one (behind o) h l e = omega arith

-- ---- rows that stand in a table

module _ {A : Type 0} (owner_of : A → ℕ) where
  -- no row belongs to one from low up to high
  pub data Clear (low high : ℕ) : List A → Type 0 where
    clear : Clear low high []
    other : {x : A} {xs : List A} → Apart (owner_of x) (owner_of x + 1) low high → Clear low high xs → Clear low high (x ∷ xs)

  -- so neither in two parts together, nor for a part of the range
  pub clear_append : {low high : ℕ} {xs ys : List A} → Clear low high xs → Clear low high ys → Clear low high (xs ++ ys)
  clear_append clear g = g
  clear_append (other o f) g = other o (clear_append f g)

  clear_fewer : {low high low' high' : ℕ} {xs : List A} → low ≤ low' → high' ≤ high → Clear low high xs → Clear low' high' xs
  clear_fewer l m clear = clear
  clear_fewer l m (other {x} o f) = other {x = x} (fewer l m o) (clear_fewer l m f)

  -- such rows make nothing for one of the range
  pub skipped : {R : Type 0} (put : ℕ → A → R → R) (end : R) (k : ℕ) {low high : ℕ} (row : ℕ) {xs : List A} → low ≤ k → k < high → Clear low high xs
      → gather owner_of put end k row xs ≡ end
  skipped put end k row h l clear = over owner_of put end k row [] refl
  skipped put end k row h l (other {x} {xs} o f) = passed owner_of put end k row (x ∷ xs) xs x refl (not_one o h l) ∙ skipped put end k (row + 1) h l f

  -- the rows xs stand in the table from `at` on, and no other row belongs to one from low up to high
  pub record Standing (table : List A) (at : ℕ) (xs : List A) (low high : ℕ) : Type 0 where
    pub front : List A
    pub rest : List A
    pub split : table ≡ front ++ (xs ++ rest)
    pub place : at ≡ length front
    pub front_clear : Clear low high front
    pub rest_clear : Clear low high rest

  -- the rows of a whole table
  pub all_standing : (xs : List A) (low high : ℕ) → Standing xs 0 xs low high
  all_standing xs low high =
      record { front = []; rest = []; split = rw append-nil; place = refl; front_clear = clear; rest_clear = clear }

  -- of rows that stand in the table, the first ones and the later ones
  module _ {table xs ys : List A} {at low high low' high' : ℕ} (from : low ≤ low') (to : high' ≤ high) (s : Standing table at (xs ++ ys) low high) where
    pub first_of : Clear low' high' ys → Standing table at xs low' high'
    first_of f =
        record {
          front = s.front;
          rest = ys ++ s.rest;
          split = s.split ∙ simp append_assoc;
          place = s.place;
          front_clear = clear_fewer from to s.front_clear;
          rest_clear = clear_append f (clear_fewer from to s.rest_clear);
        }

    pub later_of : {at' : ℕ} → at' ≡ at + length xs → Clear low' high' xs → Standing table at' ys low' high'
    later_of e f =
        record {
          front = s.front ++ xs;
          rest = s.rest;
          split = s.split ∙ simp append_assoc;
          place = simp length-append (omega (arith, s.place));
          front_clear = clear_append (clear_fewer from to s.front_clear) f;
          rest_clear = clear_fewer from to s.rest_clear;
        }

  -- of three parts the second and the third
  module _ {table xs ys zs : List A} {at at' low high low' high' : ℕ} (from : low ≤ low') (to : high' ≤ high) (s : Standing table at (xs ++ (ys ++ zs)) low high)
      (f : Clear low' high' xs) where
    pub second_of : at' ≡ at + length xs → Clear low' high' zs → Standing table at' ys low' high'
    second_of e g = first_of (le_refl low') (le_refl high') (later_of from to s e f) g

    pub third_of : at' ≡ at + length xs + length ys → Clear low' high' ys → Standing table at' zs low' high'
    third_of e g = later_of (le_refl low') (le_refl high') (later_of from to s refl f) e g

  -- what the table makes for one of the range is what those rows make
  pub gathered : {R : Type 0} (put : ℕ → A → R → R) (end : R) (k : ℕ) {table : List A} {at : ℕ} {xs : List A} {low high : ℕ} → low ≤ k → k < high
      → Standing table at xs low high → gather owner_of put end k 0 table ≡ gather owner_of put end k at xs
  gathered put end k {table} {at} {xs} h l s =
      let e : at ≡ 0 + length s.front = omega (arith, s.place) in
      rw (s.split, e)
      (parts owner_of put end k 0 s.front (xs ++ s.rest)
      ∙ skipped put _ k 0 h l s.front_clear
      ∙ parts owner_of put end k (0 + length s.front) xs s.rest
      ∙ rw (skipped put end k (0 + length s.front + length xs) h l s.rest_clear))
