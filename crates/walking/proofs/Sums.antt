-- What rows weigh together: rows one behind the other, rows of a class, and rows by their owners. Assumes nothing.
use mathlib.Core.Path.{◌≡◌, refl, sym, ◌∙◌}
use mathlib.Core.Bool.{Bool, true, false, ◌&&◌}
use mathlib.Core.List.{List, [], ◌∷◌}
use Prim.Native.Nat.{ℕ, zero, suc, ◌+◌, ◌-◌, ◌≤◌, ◌<◌, zero-le, suc-le-suc}
use native.Mathlib.Nat.{zero-add}
use native.Mathlib.Omega.{arith}
use lib.ListN.{length, get_or}
use lib.Dec.{eqb, leb, ltb}
use borrow.Author.Tests.{eqb-true, eqb-false, leb-true, leb-false, le-leb, lt-leb, lt-ltb, le-ltb}
use Rattle.octets.specs.Choice.{pick}
use Rattle.tables.specs.Trees.{gather}
use Rattle.walking.specs.Walk.{tally}
use Rattle.walking.specs.Totals.{total}

-- ---- sums over rows

total_parts : (weight : ℕ → ℕ) (from m n : ℕ) → total weight from (m + n) ≡ total weight from m + total weight (from + m) n
unfolding total
total_parts weight from zero n =
    let e : from + 0 ≡ from = omega arith in
    rw (e, zero-add n) (omega arith)
total_parts weight from (suc m) n =
    let e : from + suc m ≡ from + 1 + m = omega arith in
    let f : suc m + n ≡ suc (m + n) = omega arith in
    rw (f, e) (omega (arith, total_parts weight (from + 1) m n))

-- the first rows, and one more
pub total_next : (weight : ℕ → ℕ) (n : ℕ) → total weight 0 (n + 1) ≡ total weight 0 n + weight n
unfolding total
total_next weight n = rw (total_parts weight 0 n 1, zero-add n) (omega arith)

-- a row, those behind it up to the middle, and those behind that
pub total_split : (weight : ℕ → ℕ) (from mid to : ℕ) → from < mid → mid ≤ to
    → total weight from (to - from) ≡ weight from + total weight (from + 1) (mid - (from + 1)) + total weight mid (to - mid)
unfolding total
total_split weight from mid to h l =
    let e : to - from ≡ suc (mid - (from + 1)) + (to - mid) = omega arith in
    let f : from + suc (mid - (from + 1)) ≡ mid = omega arith in
    rw (e, total_parts weight from (suc (mid - (from + 1))) (to - mid), f)

-- ---- rows by their owners

-- what the rows of a class weigh, of rows numbered from `row` on
unfoldable pub weight_in : {A : Type 0} → (A → Bool) → (ℕ → ℕ) → ℕ → List A → ℕ
weight_in class weight row [] = 0
weight_in class weight row (x ∷ xs) = pick (class x) (weight row) 0 + weight_in class weight (row + 1) xs

-- a number from one up to another
abbrev pub from_to : ℕ → ℕ → ℕ → Bool
from_to from to k = leb from k && ltb k to

total_zero : (from n : ℕ) → total (λ row. 0) from n ≡ 0
unfolding total
total_zero from zero = refl
total_zero from (suc n) = omega (arith, total_zero (from + 1) n)

pub total_one : (from n : ℕ) → total (λ row. 1) from n ≡ n
unfolding total
total_one from zero = refl
total_one from (suc n) = omega (arith, total_one (from + 1) n)

pub total_same : (f g : ℕ → ℕ) → ((row : ℕ) → f row ≡ g row) → (from n : ℕ) → total f from n ≡ total g from n
unfolding total
total_same f g same from zero = refl
total_same f g same from (suc n) = omega (arith, same from, total_same f g same (from + 1) n)

pub total_sum : (f g : ℕ → ℕ) (from n : ℕ) → total (λ row. f row + g row) from n ≡ total f from n + total g from n
unfolding total
total_sum f g from zero = refl
total_sum f g from (suc n) = omega (arith, total_sum f g (from + 1) n)

-- what belongs to one owner is counted once, if it is there
one_owner : (k weight from n : ℕ) → total (λ owner. pick (eqb k owner) weight 0) from n ≡ pick (from_to from (from + n) k) weight 0
unfolding total
one_owner k weight from zero = go (leb from k) refl
  where
    go : (t : Bool) → leb from k ≡ t → 0 ≡ pick (t && ltb k (from + 0)) weight 0
    go true t = rw (le-ltb k (from + 0) (omega (arith, leb-true from k t)))
    go false t = refl
one_owner k weight from (suc n) = rw (one_owner k weight (from + 1) n) (go (eqb k from) refl (leb from k) refl)
  where
    go : (t : Bool) → eqb k from ≡ t → (u : Bool) → leb from k ≡ u
        → pick t weight 0 + pick (leb (from + 1) k && ltb k (from + 1 + n)) weight 0 ≡ pick (u && ltb k (from + suc n)) weight 0
    go true t u v =
        let e = eqb-true k from t in
        rw (lt-leb (from + 1) k (omega arith), lt-ltb k (from + suc n) (omega arith), sym v ∙ le-leb from k (omega arith)) (omega arith)
    go false t true v =
        let e : from + 1 + n ≡ from + suc n = omega arith in
        rw (le-leb (from + 1) k (omega (arith, eqb-false k from t, leb-true from k v)), e) (zero-add _)
    go false t false v = rw (lt-leb (from + 1) k (omega (arith, leb-false from k v)))

-- what the rows of a class are together: all rows, or as many as they are
module _ {A : Type 0} (class : A → Bool) where
  all_in : (weight : ℕ → ℕ) (row : ℕ) (xs : List A) → ((i : ℕ) (d : A) → i < length xs → class (get_or xs i d) ≡ true)
      → weight_in class weight row xs ≡ total weight row (length xs)
  unfolding weight_in total
  all_in weight row [] same = refl
  all_in weight row (x ∷ xs) same =
      rw (same 0 x (suc-le-suc zero-le), all_in weight (row + 1) xs (λ i d h. same (suc i) d (suc-le-suc h)))

  pub so_many : (row : ℕ) (xs : List A) → weight_in class (λ row. 1) row xs ≡ tally class xs
  unfolding weight_in tally
  so_many row [] = refl
  so_many row (x ∷ xs) = rw (so_many (row + 1) xs) (go (class x))
    where
      go : (t : Bool) → pick t 1 0 + tally class xs ≡ pick t (suc (tally class xs)) (tally class xs)
      go true = omega arith
      go false = omega arith

module _ {A : Type 0} (owner_of : A → ℕ) (weight : ℕ → ℕ) where
  -- what some owners have is what the rows weigh that belong to one of them
  pub by_owners : (from n row : ℕ) (xs : List A)
      → total (λ owner. weight_in (λ (x : A). eqb (owner_of x) owner) weight row xs) from n
      ≡ weight_in (λ (x : A). from_to from (from + n) (owner_of x)) weight row xs
  unfolding weight_in
  by_owners from n row [] = total_zero from n
  by_owners from n row (x ∷ xs) =
      total_sum (λ owner. pick (eqb (owner_of x) owner) (weight row) 0) (λ owner. weight_in (λ (x : A). eqb (owner_of x) owner) weight (row + 1) xs) from n
      ∙ omega (arith, one_owner (owner_of x) (weight row) from n, by_owners from n (row + 1) xs)

  -- where every row has its owner among the first n, nothing is lost
  pub nothing_lost : (n : ℕ) (xs : List A) → ((i : ℕ) (d : A) → i < length xs → owner_of (get_or xs i d) < n)
      → total (λ owner. weight_in (λ (x : A). eqb (owner_of x) owner) weight 0 xs) 0 n ≡ total weight 0 (length xs)
  nothing_lost n xs owned =
      by_owners 0 n 0 xs
      ∙ all_in (λ (x : A). from_to 0 (0 + n) (owner_of x)) weight 0 xs
      (λ i d h. rw (le-leb 0 (owner_of (get_or xs i d)) zero-le) (lt-ltb (owner_of (get_or xs i d)) (0 + n) (omega (arith, owned i d h))))

  -- what is gathered for an owner has the size that its rows weigh, if each row adds so much
  pub gathered : {R : Type 0} (before : ℕ → A → R → R) (end : R) (size : R → ℕ) → size end ≡ 0 → (owner row : ℕ) (xs : List A)
      → ((i : ℕ) (d : A) (rest : R) → i < length xs → size (before (row + i) (get_or xs i d) rest) ≡ weight (row + i) + size rest)
      → size (gather owner_of before end owner row xs) ≡ weight_in (λ (x : A). eqb (owner_of x) owner) weight row xs
  unfolding weight_in gather
  gathered before end size nothing owner row [] more = nothing
  gathered {R} before end size nothing owner row (x ∷ xs) more =
      go (eqb (owner_of x) owner) (gather owner_of before end owner (row + 1) xs) (gathered before end size nothing owner (row + 1) xs later)
    where
      first : (rest : R) → size (before row x rest) ≡ weight row + size rest
      first rest = let e : row + 0 ≡ row = omega arith in rw e at (more 0 x rest (suc-le-suc zero-le))

      later : (i : ℕ) (d : A) (rest : R) → i < length xs → size (before (row + 1 + i) (get_or xs i d) rest) ≡ weight (row + 1 + i) + size rest
      later i d rest h = let e : row + suc i ≡ row + 1 + i = omega arith in rw e at (more (suc i) d rest (suc-le-suc h))

      go : (t : Bool) (rest : R) {n : ℕ} → size rest ≡ n → size (pick t (before row x rest) rest) ≡ pick t (weight row) 0 + n
      go true rest e = omega (arith, first rest)
      go false rest e = omega arith
