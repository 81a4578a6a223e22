-- Two runs of parameter rows without the rows at the front, or at the end, that are the same one by one: what is left compares as the whole.
-- Assumes nothing.
use mathlib.Core.Path.{◌≡◌, refl, sym, ap, ◌∙◌}
use mathlib.Core.Bool.{Bool, true, false}
use mathlib.Core.List.{List}
use Prim.Native.Nat.{ℕ, zero, suc, ◌+◌, ◌-◌, ◌/◌, ◌≤◌, ◌<◌, zero-le}
use native.Mathlib.Nat.{add-zero, sub-zero}
use native.Mathlib.Omega.{arith}
use lib.ListN.{length}
use Rattle.octets.specs.Choice.{pick}
use Rattle.tables.specs.Rows.{parameter_size}
use Rattle.comparing.specs.Pieces.{same_parameter}
use Rattle.comparing.specs.Runs.{parameter_in, run_in, same_runs, agreeing_front, without_agreeing_back}
use Rattle.comparing.proofs.Multisets.{without_first, without_last}
use Rattle.comparing.proofs.Pieces.{of_parameter}
use Rattle.comparing.proofs.Rows.{run_from, run_more}

module _ (text table : List ℕ) where
  -- the test of one row of each
  abbrev agree : ℕ → ℕ → Bool
  agree p q = same_parameter (parameter_in text table p) (parameter_in text table q)

  -- ---- the front, one row at a time

  module _ (a b : ℕ) where
    pub front_on : (count i : ℕ) → i < count → {t : Bool} → agree (a + i) (b + i) ≡ t
        → agreeing_front text table (a + i) (b + i) (count - i) ≡ pick t (suc (agreeing_front text table (a + (i + 1)) (b + (i + 1)) (count - (i + 1)))) 0
    unfolding agreeing_front
    front_on count i h e =
        let n : count - i ≡ suc (count - (i + 1)) = omega arith in
        let s : a + i + 1 ≡ a + (i + 1) = omega arith in
        let u : b + i + 1 ≡ b + (i + 1) = omega arith in
        rw (n, e, s, u)

    pub front_over : (count i : ℕ) → count ≤ i → agreeing_front text table (a + i) (b + i) (count - i) ≡ 0
    unfolding agreeing_front
    front_over count i h = let e : count - i ≡ 0 = omega arith in rw e

    -- ---- the end, one row at a time

    pub back_on : (left : ℕ) → 0 < left → {t : Bool} → agree (a + (left - 1)) (b + (left - 1)) ≡ t
        → without_agreeing_back text table a b left ≡ pick t (without_agreeing_back text table a b (left - 1)) left
    unfolding without_agreeing_back
    back_on zero h e = absurd (omega (arith, h))
    back_on (suc n) h e = let s : suc n - 1 ≡ n = omega arith in rw (← e, s)

    pub back_over : (left : ℕ) → left ≤ 0 → without_agreeing_back text table a b left ≡ left
    unfolding without_agreeing_back
    back_over zero h = refl
    back_over (suc n) h = absurd (omega (arith, h))

  -- ---- neither is more than there is

  pub front_within : (a b count : ℕ) → agreeing_front text table a b count ≤ count
  unfolding agreeing_front
  front_within a b zero = zero-le
  front_within a b (suc n) = go (agree a b) (front_within (a + 1) (b + 1) n)
    where
      go : (t : Bool) → agreeing_front text table (a + 1) (b + 1) n ≤ n → pick t (suc (agreeing_front text table (a + 1) (b + 1) n)) 0 ≤ suc n
      go true h = omega (arith, h)
      go false h = zero-le

  pub back_within : (a b count : ℕ) → without_agreeing_back text table a b count ≤ count
  unfolding without_agreeing_back
  back_within a b zero = zero-le
  back_within a b (suc n) = go (agree (a + n) (b + n)) (back_within a b n)
    where
      go : (t : Bool) → without_agreeing_back text table a b n ≤ n → pick t (without_agreeing_back text table a b n) (suc n) ≤ suc n
      go true h = omega (arith, h)
      go false h = omega arith

  -- ---- what is left compares as the whole

  pub without_front : (a b count : ℕ) → a + count ≤ length table / parameter_size → b + count ≤ length table / parameter_size
      → let f = agreeing_front text table a b count in
      same_runs text table (a + f) (b + f) (count - f) ≡ same_runs text table a b count
  unfolding agreeing_front
  without_front a b zero h k = refl
  without_front a b (suc n) h k = go (agree a b) refl (without_front (a + 1) (b + 1) n (omega (arith, h)) (omega (arith, k)))
    where
      f : ℕ
      f = agreeing_front text table (a + 1) (b + 1) n

      first : agree a b ≡ true → same_runs text table (a + 1) (b + 1) n ≡ same_runs text table a b (suc n)
      first e =
          rw (run_from text table a n (omega (arith, h)), run_from text table b n (omega (arith, k)))
          (sym (without_first of_parameter (parameter_in text table a) (parameter_in text table b) e (run_in text table (a + 1) n) (run_in text table (b + 1) n)))

      go : (t : Bool) → agree a b ≡ t → same_runs text table (a + 1 + f) (b + 1 + f) (n - f) ≡ same_runs text table (a + 1) (b + 1) n
          → same_runs text table (a + pick t (suc f) 0) (b + pick t (suc f) 0) (suc n - pick t (suc f) 0) ≡ same_runs text table a b (suc n)
      go true e rest =
          let s : a + suc f ≡ a + 1 + f = omega arith in
          let u : b + suc f ≡ b + 1 + f = omega arith in
          let m : suc n - suc f ≡ n - f = omega arith in
          rw (s, u, m) (rest ∙ first e)
      go false e rest = rw (add-zero, add-zero, sub-zero)

  pub without_back : (a b count : ℕ) → a + count ≤ length table / parameter_size → b + count ≤ length table / parameter_size
      → same_runs text table a b (without_agreeing_back text table a b count) ≡ same_runs text table a b count
  unfolding without_agreeing_back
  without_back a b zero h k = refl
  without_back a b (suc n) h k = go (agree (a + n) (b + n)) refl (without_back a b n (omega (arith, h)) (omega (arith, k)))
    where
      last : agree (a + n) (b + n) ≡ true → same_runs text table a b n ≡ same_runs text table a b (n + 1)
      last e =
          rw (run_more text table a n (omega (arith, h)), run_more text table b n (omega (arith, k)))
          (sym (without_last of_parameter (parameter_in text table (a + n)) (parameter_in text table (b + n)) e (run_in text table a n) (run_in text table b n)))

      go : (t : Bool) → agree (a + n) (b + n) ≡ t → same_runs text table a b (without_agreeing_back text table a b n) ≡ same_runs text table a b n
          → same_runs text table a b (pick t (without_agreeing_back text table a b n) (suc n)) ≡ same_runs text table a b (suc n)
      go true e rest = let s : n + 1 ≡ suc n = omega arith in rest ∙ (last e ∙ ap (same_runs text table a b) s)
      go false e rest = refl

  -- and so does what lies between both
  pub between_ends : (a b count : ℕ) → a + count ≤ length table / parameter_size → b + count ≤ length table / parameter_size
      → {front left : ℕ} → front ≡ agreeing_front text table a b count → left ≡ without_agreeing_back text table (a + front) (b + front) (count - front)
      → same_runs text table (a + front) (b + front) left ≡ same_runs text table a b count
  between_ends a b count h k {front} {left} e f = back ∙ rw e (without_front a b count h k)
    where
      fits : front ≤ count
      fits = rw e (front_within a b count)

      back : same_runs text table (a + front) (b + front) left ≡ same_runs text table (a + front) (b + front) (count - front)
      back = rw f (without_back (a + front) (b + front) (count - front) (omega (arith, fits, h)) (omega (arith, fits, k)))
