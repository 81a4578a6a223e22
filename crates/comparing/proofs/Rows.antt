-- A run of parameter rows, and each row of a run counted in it and in another. Assumes nothing.
use mathlib.Core.Path.{◌≡◌, refl, sym, ap, ◌∙◌}
use mathlib.Core.Bool.{Bool, true, false}
use mathlib.Core.List.{List, [], ◌∷◌, ◌++◌, map-append}
use Prim.Native.Nat.{ℕ, zero, suc, ◌+◌, ◌-◌, ◌/◌, ◌≤◌, ◌<◌, zero-le}
use native.Mathlib.Nat.{zero-add}
use native.Mathlib.Omega.{arith}
use lib.ListN.{length, take, drop, length-drop, length-map}
use lib.Seq.{length-take-le, take-add, drop-drop}
use borrow.Author.Tests.{ltb-true, ltb-false}
use Rattle.std.specs.Bool.{MatchBool}
use Rattle.std.specs.List.{AllWithin, HoldsAt, range_with_len}
use Rattle.std.proofs.lemmas.List.FromFn.{get_or-range_with_len, length-range_with_len}
use Rattle.octets.specs.Choice.{pick}
use Rattle.tables.specs.Rows.{parameter_size, parameter_at}
use Rattle.tables.specs.Lent.{parameters_in}
use Rattle.tables.specs.Trees.{parameter_of}
use Rattle.tables.proofs.Laws.{length_rows, row_here}
use Rattle.comparing.specs.Multisets.{many_of}
use Rattle.comparing.specs.Pieces.{same_parameter}
use Rattle.comparing.specs.Runs.{parameter_in, run_in, many_in, same_runs, settled, SettledTo}
use Rattle.comparing.proofs.Multisets.{many_append, as_often_exactly, told_apart, within_more, within_all}
use Rattle.comparing.proofs.Pieces.{of_parameter}

-- ---- one run

module _ (text table : List ℕ) where
  -- its first row, and the run behind it
  pub run_from : (first n : ℕ) → first < length table / parameter_size → run_in text table first (suc n) ≡ parameter_in text table first ∷ run_in text table (first + 1) n
  run_from first n l = rw (row_here parameter_size parameter_at table first l)

  -- two runs, one behind the other
  pub run_then : (first n m : ℕ) → run_in text table first (n + m) ≡ run_in text table first n ++ run_in text table (first + n) m
  run_then first n m = rw (take-add n m (drop first (parameters_in table)), drop-drop n first (parameters_in table), map-append)

  -- up to its row i, and with that row
  pub run_more : (first i : ℕ) → first + i < length table / parameter_size
      → run_in text table first (i + 1) ≡ run_in text table first i ++ (parameter_in text table (first + i) ∷ [])
  run_more first i l = run_then first i 1 ∙ rw (row_here parameter_size parameter_at table (first + i) l)

  pub length_run : (first count : ℕ) → first + count ≤ length table / parameter_size → length (run_in text table first count) ≡ count
  length_run first count h =
      length-map (take count (drop first (parameters_in table))) (parameter_of text)
      ∙ length-take-le count (drop first (parameters_in table))
      (omega (arith, h, length-drop first (parameters_in table), length_rows parameter_size parameter_at table))

  -- ---- one row counted in a run

  module _ (row first : ℕ) where
    pub count_none : many_in text table row first 0 ≡ 0
    unfolding many_of
    count_none = refl

    count_on : (count i : ℕ) → i < count → first + i < length table / parameter_size
        → {t : Bool} → same_parameter (parameter_in text table row) (parameter_in text table (first + i)) ≡ t
        → many_in text table row (first + i) (count - i) ≡ pick t 1 0 + many_in text table row (first + (i + 1)) (count - (i + 1))
    unfolding many_of
    count_on count i h l e =
        let n : count - i ≡ suc (count - (i + 1)) = omega arith in
        let s : first + i + 1 ≡ first + (i + 1) = omega arith in
        rw (n, run_from (first + i) (count - (i + 1)) l, e, s)

    count_then : (n m : ℕ) → many_in text table row first (n + m) ≡ many_in text table row first n + many_in text table row (first + n) m
    count_then n m = rw (run_then first n m) (many_append same_parameter (parameter_in text table row) (run_in text table first n) (run_in text table (first + n) m))

    -- with row i of the run
    pub count_more : (i : ℕ) → first + i < length table / parameter_size
        → {t : Bool} → same_parameter (parameter_in text table row) (parameter_in text table (first + i)) ≡ t
        → many_in text table row first (i + 1) ≡ many_in text table row first i + pick t 1 0
    unfolding many_of
    count_more i l e = rw e at more
      where
        more : many_in text table row first (i + 1) ≡ many_in text table row first i + pick (same_parameter (parameter_in text table row) (parameter_in text table (first + i))) 1 0
        more =
            rw (run_more first i l)
            (omega (arith, many_append same_parameter (parameter_in text table row) (run_in text table first i) (parameter_in text table (first + i) ∷ [])))

    -- no fewer than in the first n of them
    pub count_up_to : (n count : ℕ) → n ≤ count → many_in text table row first n ≤ many_in text table row first count
    count_up_to n count h =
        let s : count ≡ n + (count - n) = omega arith in
        omega (arith, ap (many_in text table row first) s, count_then n (count - n))

  -- a row is itself one more of its kind than stand before it
  pub ranked : (first count i : ℕ) → i < count → first + i < length table / parameter_size
      → many_in text table (first + i) first i < many_in text table (first + i) first count
  ranked first count i h l =
      let s : count ≡ i + (count - i) = omega arith in
      omega (
        arith,
        ap (many_in text table (first + i) first) s,
        count_then (first + i) first i (count - i),
        count_on (first + i) first count i h l (of_parameter.itself (parameter_in text table (first + i))),
      )

  -- ---- each row of the first run has one of its own in the second

  module _ (a b count : ℕ) where
    -- none is asked about yet
    pub settle_none : SettledTo text table a b count 0
    unfolding many_of
    settle_none z = zero-le

    module _ (i : ℕ) (l : a + i < length table / parameter_size) where
      -- row i has one: so have those up to it
      pub settle_on : SettledTo text table a b count i → settled text table a b count i ≡ true → SettledTo text table a b count (i + 1)
      settle_on so e z =
          rw (run_more a i l)
          (within_more of_parameter (parameter_in text table (a + i)) (run_in text table a i) (run_in text table b count) so
          (ltb-true (many_in text table (a + i) a i) (many_in text table (a + i) b count) e) z)

      -- a row that has none tells the runs apart: it stands in the first oftener
      pub not_settled : i < count → settled text table a b count i ≡ false → false ≡ same_runs text table a b count
      not_settled h e =
          sym (told_apart of_parameter (parameter_in text table (a + i)) (run_in text table a count) (run_in text table b count)
          (λ q. omega (arith, q, ranked a count i h l, ltb-false (many_in text table (a + i) a i) (many_in text table (a + i) b count) e)))

    -- all have one: the second run has as many rows, so it has no others
    pub all_told : a + count ≤ length table / parameter_size → b + count ≤ length table / parameter_size → (i : ℕ) → i ≡ count
        → SettledTo text table a b count i → true ≡ same_runs text table a b count
    all_told h k i f so =
        sym ((as_often_exactly of_parameter (run_in text table a count) (run_in text table b count)).1
        (within_all of_parameter (run_in text table a count) (run_in text table b count) (length_run a count h ∙ sym (length_run b count k)) (rw f at so)))

    -- each row asked about has one
    settled_up_to : (i : ℕ) → a + i ≤ length table / parameter_size → ((k : ℕ) → k < i → settled text table a b count k ≡ true) → SettledTo text table a b count i
    settled_up_to zero h each = settle_none
    settled_up_to (suc i) h each =
        let s : i + 1 ≡ suc i = omega arith in
        let so = settle_on i (omega (arith, h)) (settled_up_to i (omega (arith, h)) (λ k l. each k (omega (arith, l)))) (each i (omega arith)) in
        rw s at so

    -- each row of the first has one exactly where the runs are the same
    pub all_settled_same : a + count ≤ length table / parameter_size → b + count ≤ length table / parameter_size → (result : Bool)
        → MatchBool result (AllWithin (λ k. settled text table a b count k ≡ true) (range_with_len 0 count) 0 (length (range_with_len 0 count)))
        ((k : ℕ) × (k < length (range_with_len 0 count)) × HoldsAt (λ k. settled text table a b count k ≡ false) (range_with_len 0 count) k)
        → result ≡ same_runs text table a b count
    all_settled_same h k true all =
        all_told h k count refl
        (settled_up_to count h
        (λ i l. rw (get_or-range_with_len 0 count i 0 l, zero-add i) at (all i 0 zero-le (rw (length-range_with_len 0 count) l))))
    all_settled_same h k false (i, l, none) =
        let m : i < count = rw (length-range_with_len 0 count) at l in
        not_settled i (omega (arith, h, m)) m (rw (get_or-range_with_len 0 count i 0 m, zero-add i) at (none 0))
