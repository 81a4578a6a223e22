-- Two runs in one round: each row counted for the place on which it lands, taken off again, and what that says of the runs.
-- Assumes nothing.
use mathlib.Core.Path.{◌≡◌, sym, ap}
use mathlib.Core.Bool.{true, false, false≢true}
use mathlib.Core.List.{List, []}
use Prim.Native.Nat.{ℕ, ◌+◌, ◌-◌, ◌/◌, ◌≤◌, ◌<◌}
use native.Mathlib.Omega.{arith}
use lib.ListN.{length, get_or, set}
use borrow.Author.Tests.{lt-ltb}
use Rattle.std.specs.Prelude.{Option, Some, None}
use Rattle.std.specs.Option.{is_none}
use Rattle.tables.specs.Rows.{parameter_size}
use Rattle.tables.specs.Trees.{Parameter}
use Rattle.comparing.specs.Runs.{parameter_in, run_in, many_in, same_runs, settled}
use Rattle.comparing.proofs.Pieces.{of_parameter}
use Rattle.comparing.proofs.Rows.{run_more, run_then, length_run, ranked}
use Rattle.sifting.specs.declared.Shelf.{Shelf}
use Rattle.sifting.specs.Tallies.{Empty, Left, landed}
use Rattle.sifting.specs.Rounds.{lands, one_run, other_run, Counted, Reduced, Level}
use Rattle.sifting.proofs.Shelves.{lands_same, lands_apart}
use Rattle.sifting.proofs.Tallies.{landed_append, landed_few, none_landed, held_up, held_down, held_past, held_pass, more_land, uneven, even_many}

module _ (s : Shelf) where
  abbrev text : List ℕ
  text = s.runs.text.now

  abbrev table : List ℕ
  table = s.runs.parameters.now

  abbrev a : ℕ
  a = s.runs.a

  abbrev b : ℕ
  b = s.runs.b

  abbrev count : ℕ
  count = s.runs.count

  abbrev rows : ℕ
  rows = length table / parameter_size

  -- the parameter of a row
  abbrev pub row : ℕ → Parameter
  row = parameter_in text table

  -- where not as many of both runs land on a place, the runs are told apart
  apart_at : (j : ℕ) → (landed (lands s) j (one_run s count) ≡ landed (lands s) j (other_run s count) → ⊥) → same_runs text table a b count ≡ false
  apart_at j u =
      uneven (lands s) of_parameter (lands_same text table s.rows.items) (lands_apart text table s.rows.items) (one_run s count) (other_run s count) j u

  -- ---- the first run is counted

  pub counts_start : (tally : List ℕ) → Empty tally → Counted s tally 0
  counts_start tally e j = omega (arith, e j)

  module _ (tally : List ℕ) (i : ℕ) (l : i < count) (h : Counted s tally i) where
    in_one : a + i < rows
    in_one = omega (arith, l, s.runs.a_inside)

    pub counts_on : {p : ℕ} → Some p ≡ lands s (row (a + i)) → p < length tally → Counted s (set tally p (get_or tally p 0 + 1)) (i + 1)
    counts_on e k j = rw (run_more text table a i in_one) (held_up (lands s) tally [] (one_run s i) h (row (a + i)) e k j)

    pub counts_past : None ≡ lands s (row (a + i)) → Counted s tally (i + 1)
    counts_past e j = rw (run_more text table a i in_one) (held_past (lands s) tally [] (one_run s i) h (row (a + i)) e j)

    -- no tally is above the number of rows
    pub counts_few : (p : ℕ) → get_or tally p 0 ≤ i
    counts_few p =
        omega (
          arith,
          h p,
          none_landed (lands s) p,
          landed_few (lands s) p (one_run s i),
          length_run text table a i (omega (arith, in_one)),
        )

  -- ---- and the second is taken off

  module _ (tally : List ℕ) (i : ℕ) (l : i < count) (h : Reduced s tally i) where
    in_other : b + i < rows
    in_other = omega (arith, l, s.runs.b_inside)

    pub takes_on : {p : ℕ} → Some p ≡ lands s (row (b + i)) → p < length tally → (get_or tally p 0 ≡ 0 → ⊥)
        → Reduced s (set tally p (get_or tally p 0 - 1)) (i + 1)
    takes_on e k some j = rw (run_more text table b i in_other) (held_down (lands s) tally (other_run s i) (one_run s count) h (row (b + i)) e k some j)

    pub takes_past : None ≡ lands s (row (b + i)) → Reduced s tally (i + 1)
    takes_past e j = rw (run_more text table b i in_other) (held_pass (lands s) tally (other_run s i) (one_run s count) h (row (b + i)) e j)

    -- more rows of the second run land there
    pub too_many : {p : ℕ} → Some p ≡ lands s (row (b + i)) → get_or tally p 0 ≡ 0 → same_runs text table a b count ≡ false
    too_many {p} e z = apart_at p (λ q. omega (arith, q, more, whole))
      where
        more : landed (lands s) p (one_run s count) < landed (lands s) p (other_run s (i + 1))
        more = rw (run_more text table b i in_other) (more_land (lands s) tally (other_run s i) (one_run s count) h (row (b + i)) e z)

        whole : landed (lands s) p (other_run s (i + 1)) ≤ landed (lands s) p (other_run s count)
        whole =
            let m : count ≡ i + 1 + (count - (i + 1)) = omega (arith, l) in
            omega (
              arith,
              ap (λ (n : ℕ). landed (lands s) p (other_run s n)) m,
              ap (landed (lands s) p) (run_then text table b (i + 1) (count - (i + 1))),
              landed_append (lands s) p (other_run s (i + 1)) (run_in text table (b + (i + 1)) (count - (i + 1))),
            )

  pub takes_start : (tally : List ℕ) → Counted s tally count → Reduced s tally 0
  takes_start tally h j = h j

  -- ---- what the tallies say then

  module _ (tally : List ℕ) (h : Reduced s tally count) where
    -- more rows of the first run land there
    pub left_over : Left tally → same_runs text table a b count ≡ false
    left_over (j, some) = apart_at j (λ q. omega (arith, q, some, h j))

    pub none_left : Empty tally → Level s
    none_left e j = omega (arith, e j, h j)

  -- a row that lands stands in both as often, so in the second oftener than before itself in the first
  pub lands_settled : Level s → (i : ℕ) → i < count → {p : ℕ} → Some p ≡ lands s (row (a + i)) → settled text table a b count i ≡ true
  lands_settled h i l {p} e =
      lt-ltb (many_in text table (a + i) a i) (many_in text table (a + i) b count) (omega (arith, ranked text table a count i l inside, even))
    where
      inside : a + i < rows
      inside = omega (arith, l, s.runs.a_inside)

      even : many_in text table (a + i) a count ≡ many_in text table (a + i) b count
      even =
          even_many (lands s) of_parameter (lands_same text table s.rows.items) (lands_apart text table s.rows.items)
          (one_run s count) (other_run s count) h (row (a + i)) p (sym e)

  pub landed_settled : Level s → (i : ℕ) → i < count → {o : Option ℕ} → o ≡ lands s (row (a + i)) → is_none o ≡ false → settled text table a b count i ≡ true
  landed_settled h i l {o = None} e n = absurd (false≢true (sym n))
  landed_settled h i l {o = Some p} e n = lands_settled h i l e
