-- Serves inner contracts only. Parameter rows that follow each other in a table, as parameters, and two such runs compared.
-- Assumes nothing.
use Rattle.std.specs.Prelude.{ℕ, zero, suc, ◌+◌, ◌≤◌, Bool, List, map, take, drop, ltb}
use Rattle.octets.specs.Choice.{pick}
use Rattle.tables.specs.Lent.{parameters_in}
use Rattle.tables.specs.Rows.{parameter_at}
use Rattle.tables.specs.Trees.{Parameter, parameter_of}
use Rattle.comparing.specs.Multisets.{many_of}
use Rattle.comparing.specs.Pieces.{same_parameter, same_parameters}

module _ (text table : List ℕ) where
  -- the parameter of a row
  abbrev pub parameter_in : ℕ → Parameter
  parameter_in row = parameter_of text (parameter_at table row)

  -- the parameters of `count` rows from `first` on
  abbrev pub run_in : ℕ → ℕ → List Parameter
  run_in first count = map (parameter_of text) (take count (drop first (parameters_in table)))

  -- how many of them are the same as that of a row
  abbrev pub many_in : ℕ → ℕ → ℕ → ℕ
  many_in row first count = many_of same_parameter (parameter_in row) (run_in first count)

  -- whether two runs of `count` rows are the same multiset
  abbrev pub same_runs : ℕ → ℕ → ℕ → Bool
  same_runs a b count = same_parameters (run_in a count) (run_in b count)

  -- the second run has a row for row i of the first: more that are like it than stand before it in the first
  abbrev pub settled : ℕ → ℕ → ℕ → ℕ → Bool
  settled a b count i = ltb (many_in (a + i) a i) (many_in (a + i) b count)

  -- no parameter stands oftener among the first i rows of the first run than in all of the second
  abbrev pub SettledTo : ℕ → ℕ → ℕ → ℕ → Type 0
  SettledTo a b count i = (z : Parameter) → many_of same_parameter z (run_in a i) ≤ many_of same_parameter z (run_in b count)

  -- how many rows at the front of two runs are the same one by one
  unfoldable pub agreeing_front : ℕ → ℕ → ℕ → ℕ
  agreeing_front a b zero = 0
  agreeing_front a b (suc n) = pick (same_parameter (parameter_in a) (parameter_in b)) (suc (agreeing_front (a + 1) (b + 1) n)) 0

  -- how many rows are left of them without those at the end that are
  unfoldable pub without_agreeing_back : ℕ → ℕ → ℕ → ℕ
  without_agreeing_back a b zero = 0
  without_agreeing_back a b (suc n) = pick (same_parameter (parameter_in (a + n)) (parameter_in (b + n))) (without_agreeing_back a b n) (suc n)
