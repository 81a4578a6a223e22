-- Serves inner contracts only. What one round over a shelf finds out about the two runs that it is for.
-- Assumes nothing.
use Rattle.std.specs.Prelude.{ℕ, Bool, List, [], Option}
use Rattle.tables.specs.Trees.{Parameter}
use Rattle.comparing.specs.Runs.{parameter_in, run_in, same_runs, SettledTo}
use Rattle.sifting.specs.declared.Shelf.{Shelf}
use Rattle.sifting.specs.Shelves.{looked_for, landing}
use Rattle.sifting.specs.Tallies.{Balanced, Even}

-- the parameter of a row of the table
abbrev pub row_of : Shelf → ℕ → Parameter
row_of s row = parameter_in s.runs.text.now s.runs.parameters.now row

-- where a parameter is looked for
abbrev pub place : Shelf → Parameter → ℕ
place s = looked_for s.runs.text.now s.runs.parameters.now s.rows.items

-- the place on which a parameter lands, if it does
abbrev pub lands : Shelf → Parameter → Option ℕ
lands s = landing s.runs.text.now s.runs.parameters.now s.rows.items

-- the first rows of either run
abbrev pub one_run : Shelf → ℕ → List Parameter
one_run s i = run_in s.runs.text.now s.runs.parameters.now s.runs.a i

abbrev pub other_run : Shelf → ℕ → List Parameter
other_run s i = run_in s.runs.text.now s.runs.parameters.now s.runs.b i

-- whether both runs are the same multiset
abbrev pub alike : Shelf → Bool
alike s = same_runs s.runs.text.now s.runs.parameters.now s.runs.a s.runs.b s.runs.count

-- no parameter stands oftener among the first rows of the first run than in all of the second
abbrev pub Settled : Shelf → ℕ → Type 0
Settled s i = SettledTo s.runs.text.now s.runs.parameters.now s.runs.a s.runs.b s.runs.count i

-- the tallies count the first rows of the first run
abbrev pub Counted : Shelf → List ℕ → ℕ → Type 0
Counted s tally i = Balanced (lands s) tally [] (one_run s i)

-- the tallies of all the first run, and the first rows of the second are taken off them
abbrev pub Reduced : Shelf → List ℕ → ℕ → Type 0
Reduced s tally i = Balanced (lands s) tally (other_run s i) (one_run s s.runs.count)

-- as many of both runs land on each place
abbrev pub Level : Shelf → Type 0
Level s = Even (lands s) (one_run s s.runs.count) (other_run s s.runs.count)
