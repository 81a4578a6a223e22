-- What the count answers, one reason after the other. Assumes nothing.
use mathlib.Core.Path.{◌≡◌, ap}
use Prim.Native.Nat.{ℕ, ◌≤◌, ◌<◌}
use lib.ListN.{length}
use borrow.Author.Tests.{lt-ltb, le-ltb}
use Rattle.octets.specs.Answers.{done, bad_table}
use Rattle.tables.specs.Trees.{none}
use Rattle.tables.specs.Lent.{Lent, broken_in, components_in}
use Rattle.std.specs.Prelude.{Some, None, Result, Ok, Err}
use Rattle.std.specs.Result.{IsErr, IsErrAnd}
use Rattle.neighbours.specs.Counts.{repeats, children_in, neighbours, not_counted, neighbours_answer, told as found_out}

module _ (b : Lent) (parent : ℕ) where
  abbrev rows : ℕ
  rows = length (components_in b.components)

  pub broken_row : {row : ℕ} → broken_in b ≡ Some row → neighbours_answer b parent ≡ neighbours bad_table row 0
  unfolding neighbours_answer
  broken_row e = rw e

  module _ (sound : broken_in b ≡ None) where
    pub no_parent_holds : rows ≤ parent → neighbours_answer b parent ≡ neighbours bad_table parent 0
    unfolding neighbours_answer
    no_parent_holds h = rw (sound, le-ltb parent rows h)

    pub told : parent < rows → neighbours_answer b parent ≡ neighbours done 0 (repeats none (children_in b parent))
    unfolding neighbours_answer
    told h = rw (sound, lt-ltb parent rows h)

-- a number that is passed on is told
pub told_on : (r : Result ℕ ℕ) {n : ℕ} → IsErr r → IsErrAnd r (λ k. k ≡ n) → found_out r ≡ not_counted n
told_on (Ok twins) e a = cc
told_on (Err k) e a = ap not_counted a
