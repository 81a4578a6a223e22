-- A list laid over the front of a buffer, as far as it goes; the rest of the buffer is as it was.
-- Assumes nothing.
use Rattle.std.specs.Borrow.{MutBor}
use Rattle.std.specs.Prelude.{ℕ, ◌+◌, min, ◌≡◌, List, ◌++◌, length, take, drop}

abbrev pub laid : List ℕ → List ℕ → List ℕ
laid xs old = take (length old) xs ++ drop (length xs) old

-- laid from a place of the buffer on; past its end nothing is laid
abbrev pub laid_from : ℕ → List ℕ → List ℕ → List ℕ
laid_from at xs old = take at old ++ laid xs (drop at old)

-- a count of bytes goes on past the end of the buffer, and stops at the largest number of 64 bits
abbrev pub most : ℕ
most = 18446744073709551615

abbrev pub counted : ℕ → ℕ
counted n = min n most

-- what a writer does that counts on: the bytes lie over the buffer from `at` on, as far as it goes, and the answer is the place behind them.
-- At 0 that is the front of the buffer, and how many bytes there are.
pub record Lays (at : ℕ) (bytes old new : List ℕ) (n : ℕ) : Type 0 where
  pub count : n ≡ counted (at + length bytes)
  pub is : new ≡ laid_from at bytes old

-- a step that lays the same bytes over the front of whatever buffer it is lent, by what may follow a call of it
abbrev pub LaysEach : (MutBor (List ℕ) → ℕ → MutBor (List ℕ) → Type 0) → List ℕ → Type 0
LaysEach follows bytes = (lent back : MutBor (List ℕ)) (n : ℕ) → follows lent n back → Lays 0 bytes lent.now back.now n
