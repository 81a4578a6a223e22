-- The shelf is for the same runs, and empty where no row was looked at.
use Rattle.std.proofs.Common.{◌≡◌, []}
use Rattle.sifting.proofs.Shelf.gather.Given as goal

abbrev pub invariant-loop-k : goal.invariant-loop-k
invariant-loop-k l = (l.self.runs ≡ l.fn.self.runs) × (l.k ≡ l.from → l.self.rows.items ≡ [])
