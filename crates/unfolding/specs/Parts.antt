-- Serves inner contracts only. The parts of the contracts, by name.
-- Assumes nothing.
use Rattle.std.specs.Prelude.{ℕ, ◌-◌, ◌≤◌, ◌<◌, ◌≡◌, List, ◌++◌, take, drop}
use Rattle.std.proofs.Math.ListN.{length}
use Rattle.octets.specs.Laid.{laid}
use Rattle.unfolding.specs.Unfold.{unfolded}
use Rattle.unfolding.specs.declared.Piece.{Piece}

-- what unfolding a feed into a text comes to, be the text as short as it may: a text of no bytes only has the length counted
pub record Unfolding (feed old new : List ℕ) (r : ℕ) : Type 0 where
  pub count : r ≡ length (unfolded feed)
  pub text : new ≡ laid (unfolded feed) old

-- of the feed from i on the bytes up to the end of the piece stay, and what stays of the rest is what stays from the next piece on
pub record Stays (feed : List ℕ) (i : ℕ) (p : Piece) : Type 0 where
  pub begins : i ≤ p.end
  pub ends : p.end ≤ p.next
  pub moves : i < p.next
  pub within : p.next ≤ length feed
  pub is : unfolded (drop i feed) ≡ take (p.end - i) (drop i feed) ++ unfolded (drop p.next feed)
