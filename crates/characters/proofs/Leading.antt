-- The leading ones of a byte say how many tails it asks for: one test over all 256. Assumes nothing.
use mathlib.Core.Path.{◌≡◌, refl}
use Prim.Native.Nat.{ℕ, ◌-◌, ◌<◌}
use lib.Count.{count_leading_zeros}
use Rattle.octets.specs.Choice.{pick}
use Rattle.octets.specs.Bytes.{between}
use Rattle.octets.proofs.Every.{equal}
use Rattle.characters.specs.Units.{wanted}

-- the leading zeros of its complement
abbrev pub ones : ℕ → ℕ
ones b = count_leading_zeros 8 (255 - b)

-- two, three or four ones ask for a tail less than they are, any other number for none
pub by_ones : (b : ℕ) → b < 256 → pick (between 2 4 (ones b)) (ones b - 1) 0 ≡ wanted b
unfolding count_leading_zeros
by_ones = equal (λ (b : ℕ). pick (between 2 4 (ones b)) (ones b - 1) 0) wanted 256 refl
