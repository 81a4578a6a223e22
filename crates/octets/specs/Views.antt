-- A part of a text (document 01, "One parameter"): any start and length are answered, and one that reaches outside gives the empty part at its front.
-- Assumes nothing.
use Rattle.std.specs.Prelude.{ℕ, ◌+◌, List, [], length, take, drop, leb}
use Rattle.octets.specs.Choice.{pick}

abbrev pub part : List ℕ → ℕ → ℕ → List ℕ
part text start len = take len (drop start text)

abbrev pub viewed : List ℕ → ℕ → ℕ → List ℕ
viewed text start len = pick (leb (start + len) (length text)) (part text start len) []

-- how far from the front of the text the part begins; one that reaches outside is the empty part at the front
abbrev pub viewed_at : List ℕ → ℕ → ℕ → ℕ
viewed_at text start len = pick (leb (start + len) (length text)) start 0

-- a place in memory, which is a block and an offset in it, and the place so many bytes behind it
abbrev pub bytes_on : ℕ → ℕ × ℕ → ℕ × ℕ
bytes_on n place = (place.0, n + place.1)
