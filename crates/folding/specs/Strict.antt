-- The strict fold (document 01, "Folds"; document 02, request 4; RFC 5545, section 3.1): greedy over characters, none of which is cut.
-- Assumes nothing.
use Rattle.std.specs.Prelude.{ℕ, ◌-◌, ◌≤◌, ◌<◌, ◌≡◌, Bool, true, false, length, leb}
use mathlib.Core.List.{List, [], ◌∷◌, ◌++◌, flatten, map}
use Rattle.octets.specs.Choice.{pick}
use Rattle.octets.specs.Laid.{counted}
use Rattle.characters.specs.Units.{units, last_start}
use Rattle.folding.specs.Pieces.{brk}
use Rattle.folding.specs.declared.Folded.{Folded}

-- the octets of the first physical line, and of each later one without its space
abbrev pub first : ℕ
first = 75

abbrev pub later : ℕ
later = 74

-- a unit, with so many octets left in the present physical line: one that does not fit has a break before it, and a new line's octets
abbrev pub break_for : ℕ → List ℕ → List ℕ
break_for left u = pick (leb (length u) left) [] brk

abbrev pub left_for : ℕ → List ℕ → ℕ
left_for left u = pick (leb (length u) left) left later

-- the units in turn, as full as the lines go
unfoldable pub folded_units : ℕ → List (List ℕ) → List ℕ
folded_units left [] = []
folded_units left (u ∷ us) = break_for left u ++ (u ++ folded_units (left_for left u - length u) us)

-- the octets left behind them
unfoldable pub left_after : ℕ → List (List ℕ) → ℕ
left_after left [] = left
left_after left (u ∷ us) = left_after (left_for left u - length u) us

abbrev pub strict : List ℕ → List ℕ
strict line = folded_units first (units line)

-- a piece of a line folded strictly: how many octets it has, and how many are left in its last physical line
abbrev pub folded_piece : ℕ → List ℕ → Folded
folded_piece left piece = record {
  column = record { left = left_after left (units piece) };
  length = counted (length (folded_units left (units piece)));
}

-- the same by its pieces: a unit goes to the front of the first piece, and behind a break that piece is a new one
abbrev pub onto : List ℕ → List (List ℕ) → List (List ℕ)
onto u [] = u ∷ []
onto u (p ∷ ps) = (u ++ p) ∷ ps

abbrev pub kept : Bool → List (List ℕ) → List (List ℕ)
kept true ps = ps
kept false ps = [] ∷ ps

unfoldable pub packed : ℕ → List (List ℕ) → List (List ℕ)
packed left [] = [] ∷ []
packed left (u ∷ us) = kept (leb (length u) left) (onto u (packed (left_for left u - length u) us))

abbrev pub strict_pieces : List ℕ → List (List ℕ)
strict_pieces line = packed first (units line)

-- "a cut goes at the last character start within the limit": each piece is as long as the characters that its physical line takes of all that is left
unfoldable pub CutAtStarts : ℕ → List (List ℕ) → Type 0
CutAtStarts width [] = Unit {0}
CutAtStarts width (p ∷ ps) = (length p ≡ last_start width (flatten (p ∷ ps))) × CutAtStarts later ps

-- ---- lines of ASCII, which serve laws only

-- the strict fold of document 01: each byte is a unit
abbrev pub bytewise : List ℕ → List ℕ
bytewise line = folded_units first (map (λ (x : ℕ). x ∷ []) line)

-- as full as they go: every piece but the last fills its physical line, and none but the first is empty
unfoldable pub FullFrom : ℕ → List ℕ → List (List ℕ) → Type 0
FullFrom width p [] = length p ≤ width
FullFrom width p (q ∷ ps) = (length p ≡ width) × ((0 < length q) × FullFrom later q ps)

abbrev pub Full : ℕ → List (List ℕ) → Type 0
Full width [] = ⊥
Full width (p ∷ ps) = FullFrom width p ps
