-- The fold of the repository, `fold_line` of src/properties.rs, on ASCII without LF (document 01, "Folds").
-- Here document 01 departs from the RFC: docs/DIFFERENCES.md, R-20, R-21.
-- Assumes nothing.
use Rattle.std.specs.Prelude.{ℕ, zero, suc, ◌-◌, Bool, ◌||◌, List, [], ◌∷◌, length, take, drop, get_or, eqb, leb}
use Rattle.octets.specs.Choice.{pick}
use Rattle.octets.specs.Bytes.{between, space}
use Rattle.folding.specs.Pieces.{joined}
use Rattle.folding.specs.Strict.{first, later}

-- what `char::is_whitespace` holds of in ASCII
abbrev pub white : ℕ → Bool
white x = between 9 13 x || eqb x space

-- the cut stands so many bytes on, one less if the byte at the cut is white
abbrev pub cut : ℕ → List ℕ → ℕ
cut width rest = pick (white (get_or rest width 0)) (width - 1) width

-- while more than 75 bytes remain a piece is cut off, at most so many times; the remainder is one piece
unfoldable pub cuts : ℕ → ℕ → List ℕ → List (List ℕ)
cuts zero width rest = rest ∷ []
cuts (suc times) width rest =
    pick (leb (length rest) first) (rest ∷ []) (take (cut width rest) rest ∷ cuts times later (drop (cut width rest) rest))

-- every piece has a byte at least, so that there are no more cuts than bytes
abbrev pub pieces_of : ℕ → List ℕ → List (List ℕ)
pieces_of width rest = cuts (length rest) width rest

abbrev pub repository_pieces : List ℕ → List (List ℕ)
repository_pieces line = pieces_of first line

abbrev pub repository : List ℕ → List ℕ
repository line = joined (repository_pieces line)
