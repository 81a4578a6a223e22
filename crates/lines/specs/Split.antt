-- A text as lines (document 01, "Lines and nesting"; RFC 5545, section 3.1). A line ends at LF or at the end of the text. One CR directly
-- before the LF belongs to the break, and every other CR is a byte of the line.
-- Here document 01 departs from the RFC: docs/DIFFERENCES.md, R-2.
-- Assumes nothing.
use Rattle.std.specs.Prelude.{ℕ, zero, suc, ◌+◌, ◌-◌, ◌&&◌, List, [], ◌∷◌, length, get_or, take, drop, eqb, ltb}
use Rattle.octets.specs.Choice.{pick}
use Rattle.octets.specs.Bytes.{lf, cr, other}
use Rattle.octets.specs.Runs.{run}
use Rattle.lines.specs.declared.Extent.{Extent}

-- the bytes before the first LF, of which there may be none
abbrev pub to_break : List ℕ → ℕ
to_break xs = run (other lf) xs

-- the bytes of the first line, without its break
abbrev pub content_len : List ℕ → ℕ
content_len xs = pick (ltb (to_break xs) (length xs) && eqb (get_or xs (to_break xs - 1) 0) cr) (to_break xs - 1) (to_break xs)

-- with its break, if it has one
abbrev pub line_len : List ℕ → ℕ
line_len xs = pick (ltb (to_break xs) (length xs)) (to_break xs + 1) (to_break xs)

-- the first line of what follows `at`: how long its content is, and where the next line starts
abbrev pub extent_of : ℕ → List ℕ → Extent
extent_of at xs = record { len = content_len xs; next = at + line_len xs }

-- a line by its place in the text and its content
pub record Placed : Type 0 where
  pub start : ℕ
  pub content : List ℕ

abbrev pub placed : ℕ → List ℕ → Placed
placed at xs = record { start = at; content = take (content_len xs) xs }

-- the lines of the bytes from `at` on, of which the first k belong to a line that has begun
unfoldable pub lines_after : ℕ → ℕ → List ℕ → List Placed
lines_after at k [] = []
lines_after at zero (x ∷ xs) = placed at (x ∷ xs) ∷ lines_after (at + 1) (line_len (x ∷ xs) - 1) xs
lines_after at (suc k) (x ∷ xs) = lines_after (at + 1) k xs

abbrev pub lines_from : ℕ → List ℕ → List Placed
lines_from at text = lines_after at 0 (drop at text)
