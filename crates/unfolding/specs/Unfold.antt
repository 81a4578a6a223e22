-- Unfolding (document 01, "Unfolding"; RFC 5545, section 3.1): one pass over the bytes of a feed. Every LF that a blank follows at once goes,
-- with that one blank, and with a CR directly before the LF.
-- Which bytes go is said of each byte by itself: by the byte before it and the two behind it, as they are in the feed.
-- Here document 01 departs from the RFC: docs/DIFFERENCES.md, R-3.
-- Assumes nothing.
use Rattle.std.specs.Prelude.{ℕ, Bool, true, false, ◌&&◌, ◌||◌, List, [], ◌∷◌, get_or, eqb}
use Rattle.octets.specs.Bytes.{blank, cr, lf}

-- whether the byte x goes, with p before it, and a and then b behind it (0 where there is none): it is an LF with a blank behind it,
-- a blank behind an LF, or a CR with an LF and a blank behind it
abbrev pub goes : ℕ → ℕ → ℕ → ℕ → Bool
goes p x a b = (eqb x lf && blank a) || ((blank x && eqb p lf) || (eqb x cr && (eqb a lf && blank b)))

-- xs with x before it, unless x goes
abbrev pub keep : Bool → ℕ → List ℕ → List ℕ
keep true x xs = xs
keep false x xs = x ∷ xs

-- the bytes that stay, of a list that the byte p stands before
unfoldable pub unfolded_after : ℕ → List ℕ → List ℕ
unfolded_after p [] = []
unfolded_after p (x ∷ xs) = keep (goes p x (get_or xs 0 0) (get_or xs 1 0)) x (unfolded_after x xs)

-- the bytes of a feed that stay: nothing, which counts as 0, stands before its first byte
abbrev pub unfolded : List ℕ → List ℕ
unfolded feed = unfolded_after 0 feed
