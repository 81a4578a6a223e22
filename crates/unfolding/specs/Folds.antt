-- Serves inner contracts only. Where a feed is folded (document 01, "Unfolding"; RFC 5545, section 3.1): at an LF that a blank follows at once.
-- Here document 01 departs from the RFC: docs/DIFFERENCES.md, R-3.
-- Assumes nothing.
use Rattle.std.specs.Prelude.{ℕ, suc, Bool, ◌&&◌, List, [], ◌∷◌, get_or, eqb}
use Rattle.octets.specs.Choice.{pick}
use Rattle.octets.specs.Bytes.{blank, lf}

-- the byte x is an LF, and a blank stands behind it
abbrev pub is_fold : ℕ → ℕ → Bool
is_fold x a = eqb x lf && blank a

-- how many bytes stand before the first fold: all of them where there is none
unfoldable pub to_fold : List ℕ → ℕ
to_fold [] = 0
to_fold (x ∷ xs) = pick (is_fold x (get_or xs 0 0)) 0 (suc (to_fold xs))
