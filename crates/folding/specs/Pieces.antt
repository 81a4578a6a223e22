-- A folded line as its pieces: the bytes of each physical line without what the fold adds (RFC 5545, section 3.1, "folding").
-- Assumes nothing.
use Rattle.std.specs.Prelude.{ℕ, ◌≤◌, length, List, [], ◌∷◌, ◌++◌, map}
use Rattle.octets.specs.Bytes.{cr, lf, space}
use Rattle.octets.specs.All.{All}

-- what stands between two pieces: CRLF and a space
abbrev pub brk : List ℕ
brk = cr ∷ lf ∷ space ∷ []

-- each piece behind a break
unfoldable pub behind_breaks : List (List ℕ) → List ℕ
behind_breaks [] = []
behind_breaks (p ∷ ps) = brk ++ (p ++ behind_breaks ps)

-- the first piece as it is, each later one behind a break
abbrev pub joined : List (List ℕ) → List ℕ
joined [] = []
joined (p ∷ ps) = p ++ behind_breaks ps

-- the physical lines without their breaks: each later piece behind its space
abbrev pub physical : List (List ℕ) → List (List ℕ)
physical [] = []
physical (p ∷ ps) = p ∷ map (λ (q : List ℕ). space ∷ q) ps

-- none of them has more bytes than this
abbrev pub Within : ℕ → List (List ℕ) → Type 0
Within width ps = All (λ (p : List ℕ). length p ≤ width) ps
