-- The value of a parameter, in the bytes behind its `=` (document 01, "One parameter"; RFC 5545, section 3.1, `param-value` and `quoted-string`).
-- Here document 01 departs from the RFC: docs/DIFFERENCES.md, R-7, R-10 to R-14.
-- Assumes nothing.
use Rattle.std.specs.Prelude.{ℕ, zero, suc, ◌+◌, ◌-◌, ◌≤◌, Bool, false, not, ◌&&◌, List, [], ◌∷◌, length, get_or, drop, eqb, ltb}
use Rattle.octets.specs.Choice.{pick}
use Rattle.octets.specs.Bytes.{quote, comma, other, bare}
use Rattle.octets.specs.Runs.{run}
use Rattle.octets.specs.declared.Span.{Span}
use Rattle.parameters.specs.declared.Form.{Form}
use Rattle.parameters.specs.declared.Form.TheVariants.{Nothing, Bare, Quoted, Listed}
use Rattle.parameters.specs.declared.Value.{Value}
use Rattle.parameters.specs.declared.Value.TheVariants.{Absent, Present}

-- how many bytes other than `"` follow the first byte
abbrev pub inside_len : List ℕ → ℕ
inside_len xs = run (other quote) (drop 1 xs)

-- a quoted part stands at the front: `"`, one or more bytes other than `"`, `"`
abbrev pub quoted_here : List ℕ → Bool
quoted_here xs = eqb (get_or xs 0 0) quote && (ltb 0 (inside_len xs) && eqb (get_or xs (1 + inside_len xs) 0) quote)

-- the bytes of the quoted part at the front, with both quotes: 0 where there is none
unfoldable pub quoted_len : List ℕ → ℕ
quoted_len xs = pick (quoted_here xs) (inside_len xs + 2) 0

-- as many further `,"..."` as follow: their bytes, where the first k bytes belong to a part that has begun.
-- The first comma that no quoted part follows is not taken.
unfoldable pub further_after : ℕ → List ℕ → ℕ
further_after k [] = 0
further_after zero (x ∷ xs) = pick (eqb x comma && not (eqb (quoted_len xs) 0)) (suc (further_after (quoted_len xs) xs)) 0
further_after (suc k) (x ∷ xs) = suc (further_after k xs)

abbrev pub further_len : List ℕ → ℕ
further_len xs = further_after 0 xs

-- quoted if a quoted part stands at the front, one alone or with further ones; if that fails, the bytes up to `;`, `:` or the end;
-- if there are none, nothing
unfoldable pub form_of : List ℕ → Form
form_of xs =
    pick (eqb (quoted_len xs) 0)
    (pick (eqb (run bare xs) 0) Nothing (Bare (run bare xs)))
    (pick (eqb (further_len (drop (quoted_len xs) xs)) 0)
    (Quoted (quoted_len xs - 2))
    (Listed (quoted_len xs + further_len (drop (quoted_len xs) xs))))

-- the bytes that a value takes, with its quotes
abbrev pub form_used : Form → ℕ
form_used Nothing = 0
form_used (Bare n) = n
form_used (Quoted n) = n + 2
form_used (Listed n) = n

-- the bytes from `start` on, `len` of them
abbrev pub span : ℕ → ℕ → Span
span start len = record { start = start; len = len }

-- the value that begins at `at`: one quoted part gives its inside, and two or more the whole list with its quotes
abbrev pub value_at : ℕ → Form → Value
value_at at Nothing = Absent
value_at at (Bare n) = Present (span at n)
value_at at (Quoted n) = Present (span (at + 1) n)
value_at at (Listed n) = Present (span at n)

-- a list of two or more quoted parts that takes as many bytes
abbrev pub listed_all : Form → ℕ → Bool
listed_all Nothing len = false
listed_all (Bare n) len = false
listed_all (Quoted n) len = false
listed_all (Listed n) len = eqb n len

-- document 01, "Writing and trees": the bytes are exactly a list of two or more quoted parts
abbrev pub is_list : List ℕ → Bool
is_list xs = listed_all (form_of xs) (length xs)

-- the value ends inside the first n bytes
abbrev pub ValueWithin : Value → ℕ → Type 0
ValueWithin Absent n = Unit {0}
ValueWithin (Present s) n = s.start + s.len ≤ n
