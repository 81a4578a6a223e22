-- Serves laws only. The starred examples of document 01, "Examples": what an example can say, when it holds, and the twelve of them as one table.
-- Assumes nothing.
use Rattle.std.specs.Prelude.{ℕ, Bool, true, false, ◌&&◌, List, [], ◌∷◌, ◌++◌, map, length, replicate, eqb, Option, Some, None}
use Rattle.octets.specs.Words.{same_bytes}
use Rattle.octets.specs.Views.{viewed}
use Rattle.octets.specs.Keys.{key_of}
use Rattle.octets.specs.declared.Span.{Span}
use Rattle.unfolding.specs.Unfold.{unfolded}
use Rattle.parameters.specs.declared.Param.{Param}
use Rattle.parameters.specs.declared.Value.{Value}
use Rattle.parameters.specs.declared.Value.TheVariants.{Absent, Present}
use Rattle.parameters.specs.Parameter.{front_of}
use Rattle.folding.specs.Pieces.{joined, physical}
use Rattle.folding.specs.Strict.{strict, strict_pieces}
use Rattle.folding.specs.Repository.{repository, repository_pieces}
use Rattle.quoting.specs.Quoting.{quoted}

-- ---- what an example can say

pub data Example : Type 0 where
  -- the feed unfolds to the text
  unfolds : (feed text : List ℕ) → Example
  -- the line has a key of so many bytes
  key : (line : List ℕ) (bytes : ℕ) → Example
  -- the key of the line is refused
  no_key : (line : List ℕ) → Example
  -- the parameter at the front has this key and no value, and uses so many bytes
  absent : (rest name : List ℕ) (used : ℕ) → Example
  -- the parameter at the front has this key and this value, and uses so many bytes
  present : (rest name value : List ℕ) (used : ℕ) → Example
  -- the repository's fold of the line has physical lines of so many octets
  folds : (line octets : List ℕ) → Example
  -- and the strict fold of so many
  folds_strictly : (line octets : List ℕ) → Example
  -- the value is written as the text
  quotes : (value text : List ℕ) → Example
  -- an example of two parts
  both : Example → Example → Example

-- ---- when it holds

abbrev pub has_length : Option ℕ → ℕ → Bool
has_length None bytes = false
has_length (Some n) bytes = eqb n bytes

abbrev pub is_refused : Option ℕ → Bool
is_refused None = true
is_refused (Some n) = false

-- these bytes stand there, and all of them inside
abbrev pub is_at : List ℕ → Span → List ℕ → Bool
is_at rest s bytes = same_bytes (viewed rest s.start s.len) bytes

abbrev pub is_absent : Value → Bool
is_absent Absent = true
is_absent (Present s) = false

abbrev pub is_present : List ℕ → Value → List ℕ → Bool
is_present rest Absent bytes = false
is_present rest (Present s) bytes = is_at rest s bytes

abbrev pub has_none : List ℕ → Option Param → List ℕ → ℕ → Bool
has_none rest None name used = false
has_none rest (Some p) name used = is_at rest p.key name && (is_absent p.value && eqb p.used used)

abbrev pub has_value : List ℕ → Option Param → List ℕ → List ℕ → ℕ → Bool
has_value rest None name value used = false
has_value rest (Some p) name value used = is_at rest p.key name && (is_present rest p.value value && eqb p.used used)

-- the fold gives these pieces joined, and their physical lines have so many octets
abbrev pub has_lines : List ℕ → List (List ℕ) → List ℕ → Bool
has_lines folded pieces octets = same_bytes folded (joined pieces) && same_bytes (map length (physical pieces)) octets

unfoldable pub holds : Example → Bool
holds (unfolds feed text) = same_bytes (unfolded feed) text
holds (key line bytes) = has_length (key_of line) bytes
holds (no_key line) = is_refused (key_of line)
holds (absent rest name used) = has_none rest (front_of rest) name used
holds (present rest name value used) = has_value rest (front_of rest) name value used
holds (folds line octets) = has_lines (repository line) (repository_pieces line) octets
holds (folds_strictly line octets) = has_lines (strict line) (strict_pieces line) octets
holds (quotes value text) = same_bytes (quoted value) text
holds (both a b) = holds a && holds b

unfoldable pub all_hold : List Example → Bool
all_hold [] = true
all_hold (e ∷ es) = holds e && all_hold es

-- ---- the table

-- so many letters `a`
abbrev letters : ℕ → List ℕ
letters n = replicate n 97

abbrev pub starred : List Example
starred =
    -- `ab` CRLF space `cd` unfolds to `abcd`
    unfolds (97 ∷ 98 ∷ 13 ∷ 10 ∷ 32 ∷ 99 ∷ 100 ∷ []) (97 ∷ 98 ∷ 99 ∷ 100 ∷ [])
    -- `a` LF LF space space `b` gives `a` LF space `b`
    ∷ unfolds (97 ∷ 10 ∷ 10 ∷ 32 ∷ 32 ∷ 98 ∷ []) (97 ∷ 10 ∷ 32 ∷ 98 ∷ [])
    -- `a` CR CR LF tab `b` gives `a` CR `b`
    ∷ unfolds (97 ∷ 13 ∷ 13 ∷ 10 ∷ 9 ∷ 98 ∷ []) (97 ∷ 13 ∷ 98 ∷ [])
    -- `BEGINNING` is a key of 9 bytes; `end;x` is refused
    ∷ both (key (66 ∷ 69 ∷ 71 ∷ 73 ∷ 78 ∷ 78 ∷ 73 ∷ 78 ∷ 71 ∷ []) 9) (no_key (101 ∷ 110 ∷ 100 ∷ 59 ∷ 120 ∷ []))
    -- `;KEY=` has key KEY, value absent, 5 bytes used
    ∷ absent (59 ∷ 75 ∷ 69 ∷ 89 ∷ 61 ∷ []) (75 ∷ 69 ∷ 89 ∷ []) 5
    -- `;K="a"` gives `a`
    ∷ present (59 ∷ 75 ∷ 61 ∷ 34 ∷ 97 ∷ 34 ∷ []) (75 ∷ []) (97 ∷ []) 6
    -- `;K="a","b"` gives `"a","b"`
    ∷ present (59 ∷ 75 ∷ 61 ∷ 34 ∷ 97 ∷ 34 ∷ 44 ∷ 34 ∷ 98 ∷ 34 ∷ []) (75 ∷ []) (34 ∷ 97 ∷ 34 ∷ 44 ∷ 34 ∷ 98 ∷ 34 ∷ []) 10
    -- `;K=""` gives `""`
    ∷ present (59 ∷ 75 ∷ 61 ∷ 34 ∷ 34 ∷ []) (75 ∷ []) (34 ∷ 34 ∷ []) 5
    -- `;K="a",b` gives `a` and stops before `,b`
    ∷ present (59 ∷ 75 ∷ 61 ∷ 34 ∷ 97 ∷ 34 ∷ 44 ∷ 98 ∷ []) (75 ∷ []) (97 ∷ []) 6
    -- 150 letters: repository lines of 75 and 76 octets, strict 75, 75 and 2
    ∷ both (folds (letters 150) (75 ∷ 76 ∷ [])) (folds_strictly (letters 150) (75 ∷ 75 ∷ 2 ∷ []))
    -- 76 bytes, the one at offset 75 a space, no other: repository 74 and 3, strict 75 and 2
    ∷ both (folds (letters 75 ++ 32 ∷ []) (74 ∷ 3 ∷ [])) (folds_strictly (letters 75 ++ 32 ∷ []) (75 ∷ 2 ∷ []))
    -- quoting `a,b` wraps it; a lone `"` stays
    ∷ both (quotes (97 ∷ 44 ∷ 98 ∷ []) (34 ∷ 97 ∷ 44 ∷ 98 ∷ 34 ∷ [])) (quotes (34 ∷ []) (34 ∷ []))
    ∷ []
