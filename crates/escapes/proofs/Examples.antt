-- Escaped text by example, held against RFC 5545, section 3.3.11, and document 02, request 1. Assumes nothing.
use Prim.Native.Nat.{ℕ}
use mathlib.Core.Path.{◌≡◌, refl}
use mathlib.Core.Bool.{true, false}
use mathlib.Core.List.{List, [], ◌∷◌, ◌++◌, map}
use lib.ListN.{length}
use Rattle.octets.specs.Literals.{bytes}
use Rattle.octets.specs.Words.{same_bytes}
use Rattle.octets.specs.Answers.{output}
use Rattle.escapes.specs.Text.{escapable, fine, text_of, as_value}
use Rattle.escapes.specs.Answers.{text_answer, text_out, value_answer, value_out}
use Rattle.escapes.specs.Loose.{same_text}
use Rattle.escapes.specs.declared.Mode.{Mode}

-- ---- what a backslash may stand before: backslash, `;`, `,`, n and N; then a colon; then none of x, a quote, a blank, LF and a byte of 200

abbrev behind : List ℕ
behind = bytes "\\;,nN:x\" \n" ++ 200 ∷ []

-- "backslash before backslash, semicolon, comma, and n or N for a line break"
strictly : map (λ (x : ℕ). escapable Mode.Strict x) behind
    ≡ true ∷ true ∷ true ∷ true ∷ true ∷ false ∷ false ∷ false ∷ false ∷ false ∷ false ∷ []
unfolding bytes
strictly = refl

-- "The repository's tests also turn `\:` into a colon; offer that as a second mode"
as_the_repository : map (λ (x : ℕ). escapable Mode.Repository x) behind
    ≡ true ∷ true ∷ true ∷ true ∷ true ∷ true ∷ false ∷ false ∷ false ∷ false ∷ false ∷ []
unfolding bytes
as_the_repository = refl

-- ---- where the first bad escape stands; where there is none, the length

-- none of them has a bad escape; then `\:` alone, bad escapes in front, behind others and at the end, and two of them
abbrev values : List (List ℕ)
values =
    [] ∷ bytes "a,b;c\n" ∷ bytes "a\\,b" ∷ bytes "\\n\\N\\;" ∷ bytes "\\\\x" ∷ bytes "ab\\:c" ∷ bytes "\\x" ∷ bytes "a\\,\\xb" ∷ bytes "\\" ∷ bytes "ab\\" ∷ bytes "a\\\\\\"
    ∷ bytes "a\\x\\" ∷ []

-- "place of the backslash, for any escape outside the mode and a backslash at the end"
places : map (λ (v : List ℕ). fine Mode.Strict v) values ≡ 0 ∷ 6 ∷ 4 ∷ 6 ∷ 3 ∷ 2 ∷ 0 ∷ 3 ∷ 0 ∷ 2 ∷ 3 ∷ 1 ∷ []
unfolding bytes fine
places = refl

places_as_the_repository : map (λ (v : List ℕ). fine Mode.Repository v) values ≡ 0 ∷ 6 ∷ 4 ∷ 6 ∷ 3 ∷ 5 ∷ 0 ∷ 3 ∷ 0 ∷ 2 ∷ 3 ∷ 1 ∷ []
unfolding bytes fine
places_as_the_repository = refl

-- ---- what a value is read as

-- an escape is one byte, n and N a line break; a backslash that is escaped escapes nothing; all else is itself
texts : map text_of
    ([] ∷ bytes "a\\,b" ∷ bytes "\\;" ∷ bytes "\\\\" ∷ bytes "a\\nb" ∷ bytes "a\\Nb" ∷ bytes "\\\\n" ∷ bytes "\\\\\\n" ∷ bytes "\\:" ∷ bytes "nN,;:\"\r\n" ∷ (200 ∷ []) ∷ [])
    ≡ [] ∷ bytes "a,b" ∷ bytes ";" ∷ bytes "\\" ∷ bytes "a\nb" ∷ bytes "a\nb" ∷ bytes "\\n" ∷ bytes "\\\n" ∷ bytes ":" ∷ bytes "nN,;:\"\r\n" ∷ (200 ∷ []) ∷ []
unfolding bytes text_of
texts = refl

-- ---- how a text is written

-- "both modes write alike, LF as `\n`"; all else stays
written : map as_value ([] ∷ bytes "a\\b" ∷ bytes "a;b" ∷ bytes "a,b" ∷ bytes "a\nb" ∷ bytes "\\n" ∷ bytes "nN:\"\r" ∷ (200 ∷ []) ∷ [])
    ≡ [] ∷ bytes "a\\\\b" ∷ bytes "a\\;b" ∷ bytes "a\\,b" ∷ bytes "a\\nb" ∷ bytes "\\\\n" ∷ bytes "nN:\"\r" ∷ (200 ∷ []) ∷ []
unfolding bytes as_value
written = refl

-- ---- the answers, and what a buffer of two bytes holds then

abbrev old : List ℕ
old = 1 ∷ 2 ∷ []

-- "16 BadEscape, place of the backslash"; "then 13": just room, more, too little, `\:`, and a bad escape where there is too little room
abbrev read : List (List ℕ)
read = bytes "a\\," ∷ bytes "\\n" ∷ bytes "ab\\," ∷ bytes "a\\:" ∷ bytes "abc\\x" ∷ []

read_answers : map (λ (v : List ℕ). text_answer Mode.Strict v (length old)) read ≡ output 0 0 2 ∷ output 0 0 1 ∷ output 13 0 3 ∷ output 16 1 0 ∷ output 16 3 0 ∷ []
unfolding bytes fine text_of
read_answers = refl

read_answers_as_the_repository : map (λ (v : List ℕ). text_answer Mode.Repository v (length old)) read
    ≡ output 0 0 2 ∷ output 0 0 1 ∷ output 13 0 3 ∷ output 0 0 2 ∷ output 16 3 0 ∷ []
unfolding bytes fine text_of
read_answers_as_the_repository = refl

-- "The output then stays."
read_outputs : map (λ (v : List ℕ). text_out Mode.Strict v old) read ≡ bytes "a," ∷ (10 ∷ 2 ∷ []) ∷ old ∷ old ∷ old ∷ []
unfolding bytes fine text_of
read_outputs = refl

write_answers : map (λ (t : List ℕ). value_answer t (length old)) (bytes "," ∷ bytes "a" ∷ bytes "a\n" ∷ []) ≡ output 0 0 2 ∷ output 0 0 1 ∷ output 13 0 3 ∷ []
unfolding bytes as_value
write_answers = refl

write_outputs : map (λ (t : List ℕ). value_out t old) (bytes "," ∷ bytes "a" ∷ bytes "a\n" ∷ []) ≡ bytes "\\," ∷ (97 ∷ 2 ∷ []) ∷ old ∷ []
unfolding bytes as_value
write_outputs = refl

-- ---- which values are alike

-- "compares property values as read in the strict mode": `\,` and a comma, `\n`, `\N` and LF; not `\n` and n, not `\,` and `\;`
alike : same_text (bytes "a\\,b") (bytes "a,b") ∷ same_text (bytes "\\n") (bytes "\\N") ∷ same_text (bytes "\\n") (bytes "\n") ∷ same_text (bytes "\\n") (bytes "n")
    ∷ same_text (bytes "\\,") (bytes "\\;") ∷ same_text [] [] ∷ same_text (bytes "a") [] ∷ []
    ≡ true ∷ true ∷ true ∷ false ∷ false ∷ true ∷ false ∷ []
unfolding bytes fine text_of same_bytes
alike = refl

-- "or as bytes if either is refused there": for `\x`, for a backslash at the end, for `\:`, and for all of a value that has one of these
alike_as_bytes : same_text (bytes "\\x") (bytes "\\x") ∷ same_text (bytes "\\x") (bytes "x") ∷ same_text (bytes "a\\") (bytes "a\\") ∷ same_text (bytes "a\\") (bytes "a\\\\")
    ∷ same_text (bytes "\\:") (bytes ":") ∷ same_text (bytes "\\:") (bytes "\\:") ∷ same_text (bytes "\\,\\x") (bytes ",\\x") ∷ []
    ≡ true ∷ false ∷ true ∷ false ∷ false ∷ true ∷ false ∷ []
unfolding bytes fine text_of same_bytes
alike_as_bytes = refl
