-- Which characters are well formed, and where a text has the first that is not (RFC 3629, section 4; document 02, request 4).
-- Assumes nothing.
use Rattle.std.specs.Prelude.{ℕ, suc, ◌+◌, Bool, false, ◌&&◌, ◌||◌, Option, Some, None, List, [], ◌∷◌, length, take, get_or, eqb, leb}
use Rattle.octets.specs.Choice.{pick}
use Rattle.octets.specs.Bytes.{between, ascii}
use Rattle.characters.specs.Units.{tail, wanted, units}

-- UTF8-2 = %xC2-DF UTF8-tail
abbrev pub utf8_two : ℕ → ℕ → Bool
utf8_two a b = between 194 223 a && tail b

-- UTF8-3 = %xE0 %xA0-BF UTF8-tail / %xE1-EC 2( UTF8-tail ) / %xED %x80-9F UTF8-tail / %xEE-EF 2( UTF8-tail )
abbrev pub utf8_three : ℕ → ℕ → ℕ → Bool
utf8_three a b c =
    (eqb a 224 && (between 160 191 b && tail c))
    || ((between 225 236 a && (tail b && tail c)) || ((eqb a 237 && (between 128 159 b && tail c)) || (between 238 239 a && (tail b && tail c))))

-- UTF8-4 = %xF0 %x90-BF 2( UTF8-tail ) / %xF1-F3 3( UTF8-tail ) / %xF4 %x80-8F 2( UTF8-tail )
abbrev pub utf8_four : ℕ → ℕ → ℕ → ℕ → Bool
utf8_four a b c d =
    (eqb a 240 && (between 144 191 b && (tail c && tail d)))
    || ((between 241 243 a && (tail b && (tail c && tail d))) || (eqb a 244 && (between 128 143 b && (tail c && tail d))))

-- UTF8-char = UTF8-1 / UTF8-2 / UTF8-3 / UTF8-4
abbrev pub utf8_char : List ℕ → Bool
utf8_char [] = false
utf8_char (a ∷ []) = ascii a
utf8_char (a ∷ b ∷ []) = utf8_two a b
utf8_char (a ∷ b ∷ c ∷ []) = utf8_three a b c
utf8_char (a ∷ b ∷ c ∷ d ∷ []) = utf8_four a b c d
utf8_char (a ∷ b ∷ c ∷ d ∷ e ∷ rest) = false

-- the octets before the first unit that is no character
unfoldable pub sound_len : List (List ℕ) → ℕ
sound_len [] = 0
sound_len (u ∷ us) = pick (utf8_char u) (length u + sound_len us) 0

-- where the first ill-formed character of a text begins, or its end
abbrev pub utf8_run : List ℕ → ℕ
utf8_run xs = sound_len (units xs)

abbrev pub is_utf8 : List ℕ → Bool
is_utf8 xs = leb (length xs) (utf8_run xs)

-- the bytes at the front that a character would have, as their first says; and how many they are if they are one
abbrev pub char_front : List ℕ → List ℕ
char_front xs = take (suc (wanted (get_or xs 0 0))) xs

abbrev pub char_at : List ℕ → Option ℕ
char_at xs = pick (utf8_char (char_front xs)) (Some (length (char_front xs))) None
