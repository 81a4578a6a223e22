-- Numbers, views, keys and room by example, held against document 01, and the numbers of document 02, requests 1, 2 and 4. Assumes nothing.
use Prim.Native.Nat.{ℕ, zero, suc}
use mathlib.Core.Bool.{Bool}
use mathlib.Core.Path.{◌≡◌, refl}
use mathlib.Core.List.{List, [], ◌∷◌, map}
use Rattle.octets.specs.Literals.{bytes}
use Rattle.octets.specs.Choice.{pick}
use Rattle.octets.specs.Bytes.{key_byte}
use Rattle.octets.specs.Runs.{run}
use Rattle.octets.specs.Words.{starts_word}
use Rattle.octets.specs.Keys.{key_of}
use Rattle.octets.specs.Views.{viewed, viewed_at}
use Rattle.octets.specs.Answers as answers
use Rattle.octets.specs.Answers.{output, room_answer, out_after}
use Rattle.std.specs.Prelude.{Some, None}

-- "No. | Name": the sixteen names in the order of the table, each with its number; "16 BadEscape" (document 02, request 1);
-- "7 then means empty key", "17 ReservedKey", "18 StrayByte" (request 2);
-- "19 NotUtf8" (request 4)
numbered : (answers.done ∷ answers.too_long ∷ answers.no_text_room ∷ answers.bad_begin ∷ answers.too_deep ∷ answers.bad_end ∷ answers.outside ∷ answers.empty_key
    ∷ answers.unclosed ∷ answers.no_component ∷ answers.no_room ∷ answers.has_break ∷ answers.not_ascii ∷ answers.no_out_room ∷ answers.bad_table ∷ answers.unwritable
    ∷ answers.bad_escape ∷ answers.reserved_key ∷ answers.stray_byte ∷ answers.not_utf8 ∷ [])
    ≡ (0 ∷ 1 ∷ 2 ∷ 3 ∷ 4 ∷ 5 ∷ 6 ∷ 7 ∷ 8 ∷ 9 ∷ 10 ∷ 11 ∷ 12 ∷ 13 ∷ 14 ∷ 15 ∷ 16 ∷ 17 ∷ 18 ∷ 19 ∷ [])
numbered = refl

-- a start and a length: inside, up to the end, empty at the end; then with a length over the end, from the front too, and with a start over the end
abbrev spans : List (ℕ × ℕ)
spans = (1, 1) ∷ (1, 2) ∷ (3, 0) ∷ (1, 3) ∷ (0, 4) ∷ (4, 0) ∷ []

-- "a view that reaches outside gives the empty part at its front": nothing of it is kept
views : map (λ (s : ℕ × ℕ). viewed (bytes "abc") s.0 s.1) spans ≡ bytes "b" ∷ bytes "bc" ∷ [] ∷ [] ∷ [] ∷ [] ∷ []
unfolding bytes
views = refl

starts : map (λ (s : ℕ × ℕ). viewed_at (bytes "abc") s.0 s.1) spans ≡ 1 ∷ 1 ∷ 3 ∷ 0 ∷ 0 ∷ 0 ∷ []
unfolding bytes
starts = refl

-- the bytes below n that are of a class, in their order, before some others
abbrev among : (ℕ → Bool) → ℕ → List ℕ → List ℕ
among class zero behind = behind
among class (suc n) behind = among class n (pick (class n) (n ∷ behind) behind)

-- "Key bytes are ASCII letters, digits and `.` `,` `/` `_` `-`": of all 256 these and no others
key_bytes : among key_byte 256 [] ≡ bytes ",-./0123456789ABCDEFGHIJKLMNOPQRSTUVWXYZ_abcdefghijklmnopqrstuvwxyz"
unfolding bytes
key_bytes = refl

-- "refused if the line starts with BEGIN or END in any case and then has `:`, `;` or its end. Otherwise it is the longest run of key bytes."
keys : map key_of (bytes "K:v" ∷ bytes "azAZ09.,/_-;" ∷ bytes " K" ∷ bytes "BEGIN" ∷ bytes "bEgIn;X" ∷ bytes "End:" ∷ bytes "BEGINNING" ∷ bytes "END X" ∷ [])
    ≡ Some 1 ∷ Some 11 ∷ Some 0 ∷ None ∷ None ∷ None ∷ Some 9 ∷ Some 3 ∷ []
unfolding bytes run starts_word
keys = refl

-- "output longer than the buffer": three bytes for three, and for two, with "the length needed"
rooms : room_answer 3 3 ∷ room_answer 3 2 ∷ [] ≡ output 0 0 3 ∷ output 13 0 3 ∷ []
rooms = refl

-- "11 to 15 change nothing. Done writes the first bytes and rows only."
outputs : out_after (output 0 0 2) (bytes "ab") (1 ∷ 2 ∷ 3 ∷ []) ∷ out_after (output 13 0 4) (bytes "abcd") (1 ∷ 2 ∷ 3 ∷ []) ∷ []
    ≡ (97 ∷ 98 ∷ 3 ∷ []) ∷ (1 ∷ 2 ∷ 3 ∷ []) ∷ []
unfolding bytes
outputs = refl
