-- Characters by example: every range of the grammar (RFC 3629, section 4) by its ends and the bytes beside them, and cuts at every place. Assumes nothing.
use Prim.Native.Nat.{ℕ}
use mathlib.Core.Path.{◌≡◌, refl}
use mathlib.Core.Bool.{Bool, true, false}
use mathlib.Core.List.{List, [], ◌∷◌, ◌++◌, map}
use lib.ListN.{length}
use Rattle.octets.specs.Runs.{run}
use Rattle.characters.specs.Units.{units_from, fitting, last_start}
use Rattle.characters.specs.Utf8.{sound_len, utf8_run}
use Rattle.characters.specs.Quick.{looked, common_text}

-- ---- where the first ill-formed character begins, or the end

record Case : Type 0 where
  text : List ℕ
  place : ℕ

abbrev row : List ℕ → ℕ → Case
row text place = record { text = text; place = place }

-- the characters reach to the end
abbrev fine : List ℕ → Case
fine text = row text (length text)

-- behind a letter nothing is a character
abbrev ill : List ℕ → Case
ill text = row (65 ∷ text) 1

abbrev found : Case → ℕ
found c = utf8_run c.text

abbrev told : Case → ℕ
told c = c.place

-- no text; `São`, `Łukasz`, `李` and U+1F600
abbrev names : List Case
names =
    row [] 0
    ∷ row (83 ∷ 195 ∷ 163 ∷ 111 ∷ []) 4
    ∷ row (197 ∷ 129 ∷ 117 ∷ 107 ∷ 97 ∷ 115 ∷ 122 ∷ []) 7
    ∷ row (230 ∷ 157 ∷ 142 ∷ []) 3
    ∷ row (240 ∷ 159 ∷ 152 ∷ 128 ∷ []) 4
    ∷ []

-- the ends of each range: 00 and 7F
abbrev of_one : List Case
of_one = fine (0 ∷ []) ∷ fine (127 ∷ []) ∷ []

-- C2 80 and DF BF
abbrev of_two : List Case
of_two = fine (194 ∷ 128 ∷ []) ∷ fine (223 ∷ 191 ∷ []) ∷ []

-- E0 A0 80 and E0 BF BF; E1 80 80 and EC BF BF; ED 80 80 and ED 9F BF, before the surrogates; EE 80 80 and EF BF BF
abbrev of_three : List Case
of_three =
    fine (224 ∷ 160 ∷ 128 ∷ [])
    ∷ fine (224 ∷ 191 ∷ 191 ∷ [])
    ∷ fine (225 ∷ 128 ∷ 128 ∷ [])
    ∷ fine (236 ∷ 191 ∷ 191 ∷ [])
    ∷ fine (237 ∷ 128 ∷ 128 ∷ [])
    ∷ fine (237 ∷ 159 ∷ 191 ∷ [])
    ∷ fine (238 ∷ 128 ∷ 128 ∷ [])
    ∷ fine (239 ∷ 191 ∷ 191 ∷ [])
    ∷ []

-- F0 90 80 80 and F0 BF BF BF; F1 80 80 80 and F3 BF BF BF; F4 80 80 80 and F4 8F BF BF, the last of all
abbrev of_four : List Case
of_four =
    fine (240 ∷ 144 ∷ 128 ∷ 128 ∷ [])
    ∷ fine (240 ∷ 191 ∷ 191 ∷ 191 ∷ [])
    ∷ fine (241 ∷ 128 ∷ 128 ∷ 128 ∷ [])
    ∷ fine (243 ∷ 191 ∷ 191 ∷ 191 ∷ [])
    ∷ fine (244 ∷ 128 ∷ 128 ∷ 128 ∷ [])
    ∷ fine (244 ∷ 143 ∷ 191 ∷ 191 ∷ [])
    ∷ []

-- first bytes of no character: C0 80, C1 BF, F5 80 80 80, F7 80 80 80, F8 88 80 80 80, FE, FF
abbrev no_first : List Case
no_first =
    ill (192 ∷ 128 ∷ [])
    ∷ ill (193 ∷ 191 ∷ [])
    ∷ ill (245 ∷ 128 ∷ 128 ∷ 128 ∷ [])
    ∷ ill (247 ∷ 128 ∷ 128 ∷ 128 ∷ [])
    ∷ ill (248 ∷ 136 ∷ 128 ∷ 128 ∷ 128 ∷ [])
    ∷ ill (254 ∷ [])
    ∷ ill (255 ∷ [])
    ∷ []

-- the ends of the surrogates, ED A0 80 and ED BF BF; longer forms than needed, E0 80 80, E0 9F BF, F0 80 80 80 and F0 8F BF BF; the first above U+10FFFF, F4 90 80 80
abbrev no_second : List Case
no_second =
    ill (237 ∷ 160 ∷ 128 ∷ [])
    ∷ ill (237 ∷ 191 ∷ 191 ∷ [])
    ∷ ill (224 ∷ 128 ∷ 128 ∷ [])
    ∷ ill (224 ∷ 159 ∷ 191 ∷ [])
    ∷ ill (240 ∷ 128 ∷ 128 ∷ 128 ∷ [])
    ∷ ill (240 ∷ 143 ∷ 191 ∷ 191 ∷ [])
    ∷ ill (244 ∷ 144 ∷ 128 ∷ 128 ∷ [])
    ∷ []

-- tails that nothing asked for, 80 and BF; a tail too many, behind C3 A9
abbrev lone : List Case
lone = ill (128 ∷ []) ∷ ill (191 ∷ []) ∷ row (65 ∷ 195 ∷ 169 ∷ 128 ∷ []) 3 ∷ []

-- cut off at the end: C3, E6 9D, E6, F0 9F 98, F0 9F, F0; and by a letter: C3 41, E6 9D 41, F0 9F 41, F0 9F 98 41
abbrev cut_off : List Case
cut_off =
    ill (195 ∷ [])
    ∷ ill (230 ∷ 157 ∷ [])
    ∷ ill (230 ∷ [])
    ∷ ill (240 ∷ 159 ∷ 152 ∷ [])
    ∷ ill (240 ∷ 159 ∷ [])
    ∷ ill (240 ∷ [])
    ∷ ill (195 ∷ 65 ∷ [])
    ∷ ill (230 ∷ 157 ∷ 65 ∷ [])
    ∷ ill (240 ∷ 159 ∷ 65 ∷ [])
    ∷ ill (240 ∷ 159 ∷ 152 ∷ 65 ∷ [])
    ∷ []

abbrev cases : List Case
cases = names ++ (of_one ++ (of_two ++ (of_three ++ (of_four ++ (no_first ++ (no_second ++ (lone ++ cut_off)))))))

places : map found cases ≡ map told cases
unfolding run units_from sound_len
places = refl

-- ---- the last start of a character within so many bytes

-- three letters, and `é`, `李` or U+1F600 behind them, with room for none of it up to all
abbrev letters : List ℕ
letters = 65 ∷ 66 ∷ 67 ∷ []

abbrev starts : List ℕ → List ℕ → List ℕ
starts text rooms = map (λ (room : ℕ). last_start room text) rooms

before_two : starts (letters ++ 195 ∷ 169 ∷ []) (0 ∷ 1 ∷ 2 ∷ 3 ∷ 4 ∷ 5 ∷ []) ≡ 0 ∷ 1 ∷ 2 ∷ 3 ∷ 3 ∷ 5 ∷ []
unfolding run units_from fitting
before_two = refl

before_three : starts (letters ++ 230 ∷ 157 ∷ 142 ∷ []) (0 ∷ 1 ∷ 2 ∷ 3 ∷ 4 ∷ 5 ∷ 6 ∷ []) ≡ 0 ∷ 1 ∷ 2 ∷ 3 ∷ 3 ∷ 3 ∷ 6 ∷ []
unfolding run units_from fitting
before_three = refl

before_four : starts (letters ++ 240 ∷ 159 ∷ 152 ∷ 128 ∷ []) (0 ∷ 1 ∷ 2 ∷ 3 ∷ 4 ∷ 5 ∷ 6 ∷ 7 ∷ []) ≡ 0 ∷ 1 ∷ 2 ∷ 3 ∷ 3 ∷ 3 ∷ 3 ∷ 7 ∷ []
unfolding run units_from fitting
before_four = refl

-- ---- what is seen at a look

abbrev seen : List Case → List Bool
seen cases = map (λ (c : Case). common_text c.text) cases

abbrev each : Bool → List Case → List Bool
each so cases = map (λ (c : Case). so) cases

-- the ends of each range of two and of three bytes pass; nothing ill-formed does
pass : seen (of_two ++ of_three) ≡ each true (of_two ++ of_three)
unfolding looked
pass = refl

abbrev ill_formed_holds : List Case
ill_formed_holds = no_first ++ (no_second ++ (lone ++ cut_off))

none_pass : seen ill_formed_holds ≡ each false ill_formed_holds
unfolding looked
none_pass = refl

-- no text, U+1F600, a letter alone and one with an LF behind it are fine, and want the longer look
names_pass : seen names ≡ false ∷ true ∷ true ∷ true ∷ false ∷ []
unfolding looked
names_pass = refl

want_more : seen (fine (65 ∷ []) ∷ fine (65 ∷ 10 ∷ []) ∷ []) ≡ false ∷ false ∷ []
unfolding looked
want_more = refl
