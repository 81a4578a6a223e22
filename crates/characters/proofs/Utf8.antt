-- Laws of UTF-8: the shape of a character, the code's test at the front, the grammar, and where the first ill-formed character begins. Assumes nothing.
use mathlib.Core.Path.{◌≡◌, refl, sym, ap, subst, ◌∙◌}
use mathlib.Core.Bool.{Bool, true, false, ◌&&◌, and_assoc}
use mathlib.Core.Logic.{◌↔◌}
use mathlib.Core.List.{List, [], ◌∷◌, ◌++◌, map, append_assoc}
use Prim.Native.Nat.{ℕ, suc, ◌+◌, ◌≤◌, ◌<◌}
use native.Mathlib.Omega.{arith}
use lib.ListN.{length, take, drop, get_or, length-take, length-drop, take-append-drop, length-append}
use lib.Seq.{take-append_seam, drop-append_seam, take-add, drop-drop}
use lib.Dec.{leb, eqb, leb-suc-zero}
use borrow.Author.Tests.{le-leb, lt-leb, leb-true, leb-false, eqb-true}
use Rattle.std.specs.Prelude.{Option, Some, None}
use Rattle.octets.specs.Choice.{pick}
use Rattle.octets.specs.Bytes.{between, ascii}
use Rattle.octets.specs.Runs.{run, only}
use Rattle.octets.specs.All.{All}
use Rattle.octets.proofs.Bools.{both, either}
use Rattle.octets.proofs.Runs.{within, through, whole_head, whole_tail, all_of}
use Rattle.characters.specs.Units.{tail, wanted, tails, units}
use Rattle.characters.specs.Utf8.{utf8_three, utf8_four, utf8_char, sound_len, utf8_run, is_utf8, char_front, char_at}
use Rattle.characters.specs.Grammar.{Utf8, no_octet, a_char, IllFormedAt}
use Rattle.characters.proofs.Units.{units_none, units_front, by_units, unit_length, ascii_alone}

-- ---- the shape of a character

-- a byte of a range is one of a wider range
wider : (lo hi low high x : ℕ) → leb low lo && leb hi high ≡ true → between lo hi x ≡ true → between low high x ≡ true
wider lo hi low high x w e =
    let l = both (leb low lo) (leb hi high) w in
    let g = both (leb lo x) (leb x hi) e in
    rw (le-leb low x (omega (arith, leb-true low lo l.0, leb-true lo x g.0))) (le-leb x high (omega (arith, leb-true hi high l.1, leb-true x hi g.1)))

-- what the ranges of first bytes ask for
wanted_one : (x : ℕ) → between 194 223 x ≡ true → wanted x ≡ 1
wanted_one x e = rw (wider 194 223 192 223 x refl e)

wanted_two : (x : ℕ) → between 224 239 x ≡ true → wanted x ≡ 2
wanted_two x e =
    let h = leb-true 224 x (both (leb 224 x) (leb x 239) e).0 in
    rw (le-leb 192 x (omega arith), lt-leb x 223 (omega arith), e)

wanted_three : (x : ℕ) → between 240 244 x ≡ true → wanted x ≡ 3
wanted_three x e =
    let h = leb-true 240 x (both (leb 240 x) (leb x 244) e).0 in
    rw (le-leb 192 x (omega arith), lt-leb x 223 (omega arith), le-leb 224 x (omega arith), lt-leb x 239 (omega arith), wider 240 244 240 247 x refl e)

-- each row of the grammar: a first byte of so many tails, a second that is a tail, and the rest
module _ (low high a b : ℕ) (rest : Bool) where
  abbrev Row : Type 0
  Row = (between low high a ≡ true) × ((tail b ≡ true) × (rest ≡ true))

  by_one : (n lo hi : ℕ) → between low high n && (leb 128 lo && leb hi 191) ≡ true → eqb a n && (between lo hi b && rest) ≡ true → Row
  by_one n lo hi w e =
      let v = both (between low high n) (leb 128 lo && leb hi 191) w in
      let g = both (eqb a n) (between lo hi b && rest) e in
      let h = both (between lo hi b) rest g.1 in
      (subst (λ (x : ℕ). between low high x ≡ true) (sym (eqb-true a n g.0)) v.0, (wider lo hi 128 191 b v.1 h.0, h.1))

  by_range : (lo hi : ℕ) → leb low lo && leb hi high ≡ true → between lo hi a && (tail b && rest) ≡ true → Row
  by_range lo hi w e =
      let g = both (between lo hi a) (tail b && rest) e in
      (wider lo hi low high a w g.0, both (tail b) rest g.1)

three_of : (a b c : ℕ) → utf8_three a b c ≡ true → Row 224 239 a b (tail c)
three_of a b c =
    either _ _ (by_one 224 239 a b (tail c) 224 160 191 refl)
    (either _ _ (by_range 224 239 a b (tail c) 225 236 refl)
    (either _ _ (by_one 224 239 a b (tail c) 237 128 159 refl) (by_range 224 239 a b (tail c) 238 239 refl)))

four_of : (a b c d : ℕ) → utf8_four a b c d ≡ true → Row 240 244 a b (tail c && tail d)
four_of a b c d =
    either _ _ (by_one 240 244 a b (tail c && tail d) 240 144 191 refl)
    (either _ _ (by_range 240 244 a b (tail c && tail d) 241 243 refl) (by_one 240 244 a b (tail c && tail d) 244 128 143 refl))

-- the first byte of a character asks for as many bytes as follow it, and these are tails
pub char_shape : (x : ℕ) (ts : List ℕ) → utf8_char (x ∷ ts) ≡ true → (wanted x ≡ length ts) × (run tail ts ≡ length ts)
unfolding run
char_shape x [] e = ((ascii_alone x e).1, refl)
char_shape x (b ∷ []) e = let g = both (between 194 223 x) (tail b) e in (wanted_one x g.0, rw g.1)
char_shape x (b ∷ c ∷ []) e = let g = three_of x b c e in (wanted_two x g.0, rw (g.1.0, g.1.1))
char_shape x (b ∷ c ∷ d ∷ []) e =
    let g = four_of x b c d e in
    let h = both (tail c) (tail d) g.1.1 in
    (wanted_three x g.0, rw (g.1.0, h.0, h.1))
char_shape x (b ∷ c ∷ d ∷ f ∷ ts) e = absurd (let z : ◌≡◌ {A = ℕ} 0 1 = cc in omega arith)

-- a character in front is the first unit, whatever follows
pub char_front_holds : (u : List ℕ) → utf8_char u ≡ true → (rest : List ℕ) → units (u ++ rest) ≡ u ∷ units rest
char_front_holds [] e rest = absurd (let z : ◌≡◌ {A = ℕ} 0 1 = cc in omega arith)
char_front_holds (x ∷ ts) e rest =
    let s = char_shape x ts e in
    let n : tails x (ts ++ rest) ≡ length ts = omega (arith, s.0, through tail ts rest s.1) in
    units_front x (ts ++ rest) ∙ rw (n, take-append_seam ts rest, drop-append_seam ts rest)

-- ---- the code's test at the front

-- as many bytes behind the first as are a character with it are its tails, and as many as it asks for
lead_full : (x : ℕ) (xs : List ℕ) (n : ℕ) → n ≤ wanted x → utf8_char (x ∷ take n xs) ≡ true → (n ≡ wanted x) × (n ≡ tails x xs)
lead_full x xs n h e =
    let s = char_shape x (take n xs) e in
    let t : run tail xs ≡ length (take n xs) + run tail (drop n xs) = rw take-append-drop at (through tail (take n xs) (drop n xs) s.1) in
    let l = length-take n xs in
    (omega (arith, s.0), omega (arith, s.0))

-- the bytes that the first asks for are a character just if the first unit is one
pub by_lead : (x : ℕ) (xs : List ℕ) → pick (utf8_char (x ∷ take (tails x xs) xs)) (Some (suc (tails x xs))) None ≡ char_at (x ∷ xs)
by_lead x xs = go (utf8_char (x ∷ take (tails x xs) xs)) refl (utf8_char (char_front (x ∷ xs))) refl
  where
    go : (t : Bool) → utf8_char (x ∷ take (tails x xs) xs) ≡ t → (u : Bool) → utf8_char (char_front (x ∷ xs)) ≡ u
        → pick t (Some (suc (tails x xs))) None ≡ pick u (Some (length (char_front (x ∷ xs)))) None
    go true e true f = ap (λ (n : ℕ). Some n) (sym (unit_length x xs)) ∙ rw (lead_full x xs (tails x xs) (omega arith) e).0
    go true e false f = absurd (let n = (lead_full x xs (tails x xs) (omega arith) e).0 in let z : ◌≡◌ {A = ℕ} 0 1 = cc in omega arith)
    go false e true f = absurd (let n = (lead_full x xs (wanted x) (omega arith) f).1 in let z : ◌≡◌ {A = ℕ} 0 1 = cc in omega arith)
    go false e false f = refl

-- ---- one unit at a time

-- one unit: a text goes on behind it if it is a character, and ends before it if not
run_front : (x : ℕ) (xs : List ℕ) → utf8_run (x ∷ xs) ≡ pick (utf8_char (x ∷ take (tails x xs) xs)) (suc (tails x xs) + utf8_run (drop (tails x xs) xs)) 0
unfolding sound_len
run_front x xs = rw (units_front x xs, unit_length x xs)

-- no character at the front: the run ends there
pub run_end : (xs : List ℕ) → char_at xs ≡ None → utf8_run xs ≡ 0
unfolding sound_len
run_end [] h = rw units_none
run_end (x ∷ xs) h = run_front x xs ∙ go (utf8_char (x ∷ take (tails x xs) xs)) (by_lead x xs)
  where
    go : (t : Bool) → pick t (Some (suc (tails x xs))) None ≡ char_at (x ∷ xs) → pick t (suc (tails x xs) + utf8_run (drop (tails x xs) xs)) 0 ≡ 0
    go true e = cc
    go false e = refl

-- a character at the front: it has a byte at least and ends within the bytes, and the run goes on behind it
pub run_more : (xs : List ℕ) (n : ℕ) → Some n ≡ char_at xs → (0 < n) × (n ≤ length xs) × (utf8_run xs ≡ n + utf8_run (drop n xs))
run_more [] n h = let z : ◌≡◌ {A = Option ℕ} (Some n) None = h in cc
run_more (x ∷ xs) n h = go (utf8_char (x ∷ take (tails x xs) xs)) (by_lead x xs) (run_front x xs)
  where
    go : (t : Bool) → pick t (Some (suc (tails x xs))) None ≡ char_at (x ∷ xs)
        → utf8_run (x ∷ xs) ≡ pick t (suc (tails x xs) + utf8_run (drop (tails x xs) xs)) 0
        → (0 < n) × (n ≤ suc (length xs)) × (utf8_run (x ∷ xs) ≡ n + utf8_run (drop n (x ∷ xs)))
    go true e r = let z : n ≡ suc (tails x xs) = cc in (omega arith, omega (arith, within tail xs), r ∙ rw z)
    go false e r = let z : ◌≡◌ {A = Option ℕ} (Some n) None = cc in cc

-- ---- a whole text

-- tests of numbers that are as far apart
same_test : (a b c d : ℕ) → a + d ≡ c + b → leb a b ≡ leb c d
same_test a b c d h = go (leb c d) refl
  where
    go : (t : Bool) → leb c d ≡ t → leb a b ≡ t
    go true e = le-leb a b (omega (arith, leb-true c d e))
    go false e = lt-leb a b (omega (arith, leb-false c d e))

-- every unit is a character
unfoldable sound : List (List ℕ) → Bool
sound [] = true
sound (u ∷ us) = utf8_char u && sound us

by_sound : (xs : List ℕ) → is_utf8 xs ≡ sound (units xs)
unfolding sound_len sound
by_sound =
    by_units (λ (xs : List ℕ). is_utf8 xs ≡ sound (units xs)) (rw units_none refl)
    (λ x xs rest. ap (leb (suc (length xs))) (run_front x xs) ∙ (go x xs (utf8_char (x ∷ take (tails x xs) xs)) ∙ sym (rw (units_front x xs, rest))))
  where
    go : (x : ℕ) (xs : List ℕ) (t : Bool) → leb (suc (length xs)) (pick t (suc (tails x xs) + utf8_run (drop (tails x xs) xs)) 0) ≡ t && is_utf8 (drop (tails x xs) xs)
    go x xs true =
        let rest = drop (tails x xs) xs in
        let h : suc (length xs) + utf8_run rest ≡ length rest + (suc (tails x xs) + utf8_run rest) = omega (arith, length-drop (tails x xs) xs, within tail xs) in
        same_test (suc (length xs)) (suc (tails x xs) + utf8_run rest) (length rest) (utf8_run rest) h
    go x xs false = leb-suc-zero (length xs)

taken : (xs : List ℕ) → sound (units xs) ≡ true → Utf8 xs
unfolding sound
taken = by_units (λ (xs : List ℕ). sound (units xs) ≡ true → Utf8 xs) (λ e. no_octet) more
  where
    more : (x : ℕ) (xs : List ℕ) → (sound (units (drop (tails x xs) xs)) ≡ true → Utf8 (drop (tails x xs) xs)) → sound (units (x ∷ xs)) ≡ true → Utf8 (x ∷ xs)
    more x xs rest e =
        let u = x ∷ take (tails x xs) xs in
        let g = both (utf8_char u) (sound (units (drop (tails x xs) xs))) (rw units_front at e) in
        subst Utf8 (ap (λ (ys : List ℕ). x ∷ ys) (take-append-drop (tails x xs) xs)) (a_char u g.0 (rest g.1))

told : {xs : List ℕ} → Utf8 xs → sound (units xs) ≡ true
unfolding sound
told no_octet = rw units_none refl
told (a_char u {rest} e g) = rw (char_front_holds u e rest, e) (told g)

-- the characters reach to the end of the text just if the grammar takes it
pub utf8_exactly : (xs : List ℕ) → (is_utf8 xs ≡ true) ↔ Utf8 xs
utf8_exactly xs = (λ e. taken xs (sym (by_sound xs) ∙ e), λ g. by_sound xs ∙ told g)

-- the run of characters stays in the text
pub utf8_run_most : (xs : List ℕ) → utf8_run xs ≤ length xs
unfolding sound_len
utf8_run_most =
    by_units (λ (xs : List ℕ). utf8_run xs ≤ length xs) (rw units_none (omega arith))
    (λ x xs rest. rw (run_front x xs) (go x xs (utf8_char (x ∷ take (tails x xs) xs)) rest))
  where
    go : (x : ℕ) (xs : List ℕ) (t : Bool) → utf8_run (drop (tails x xs) xs) ≤ length (drop (tails x xs) xs)
        → pick t (suc (tails x xs) + utf8_run (drop (tails x xs) xs)) 0 ≤ suc (length xs)
    go x xs true h = omega (arith, length-drop (tails x xs) xs, within tail xs)
    go x xs false h = omega arith

-- ---- the place where the characters end

module _ (x : ℕ) (xs : List ℕ) where
  behind : (n : ℕ) → (take (suc (tails x xs) + n) (x ∷ xs) ≡ (x ∷ take (tails x xs) xs) ++ take n (drop (tails x xs) xs))
      × (drop (suc (tails x xs) + n) (x ∷ xs) ≡ drop n (drop (tails x xs) xs))
  behind n =
      let s : suc (tails x xs) + n ≡ suc (tails x xs + n) = omega arith in
      (rw s (ap (λ (ys : List ℕ). x ∷ ys) (take-add (tails x xs) n xs)), rw s (sym (drop-drop n (tails x xs) xs)))

run_taken : (xs : List ℕ) → Utf8 (take (utf8_run xs) xs)
unfolding sound_len
run_taken =
    by_units (λ (xs : List ℕ). Utf8 (take (utf8_run xs) xs)) (rw units_none no_octet)
    (λ x xs rest. rw (run_front x xs) (go x xs (utf8_char (x ∷ take (tails x xs) xs)) refl rest))
  where
    go : (x : ℕ) (xs : List ℕ) (t : Bool) → utf8_char (x ∷ take (tails x xs) xs) ≡ t
        → Utf8 (take (utf8_run (drop (tails x xs) xs)) (drop (tails x xs) xs))
        → Utf8 (take (pick t (suc (tails x xs) + utf8_run (drop (tails x xs) xs)) 0) (x ∷ xs))
    go x xs true e rest = rw (behind x xs (utf8_run (drop (tails x xs) xs))).0 (a_char (x ∷ take (tails x xs) xs) e rest)
    go x xs false e rest = no_octet

run_ended : (xs : List ℕ) → utf8_run (drop (utf8_run xs) xs) ≡ 0
unfolding sound_len
run_ended =
    by_units (λ (xs : List ℕ). utf8_run (drop (utf8_run xs) xs) ≡ 0) (rw (units_none, units_none))
    (λ x xs rest. ap (λ (n : ℕ). utf8_run (drop n (x ∷ xs))) (run_front x xs) ∙ go x xs (utf8_char (x ∷ take (tails x xs) xs)) refl rest)
  where
    go : (x : ℕ) (xs : List ℕ) (t : Bool) → utf8_char (x ∷ take (tails x xs) xs) ≡ t
        → utf8_run (drop (utf8_run (drop (tails x xs) xs)) (drop (tails x xs) xs)) ≡ 0
        → utf8_run (drop (pick t (suc (tails x xs) + utf8_run (drop (tails x xs) xs)) 0) (x ∷ xs)) ≡ 0
    go x xs true e rest = ap utf8_run (behind x xs (utf8_run (drop (tails x xs) xs))).1 ∙ rest
    go x xs false e rest = run_front x xs ∙ rw e

-- a character in front is passed, and it has a byte at least
char_passed : (u rest : List ℕ) → utf8_char u ≡ true → (0 < length u) × (utf8_run (u ++ rest) ≡ length u + utf8_run rest)
unfolding sound_len
char_passed [] rest e = absurd (let z : ◌≡◌ {A = ℕ} 0 1 = cc in omega arith)
char_passed (x ∷ ts) rest e = (omega arith, rw (char_front_holds (x ∷ ts) e rest, e))

-- up to the place there are characters, and at the place none begins
pub ill_formed_there : (xs : List ℕ) → utf8_run xs < length xs → IllFormedAt xs (utf8_run xs)
ill_formed_there xs h = record {
  inside = h;
  before = run_taken xs;
  none = λ u rest e d. let p = char_passed u rest e in omega (arith, p.0, p.1, run_ended xs, ap utf8_run d);
}

-- and there is no other such place
passed_before : {xs : List ℕ} → Utf8 xs → (more : List ℕ) → utf8_run (xs ++ more) ≡ length xs + utf8_run more
passed_before no_octet more = omega arith
passed_before (a_char u {rest} e g) more =
    ap utf8_run (append_assoc u rest more) ∙ ((char_passed u (rest ++ more) e).1 ∙ omega (arith, passed_before g more, length-append u rest))

none_there : (xs : List ℕ) → ((u rest : List ℕ) → utf8_char u ≡ true → xs ≡ u ++ rest → ⊥) → utf8_run xs ≡ 0
none_there xs none = run_end xs (go (utf8_char (char_front xs)) refl)
  where
    go : (t : Bool) → utf8_char (char_front xs) ≡ t → pick t (Some (length (char_front xs))) None ≡ None
    go true e = absurd (none (char_front xs) (drop (suc (wanted (get_or xs 0 0))) xs) e (sym (take-append-drop (suc (wanted (get_or xs 0 0))) xs)))
    go false e = refl

pub ill_formed_once : (xs : List ℕ) (place : ℕ) → IllFormedAt xs place → place ≡ utf8_run xs
ill_formed_once xs place i =
    let e = passed_before i.before (drop place xs) in
    omega (arith, ap utf8_run (take-append-drop place xs), e, none_there (drop place xs) i.none, length-take place xs, i.inside)

-- ---- texts put together

sound_append : (us vs : List (List ℕ)) → sound (us ++ vs) ≡ sound us && sound vs
unfolding sound
sound_append [] vs = refl
sound_append (u ∷ us) vs = ap (λ (t : Bool). utf8_char u && t) (sound_append us vs) ∙ sym (and_assoc (utf8_char u) (sound us) (sound vs))

-- where no unit reaches from one text into the next, both are sound just if the whole is
pub utf8_append : (xs ys : List ℕ) → units (xs ++ ys) ≡ units xs ++ units ys → is_utf8 (xs ++ ys) ≡ is_utf8 xs && is_utf8 ys
utf8_append xs ys h = by_sound (xs ++ ys) ∙ (ap sound h ∙ (sound_append (units xs) (units ys) ∙ sym (rw (by_sound xs, by_sound ys))))

sound_all : (us : List (List ℕ)) → sound us ≡ true → All (λ (u : List ℕ). utf8_char u ≡ true) us
unfolding sound All
sound_all [] e = tt
sound_all (u ∷ us) e = let g = both (utf8_char u) (sound us) e in (g.0, sound_all us g.1)

-- each unit of a sound text is a character
pub utf8_units : (xs : List ℕ) → is_utf8 xs ≡ true → All (λ (u : List ℕ). utf8_char u ≡ true) (units xs)
utf8_units xs e = sound_all (units xs) (sym (by_sound xs) ∙ e)

-- ---- ASCII

ascii_taken : (xs : List ℕ) → run ascii xs ≡ length xs → Utf8 xs
ascii_taken [] h = no_octet
ascii_taken (x ∷ xs) h = a_char (x ∷ []) (whole_head ascii x xs h) (ascii_taken xs (whole_tail ascii x xs h))

-- a text of ASCII is one of UTF-8
pub ascii_utf8 : (xs : List ℕ) → only ascii xs ≡ true → is_utf8 xs ≡ true
ascii_utf8 xs e = (utf8_exactly xs).1 (ascii_taken xs (all_of ascii xs e))

-- and has each byte by itself
pub ascii_units : (xs : List ℕ) → only ascii xs ≡ true → units xs ≡ map (λ (x : ℕ). x ∷ []) xs
ascii_units xs e = go xs (all_of ascii xs e)
  where
    go : (xs : List ℕ) → run ascii xs ≡ length xs → units xs ≡ map (λ (x : ℕ). x ∷ []) xs
    go [] h = units_none
    go (x ∷ xs) h = char_front_holds (x ∷ []) (whole_head ascii x xs h) xs ∙ ap (λ (us : List (List ℕ)). (x ∷ []) ∷ us) (go xs (whole_tail ascii x xs h))
