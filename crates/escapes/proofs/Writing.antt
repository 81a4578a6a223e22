-- Laws of writing text: a byte, a run of safe bytes, parts one after the other, how long a value is, a loop that lays a value, and each answer.
-- Assumes nothing.
use mathlib.Core.Path.{◌≡◌, refl, sym, ap, ◌∙◌}
use mathlib.Core.Bool.{Bool, true, false, not, ◌||◌}
use mathlib.Core.List.{List, [], ◌∷◌, ◌++◌, append_assoc}
use Prim.Native.Nat.{ℕ, suc, ◌+◌, ◌-◌, ◌*◌, ◌≤◌, ◌<◌, min, zero-le}
use native.Mathlib.Nat.{not-suc-le-zero, le_of_suc-le-suc}
use native.Mathlib.Numerals.{add-one}
use native.Mathlib.Omega.{arith}
use Rattle.std.specs.Int.{from_bool}
use lib.ListN.{length, get_or, set, take, drop, length-append, take-append-drop}
use lib.Seq.{drop-cons}
use lib.Dec.{eqb, ltb}
use borrow.Author.Tests.{ltb-true, ltb-false, lt-ltb, le-ltb}
use Rattle.octets.specs.Choice.{pick}
use Rattle.octets.specs.Bytes.{lf, comma, semicolon, other}
use Rattle.octets.specs.Runs.{run}
use Rattle.octets.specs.Laid.{laid, laid_from}
use Rattle.octets.proofs.Laid.{nothing}
use Rattle.octets.proofs.Writing.{one_laid, from_then, length_from, lent_back}
use Rattle.escapes.specs.Text.{backslash, safe, letter, spelt, as_value}
use Rattle.escapes.specs.Turns.{Written}

-- ---- the value of a text, byte by byte and part by part

pub value_safe : (x : ℕ) (xs : List ℕ) → safe x ≡ true → as_value (x ∷ xs) ≡ x ∷ as_value xs
unfolding as_value
value_safe x xs e = ap (λ (t : Bool). pick t (x ∷ []) (backslash ∷ letter x ∷ []) ++ as_value xs) e

pub value_unsafe : (x : ℕ) (xs : List ℕ) → safe x ≡ false → as_value (x ∷ xs) ≡ backslash ∷ letter x ∷ as_value xs
unfolding as_value
value_unsafe x xs e = ap (λ (t : Bool). pick t (x ∷ []) (backslash ∷ letter x ∷ []) ++ as_value xs) e

value_append : (xs ys : List ℕ) → as_value (xs ++ ys) ≡ as_value xs ++ as_value ys
unfolding as_value
value_append [] ys = refl
value_append (x ∷ xs) ys = ap (◌++◌ (spelt x)) (value_append xs ys) ∙ sym (append_assoc (spelt x) (as_value xs) (as_value ys))

-- a byte is written as two at most
pub value_length : (xs : List ℕ) → length (as_value xs) ≤ 2 * length xs
unfolding as_value
value_length [] = zero-le
value_length (x ∷ xs) = go (safe x) (value_length xs)
  where
    go : (t : Bool) → length (as_value xs) ≤ 2 * length xs → length (pick t (x ∷ []) (backslash ∷ letter x ∷ []) ++ as_value xs) ≤ 2 * suc (length xs)
    go true h = omega arith
    go false h = omega arith

-- safe bytes are written as they are
value_run : (xs : List ℕ) → length xs ≤ run safe xs → as_value xs ≡ xs
unfolding run as_value
value_run [] h = refl
value_run (x ∷ xs) h = go (safe x) refl h (value_run xs)
  where
    go : (t : Bool) → safe x ≡ t → suc (length xs) ≤ pick t (suc (run safe xs)) 0 → (length xs ≤ run safe xs → as_value xs ≡ xs) → as_value (x ∷ xs) ≡ x ∷ xs
    go true e h rest = value_safe x xs e ∙ ap (◌∷◌ x) (rest (le_of_suc-le-suc h))
    go false e h rest = absurd (not-suc-le-zero h)

-- a part in front, or a byte
pub value_part : {text : List ℕ} (part rest : List ℕ) → text ≡ part ++ rest → as_value text ≡ as_value part ++ as_value rest
value_part part rest e = ap as_value e ∙ value_append part rest

pub part_length : {text : List ℕ} (part rest : List ℕ) → text ≡ part ++ rest → length (as_value text) ≡ length (as_value part) + length (as_value rest)
part_length part rest e = ap length (value_part part rest e) ∙ length-append (as_value part) (as_value rest)

module _ (text : List ℕ) (i : ℕ) (h : i < length text) where
  value_at : as_value (drop i text) ≡ spelt (get_or text i 0) ++ as_value (drop (i + 1) text)
  unfolding as_value
  value_at = ap as_value (drop-cons text i 0 h) ∙ rw add-one

  -- a byte is one more, or two by the test for a backslash
  pub count_at : (t : Bool) → safe (get_or text i 0) ≡ not t
      → (from_bool t ≤ 1) × (length (as_value (drop i text)) ≡ 1 + from_bool t + length (as_value (drop (i + 1) text)))
  count_at = go
    where
      by : (t : Bool) → safe (get_or text i 0) ≡ t
          → length (as_value (drop i text)) ≡ length (pick t (get_or text i 0 ∷ []) (backslash ∷ letter (get_or text i 0) ∷ []) ++ as_value (drop (i + 1) text))
      by t e = ap length value_at ∙ rw e

      go : (t : Bool) → safe (get_or text i 0) ≡ not t → (from_bool t ≤ 1) × (length (as_value (drop i text)) ≡ 1 + from_bool t + length (as_value (drop (i + 1) text)))
      go true e = (omega arith, omega (arith, by false e))
      go false e = (omega arith, omega (arith, by true e))

pub value_none : (text : List ℕ) → length text ≡ 0 → as_value text ≡ []
unfolding as_value
value_none [] h = refl
value_none (x ∷ xs) h = absurd (omega arith)

-- ---- whether one of the first bytes wants a backslash: a run of bytes that pass neither test ends where one of the two runs ends

run_neither : (p q : ℕ → Bool) (xs : List ℕ) → run (λ (x : ℕ). not (p x || q x)) xs ≡ min (run (λ (x : ℕ). not (p x)) xs) (run (λ (x : ℕ). not (q x)) xs)
unfolding run
run_neither p q [] = omega arith
run_neither p q (x ∷ xs) = go (p x) (q x) (run_neither p q xs)
  where
    go : (t u : Bool) → run (λ (x : ℕ). not (p x || q x)) xs ≡ min (run (λ (x : ℕ). not (p x)) xs) (run (λ (x : ℕ). not (q x)) xs)
        → pick (not (t || u)) (suc (run (λ (x : ℕ). not (p x || q x)) xs)) 0
        ≡ min (pick (not t) (suc (run (λ (x : ℕ). not (p x)) xs)) 0) (pick (not u) (suc (run (λ (x : ℕ). not (q x)) xs)) 0)
    go true u e = omega arith
    go false true e = omega arith
    go false false e = omega (arith, e)

ends_either : (p q : ℕ → Bool) (xs : List ℕ) (n : ℕ) {t u : Bool} → t ≡ ltb (run (λ (x : ℕ). not (p x)) xs) n → u ≡ ltb (run (λ (x : ℕ). not (q x)) xs) n
    → t || u ≡ ltb (run (λ (x : ℕ). not (p x || q x)) xs) n
ends_either p q xs n {t} {u} e f = go (run (λ (x : ℕ). not (p x)) xs) (run (λ (x : ℕ). not (q x)) xs) (run_neither p q xs) t e u f
  where
    go : (a b : ℕ) {c : ℕ} → c ≡ min a b → (t : Bool) → t ≡ ltb a n → (u : Bool) → u ≡ ltb b n → t || u ≡ ltb c n
    go a b {c} m true e u f = sym (lt-ltb c n (omega (arith, m, ltb-true a n (sym e))))
    go a b {c} m false e true f = sym (lt-ltb c n (omega (arith, m, ltb-true b n (sym f))))
    go a b {c} m false e false f = sym (le-ltb c n (omega (arith, m, ltb-false a n (sym e), ltb-false b n (sym f))))

-- the four tests for a backslash
pub any_unsafe : (xs : List ℕ) (n : ℕ) {a b c d : Bool} → a ≡ ltb (run (other backslash) xs) n → b ≡ ltb (run (other semicolon) xs) n
    → c ≡ ltb (run (other comma) xs) n → d ≡ ltb (run (other lf) xs) n → a || (b || (c || d)) ≡ ltb (run safe xs) n
any_unsafe xs n e f g h =
    ends_either (λ (x : ℕ). eqb x backslash) (λ (x : ℕ). eqb x semicolon || (eqb x comma || eqb x lf)) xs n e
    (ends_either (λ (x : ℕ). eqb x semicolon) (λ (x : ℕ). eqb x comma || eqb x lf) xs n f (ends_either (λ (x : ℕ). eqb x comma) (λ (x : ℕ). eqb x lf) xs n g h))

-- as many bytes as go before the first that wants one are laid as they are
pub all_safe : (text old : List ℕ) (n : ℕ) → length text ≤ n → ltb (run safe text) n ≡ false → {new : List ℕ} → new ≡ laid text old → Written text old new (length text)
all_safe text old n h e p =
    let same = value_run text (omega (arith, ltb-false (run safe text) n e)) in
    record { count = sym (ap length same); is = p ∙ ap (λ (xs : List ℕ). laid xs old) (sym same) }

-- ---- at work on a text in a buffer that has room: what is laid, and what is left of it to come

pub record Spelling (old out text rest : List ℕ) (at : ℕ) : Type 0 where
  pub room : length (as_value text) ≤ length old
  pub same : length out ≡ length old
  pub count : at + length (as_value rest) ≡ length (as_value text)
  pub lies : laid_from at (as_value rest) out ≡ laid (as_value text) old

pub begin : (old text : List ℕ) → length (as_value text) ≤ length old → Spelling old old text text 0
begin old text h = record { room = h; same = refl; count = omega arith; lies = refl }

module _ {old out text rest : List ℕ} {at : ℕ} (f : Spelling old out text rest at) where
  -- nothing is to come
  pub finish : length rest ≡ 0 → Written text old out at
  finish h =
      let none : as_value rest ≡ [] = value_none rest h in
      record {
        count = omega (arith, f.count, ap length none);
        is = sym (rw (nothing (drop at out)) (take-append-drop at out)) ∙ (sym (ap (λ (xs : List ℕ). laid_from at xs out) none) ∙ f.lies);
      }

  -- xs is laid, the next part
  module _ (xs more : List ℕ) (e : as_value rest ≡ xs ++ as_value more) where
    fits : at + length xs ≤ length out
    fits = omega (arith, f.room, f.same, f.count, ap length e, length-append xs (as_value more))

    step : {next : List ℕ} → next ≡ laid_from at xs out → Spelling old next text more (at + length xs)
    step p = record {
      room = f.room;
      same = rw p (length_from at xs out ∙ f.same);
      count = omega (arith, f.count, ap length e, length-append xs (as_value more));
      lies = rw p (from_then at xs (as_value more) out ∙ (sym (ap (λ (ys : List ℕ). laid_from at ys out) e) ∙ f.lies));
    }

  -- a part is laid, over what is lent from `at` on
  module _ (part more : List ℕ) (e : rest ≡ part ++ more) where
    pub lent_room : at + length (as_value part) ≤ length out
    lent_room = fits (as_value part) more (value_part part more e)

    pub turn_part : {ys : List ℕ} {n : ℕ} → Written part (take (length out - at) (drop at out)) ys n
        → Spelling old (take at out ++ (ys ++ drop (length out - at) (drop at out))) text more (at + n)
    turn_part w = rw w.count (step (as_value part) more (value_part part more e) (lent_back at (as_value part) out w.is))

-- the byte at i: as it is, or with a backslash
module _ {old out text : List ℕ} {i at : ℕ} (f : Spelling old out text (drop i text) at) (h : i < length text) where
  module _ (e : safe (get_or text i 0) ≡ true) where
    as_it_is : as_value (drop i text) ≡ (get_or text i 0 ∷ []) ++ as_value (drop (i + 1) text)
    as_it_is = value_at text i h ∙ rw e

    pub room_byte : at < length out
    room_byte = omega (arith, fits f (get_or text i 0 ∷ []) (drop (i + 1) text) as_it_is)

    pub turn_byte : Spelling old (set out at (get_or text i 0)) text (drop (i + 1) text) (at + 1)
    turn_byte = step f (get_or text i 0 ∷ []) (drop (i + 1) text) as_it_is (one_laid at (get_or text i 0) out room_byte)

  module _ (e : safe (get_or text i 0) ≡ false) where
    escaped : as_value (drop i text) ≡ (backslash ∷ letter (get_or text i 0) ∷ []) ++ as_value (drop (i + 1) text)
    escaped = value_at text i h ∙ rw e

    pub room_escape : at + 2 ≤ length out
    room_escape = fits f (backslash ∷ letter (get_or text i 0) ∷ []) (drop (i + 1) text) escaped

    pub turn_escape : {b : ℕ} → b ≡ letter (get_or text i 0) → Spelling old (set (set out at backslash) (at + 1) b) text (drop (i + 1) text) (at + 2)
    turn_escape {b} p = step f (backslash ∷ letter (get_or text i 0) ∷ []) (drop (i + 1) text) escaped (rw p both)
      where
        both : set (set out at backslash) (at + 1) (letter (get_or text i 0)) ≡ laid_from at (backslash ∷ letter (get_or text i 0) ∷ []) out
        both =
            rw (one_laid at backslash out (omega (arith, room_escape)))
            (one_laid (at + 1) (letter (get_or text i 0)) (laid_from at (backslash ∷ []) out) (rw length_from (omega (arith, room_escape)))
            ∙ from_then at (backslash ∷ []) (letter (get_or text i 0) ∷ []) out)
