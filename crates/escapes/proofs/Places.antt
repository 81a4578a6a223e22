-- What a loop through a value knows: the byte of the text at the front of what is left, and the bytes before. Assumes nothing.
use mathlib.Core.Path.{◌≡◌, refl, sym, ap, ◌∙◌}
use mathlib.Core.Bool.{Bool, true, false}
use mathlib.Core.List.{List, [], ◌∷◌}
use Prim.Native.Nat.{ℕ, ◌+◌, ◌-◌, ◌≤◌, ◌<◌}
use native.Mathlib.Nat.{zero-add}
use native.Mathlib.Numerals.{add-one}
use native.Mathlib.Omega.{arith}
use lib.ListN.{length, set, get_or, take, drop, length-append, length-drop, length-set, get_or-eq_default}
use lib.Seq.{length-take-le, sets, sets-eq}
use lib.Dec.{leb}
use borrow.Author.Tests.{ne_eqb, leb-true, leb-false, le-leb, lt-leb}
use Rattle.std.specs.Prelude.{Result, Ok, Err}
use Rattle.octets.specs.Choice.{pick}
use Rattle.octets.specs.Bytes.{other}
use Rattle.octets.specs.Laid.{laid}
use Rattle.octets.specs.Runs.{run}
use Rattle.octets.proofs.Laid.{whole}
use Rattle.octets.proofs.Runs.{within}
use Rattle.escapes.specs.Text.{backslash, escapable, meant, fine, escapes_fine, text_of}
use Rattle.escapes.specs.Turns.{scanned, Unit}
use Rattle.escapes.specs.declared.Mode.{Mode}
use Rattle.escapes.proofs.Reading.{fine_plain, fine_escape, fine_bad, fine_run, text_plain, text_escape, text_last, text_run, text_length}

-- nothing behind the end is escapable
pub none_behind : (mode : Mode) (value : List ℕ) (n : ℕ) → length value ≤ n → escapable mode (get_or value n 0) ≡ false
none_behind Mode.Strict value n h = rw (get_or-eq_default value 0 {n = n} h)
none_behind Mode.Repository value n h = rw (get_or-eq_default value 0 {n = n} h)

pub one_behind : (mode : Mode) (value : List ℕ) (n : ℕ) → escapable mode (get_or value n 0) ≡ true → n < length value
one_behind mode value n e = go (leb (length value) n) refl
  where
    go : (t : Bool) → leb (length value) n ≡ t → n < length value
    go true f = absurd (let g = none_behind mode value n (leb-true (length value) n f) in let z : ◌≡◌ {A = ℕ} 0 1 = cc in omega arith)
    go false f = leb-false (length value) n f

-- ---- the byte of the text at the front of a value, and the rest of the value

pub unit_none : (mode : Mode) (value : List ℕ) → length value ≡ 0 → fine mode value ≡ 0
unfolding fine
unit_none mode [] h = refl
unit_none mode (x ∷ xs) h = absurd (omega arith)

module _ (mode : Mode) {value rest : List ℕ} {x : ℕ} (e : value ≡ x ∷ rest) where
  -- a byte that is no backslash stands for itself
  pub unit_plain : (x ≡ backslash → ⊥) → Unit mode value x rest
  unit_plain n =
      let p = ne_eqb x backslash n in
      rw e (record { shorter = omega arith; onward = omega (arith, fine_plain mode x rest p); text = text_plain x rest p })

  module _ (b : x ≡ backslash) where
    -- a backslash at the end
    pub unit_last : length rest ≡ 0 → fine mode value ≡ 0
    unit_last h = rw (e, b) (fine_bad mode rest (none_behind mode rest 0 (omega arith)))

    module _ {more : List ℕ} {y : ℕ} (f : rest ≡ y ∷ more) where
      -- one that begins no escape
      pub unit_bad : escapable mode y ≡ false → fine mode value ≡ 0
      unit_bad g = rw (e, b) (fine_bad mode rest (rw f g))

      -- an escape
      pub unit_escape : escapable mode y ≡ true → {byte : ℕ} → byte ≡ meant y → Unit mode value byte more
      unit_escape g p =
          rw (e, b, f, p)
          (record {
            shorter = omega arith;
            onward = omega (arith, fine_escape mode (y ∷ more) g (omega arith));
            text = text_escape (y ∷ more) (omega arith);
          })

-- ---- looking through a value: what is left of it, and the bytes of the text before

pub record Looked (mode : Mode) (value rest : List ℕ) (n : ℕ) : Type 0 where
  pub inside : length rest ≤ length value
  pub left : fine mode value + length rest ≡ length value + fine mode rest
  pub count : n + length (text_of rest) ≡ length (text_of value)

-- as far as the first backslash
pub looked_first : (mode : Mode) (value : List ℕ) (n : ℕ) → n ≤ run (other backslash) value → Looked mode value (drop n value) n
looked_first mode value n h =
    let w = within (other backslash) value in
    record {
      inside = omega (arith, length-drop n value);
      left = omega (arith, fine_run mode n value h, length-drop n value);
      count = omega (arith, ap length (text_run n value h), length-append (take n value) (text_of (drop n value)), length-take-le n value (omega arith));
    }

module _ {mode : Mode} {value rest : List ℕ} {n : ℕ} (l : Looked mode value rest n) where
  -- a text has no more bytes than its value
  pub looked_few : n ≤ length value
  looked_few = omega (arith, l.count, text_length value)

  pub looked_more : {b : ℕ} {more : List ℕ} → Unit mode rest b more → Looked mode value more (n + 1)
  looked_more u = record {
    inside = omega (arith, u.shorter, l.inside);
    left = omega (arith, l.left, u.onward);
    count = omega (arith, l.count, ap length u.text);
  }

  -- at the end, or at a backslash that begins no escape
  pub looked_all : length rest ≡ 0 → Ok n ≡ scanned mode value
  looked_all h =
      let none : length (text_of rest) ≡ 0 = omega (arith, text_length rest) in
      let all : n ≡ length (text_of value) = omega (arith, l.count) in
      let k : length value ≤ fine mode value = omega (arith, l.left) in
      rw (le-leb (length value) (fine mode value) k) (ap (λ (m : ℕ). Ok m) all)

  pub looked_bad : (length rest ≡ 0 → ⊥) → fine mode rest ≡ 0 → Err (length value - length rest) ≡ scanned mode value
  looked_bad h e =
      let here : length value - length rest ≡ fine mode value = omega (arith, l.left, l.inside) in
      rw (lt-leb (length value) (fine mode value) (omega (arith, l.left)), here) refl

-- what a look finds of a value that is fine
pub scanned_fine : (mode : Mode) (value : List ℕ) (n : ℕ) → Ok n ≡ scanned mode value → (escapes_fine mode value ≡ true) × (n ≡ length (text_of value))
scanned_fine mode value n e = go (escapes_fine mode value) refl e
  where
    go : (t : Bool) → escapes_fine mode value ≡ t → ◌≡◌ {A = Result ℕ ℕ} (Ok n) (pick t (Ok (length (text_of value))) (Err (fine mode value)))
        → (escapes_fine mode value ≡ true) × (n ≡ length (text_of value))
    go true t e = (t, cc)
    go false t e = cc

-- bytes that fit, stored one after the other
all_set : (xs old : List ℕ) → length xs ≤ length old → sets old 0 xs ≡ laid xs old
all_set xs old h = sets-eq xs old 0 (omega arith) ∙ (rw (zero-add (length xs)) (sym (whole xs old h)))

-- ---- storing the text: the next byte of it goes to `at`, and comes from what is left of the value

pub record Storing (mode : Mode) (old value out rest : List ℕ) (at : ℕ) : Type 0 where
  pub sound : length rest ≤ fine mode rest
  pub count : at + length (text_of rest) ≡ length (text_of value)
  pub on : sets out at (text_of rest) ≡ sets old 0 (text_of value)
  pub same : length out ≡ length old

pub storing_start : (mode : Mode) (old value : List ℕ) → escapes_fine mode value ≡ true → Storing mode old value old value 0
storing_start mode old value e = record { sound = leb-true (length value) (fine mode value) e; count = omega arith; on = refl; same = refl }

module _ {mode : Mode} {old value out rest : List ℕ} {at : ℕ} (s : Storing mode old value out rest at) where
  module _ {b : ℕ} {more : List ℕ} (u : Unit mode rest b more) where
    pub storing_more : Storing mode old value (set out at b) more (at + 1)
    storing_more = record {
      sound = omega (arith, s.sound, u.onward);
      count = omega (arith, s.count, ap length u.text);
      on = rw add-one (rw u.text at s.on);
      same = length-set out at b ∙ s.same;
    }

    -- there is room while a byte is left
    pub storing_room : length (text_of value) ≤ length old → at < length out
    storing_room h = omega (arith, s.count, s.same, ap length u.text)

  -- at the end
  pub storing_all : length (text_of value) ≤ length old → fine mode rest ≡ 0 → out ≡ laid (text_of value) old
  storing_all h e =
      let n : length rest ≡ 0 = omega (arith, s.sound) in
      let none : text_of rest ≡ [] = text_last rest (omega arith) ∙ empty rest n in
      (rw none at s.on) ∙ all_set (text_of value) old h
    where
      empty : (xs : List ℕ) → length xs ≡ 0 → xs ≡ []
      empty [] h = refl
      empty (x ∷ xs) h = absurd (omega arith)
