-- Laws of the last start within so many bytes, and of the loop that looks back for it. Assumes nothing.
use mathlib.Core.Path.{◌≡◌, refl, sym, ap, ◌∙◌}
use mathlib.Core.Bool.{Bool, true, false}
use mathlib.Core.List.{List, [], ◌∷◌, ◌++◌}
use Prim.Native.Nat.{ℕ, suc, ◌+◌, ◌-◌, ◌≤◌, ◌<◌, min}
use native.Mathlib.Numerals.{add-one}
use native.Mathlib.Omega.{arith}
use lib.ListN.{length, take, drop, get_or, take-append-drop}
use lib.Seq.{drop-cons, take-suc, length-take-le}
use lib.Dec.{leb}
use borrow.Author.Tests.{leb-true, leb-false}
use Rattle.octets.specs.Choice.{pick}
use Rattle.octets.specs.Runs.{run}
use Rattle.octets.proofs.Runs.{on, stop}
use Rattle.characters.specs.Units.{tail, wanted, tails, units, last_start}
use Rattle.characters.proofs.Units.{wanted_few, units_flatten, fitting_append, fitting_none, owed, apart}

-- ---- where a text may be cut

-- the last start is behind a front that goes in whole, if the unit behind it does not
cut_behind : (room : ℕ) (front : List ℕ) (x : ℕ) (xs : List ℕ) → length front ≤ room → min (owed 0 front) (run tail (x ∷ xs)) ≡ 0
    → room - length front < suc (tails x xs) → length front ≡ last_start room (front ++ x ∷ xs)
cut_behind room front x xs h k l =
    let e = units_flatten front in
    sym (rw (apart front (x ∷ xs) k, fitting_append room (units front) (units (x ∷ xs)) (rw e h), e, fitting_none (room - length front) x xs l) (omega arith))

-- the same, by the place
cut_here : (xs : List ℕ) (room r : ℕ) → r < length xs → r ≤ room → min (owed 0 (take r xs)) (run tail (drop r xs)) ≡ 0
    → room - r < suc (tails (get_or xs r 0) (drop (r + 1) xs)) → r ≡ last_start room xs
cut_here xs room r inside h k l =
    let d : drop r xs ≡ get_or xs r 0 ∷ drop (r + 1) xs = rw (add-one, drop-cons xs r 0) in
    let n : length (take r xs) ≡ r = length-take-le r xs (omega arith) in
    sym n ∙ (cut_behind room (take r xs) (get_or xs r 0) (drop (r + 1) xs) (omega arith) (rw d at k) (rw n l)
    ∙ ap (last_start room) (ap (λ (ys : List ℕ). take r xs ++ ys) (sym d) ∙ take-append-drop r xs))

-- ---- what is owed behind a front

owed_append : (asked : ℕ) (xs ys : List ℕ) → owed asked (xs ++ ys) ≡ owed (owed asked xs) ys
unfolding owed
owed_append asked [] ys = refl
owed_append asked (x ∷ xs) ys = owed_append (pick (tail x) (asked - 1) (wanted x)) xs ys

-- one byte: a tail is one less, and any other says anew
owed_turn : (xs : List ℕ) (i : ℕ) → i < length xs
    → owed 0 (take (i + 1) xs) ≡ pick (tail (get_or xs i 0)) (owed 0 (take i xs) - 1) (wanted (get_or xs i 0))
unfolding owed
owed_turn xs i h = rw (add-one, take-suc xs i 0) (owed_append 0 (take i xs) (get_or xs i 0 ∷ []))

-- never more than three
owed_few : (asked : ℕ) (xs : List ℕ) → asked ≤ 3 → owed asked xs ≤ 3
unfolding owed
owed_few asked [] h = h
owed_few asked (x ∷ xs) h = owed_few (pick (tail x) (asked - 1) (wanted x)) xs (go (tail x))
  where
    go : (t : Bool) → pick t (asked - 1) (wanted x) ≤ 3
    go true = omega arith
    go false = wanted_few x

-- ---- looking back from a place: the last `back` bytes up to it are tails

pub record Back (xs : List ℕ) (room back : ℕ) : Type 0 where
  pub some : 0 < back
  pub passed : back ≤ run tail (drop (room + 1 - back) xs)
  pub owes : owed 0 (take room xs) ≡ owed 0 (take (room + 1 - back) xs) - (back - 1)

module _ (xs : List ℕ) (room : ℕ) (inside : room < length xs) where
  -- nothing is owed there, or no tail stands there
  start_there : min (owed 0 (take room xs)) (run tail (drop room xs)) ≡ 0 → room ≡ last_start room xs
  start_there e = cut_here xs room room inside (omega arith) e (omega arith)

  pub no_tail_there : tail (get_or xs room 0) ≡ false → room ≡ last_start room xs
  no_tail_there e = start_there (omega (arith, stop tail xs room inside e))

  pub back_start : tail (get_or xs room 0) ≡ true → Back xs room 1
  back_start e =
      let z : room + 1 - 1 ≡ room = omega arith in
      record { some = omega arith; passed = rw z (omega (arith, on tail xs room inside e)); owes = rw z (omega arith) }

-- a tail more is one less owed
one_less : (back asked : ℕ) {now then : ℕ} → 0 < back → now ≡ then - (back - 1) → then ≡ asked - 1 → now ≡ asked - (back + 1 - 1)
one_less back asked some e f = omega arith

module _ {xs : List ℕ} {room back : ℕ} (p : Back xs room back) (inside : room < length xs) where
  -- four tails, or nothing but tails: none is owed
  pub back_end : min room 3 < back → room ≡ last_start room xs
  unfolding owed
  back_end h = start_there xs room inside (omega (arith, p.owes, go (leb back 3) refl))
    where
      go : (t : Bool) → leb back 3 ≡ t → owed 0 (take (room + 1 - back) xs) ≤ back - 1
      go true e = let z : room + 1 - back ≡ 0 = omega (arith, leb-true back 3 e) in rw z (omega arith)
      go false e = omega (arith, owed_few 0 (take (room + 1 - back) xs) (omega arith), leb-false back 3 e)

  module _ (h : back ≤ room) where
    here : room + 1 - back ≡ room - back + 1
    here = omega arith

    in_front : room - back < length xs
    in_front = omega arith

    -- a tail more
    pub back_more : tail (get_or xs (room - back) 0) ≡ true → Back xs room (back + 1)
    back_more e =
        let z : room + 1 - (back + 1) ≡ room - back = omega arith in
        record {
          some = omega arith;
          passed = rw z (omega (arith, on tail xs (room - back) in_front e, rw here at p.passed));
          owes = rw z (one_less back (owed 0 (take (room - back) xs)) p.some (rw here at p.owes) (rw e at (owed_turn xs (room - back) in_front)));
        }

    -- the byte before the tails asks for all of them
    pub asked : tail (get_or xs (room - back) 0) ≡ false → back ≤ wanted (get_or xs (room - back) 0) → room - back ≡ last_start room xs
    asked e w = cut_here xs room (room - back) in_front (omega arith) (omega (arith, stop tail xs (room - back) in_front e)) (omega (arith, rw here at p.passed))

    -- or for fewer
    pub not_asked : tail (get_or xs (room - back) 0) ≡ false → wanted (get_or xs (room - back) 0) < back → room ≡ last_start room xs
    not_asked e w = start_there xs room inside (omega (arith, rw here at p.owes, rw e at (owed_turn xs (room - back) in_front)))
