-- Laws of units: one by one, two parts in turn, and where a text may be cut. Assumes nothing.
use mathlib.Core.Path.{◌≡◌, refl, sym, ap, ◌∙◌}
use mathlib.Core.Bool.{Bool, true, false}
use mathlib.Core.List.{List, [], ◌∷◌, ◌++◌, append-nil, flatten}
use Prim.Native.Nat.{ℕ, zero, suc, ◌+◌, ◌-◌, ◌≤◌, ◌<◌, min, zero-le}
use native.Mathlib.Nat.{not-suc-le-zero}
use native.Mathlib.Omega.{arith}
use lib.ListN.{length, take, drop, length-append, length-take, length-drop, take-append-drop}
use lib.Seq.{take-append-le}
use lib.Dec.{leb}
use borrow.Author.Tests.{le-leb, lt-leb, leb-true}
use Rattle.octets.specs.Choice.{pick}
use Rattle.octets.specs.Bytes.{between, ascii}
use Rattle.octets.specs.Runs.{run, only}
use Rattle.octets.specs.All.{All}
use Rattle.octets.proofs.Bools.{both}
use Rattle.octets.proofs.Runs.{within, whole_head, whole_tail, all_of}
use Rattle.characters.specs.Units.{tail, wanted, tails, units_from, units, fitting, last_start}

-- ---- one by one

passed_over : (n : ℕ) (xs : List ℕ) → units_from n xs ≡ units (drop n xs)
unfolding units_from
passed_over zero xs = refl
passed_over (suc n) [] = refl
passed_over (suc n) (x ∷ xs) = passed_over n xs

pub units_none : units [] ≡ []
unfolding units_from
units_none = refl

-- the unit at the front, and those behind it
pub units_front : (x : ℕ) (xs : List ℕ) → units (x ∷ xs) ≡ (x ∷ take (tails x xs) xs) ∷ units (drop (tails x xs) xs)
unfolding units_from
units_front x xs = ap (λ (us : List (List ℕ)). (x ∷ take (tails x xs) xs) ∷ us) (passed_over (tails x xs) xs)

-- what holds of no bytes, and of a unit before bytes of which it holds, holds of all
pub by_units : (so : List ℕ → Type 0) → so [] → ((x : ℕ) (xs : List ℕ) → so (drop (tails x xs) xs) → so (x ∷ xs)) → (xs : List ℕ) → so xs
by_units so none more xs = go (length xs) xs (omega arith)
  where
    go : (n : ℕ) (xs : List ℕ) → length xs ≤ n → so xs
    go zero [] h = none
    go zero (x ∷ xs) h = absurd (not-suc-le-zero h)
    go (suc n) [] h = none
    go (suc n) (x ∷ xs) h = more x xs (go n (drop (tails x xs) xs) (omega (arith, length-drop (tails x xs) xs)))

pub wanted_few : (x : ℕ) → wanted x ≤ 3
wanted_few x = go (between 192 223 x) (between 224 239 x) (between 240 247 x)
  where
    go : (a b c : Bool) → pick a 1 (pick b 2 (pick c 3 0)) ≤ 3
    go true b c = omega arith
    go false true c = omega arith
    go false false true = omega arith
    go false false false = omega arith

tails_there : (x : ℕ) (xs : List ℕ) → tails x xs ≤ length xs
tails_there x xs = omega (arith, within tail xs)

-- a unit has a byte at least, and no more than four
pub unit_length : (x : ℕ) (xs : List ℕ) → length (x ∷ take (tails x xs) xs) ≡ suc (tails x xs)
unit_length x xs = omega (arith, length-take (tails x xs) xs, tails_there x xs)

pub unit_small : (x : ℕ) (xs : List ℕ) → suc (tails x xs) ≤ 4
unit_small x xs = omega (arith, wanted_few x)

abbrev pub Small : List ℕ → Type 0
Small u = (0 < length u) × (length u ≤ 4)

pub units_small : (xs : List ℕ) → All Small (units xs)
unfolding All
units_small =
    by_units (λ (xs : List ℕ). All Small (units xs)) (rw units_none tt)
    (λ x xs rest. rw (units_front x xs) ((omega (arith, unit_length x xs), omega (arith, unit_length x xs, unit_small x xs)), rest))

pub units_flatten : (xs : List ℕ) → flatten (units xs) ≡ xs
unfolding flatten
units_flatten =
    by_units (λ (xs : List ℕ). flatten (units xs) ≡ xs) (rw units_none refl)
    (λ x xs rest. rw (units_front x xs, rest) (ap (λ (l : List ℕ). x ∷ l) (take-append-drop (tails x xs) xs)))

-- ---- fitting

pub fitting_most : (room : ℕ) (us : List (List ℕ)) → fitting room us ≤ room
unfolding fitting
fitting_most room [] = zero-le
fitting_most room (u ∷ us) = go (leb (length u) room) refl (fitting_most (room - length u) us)
  where
    go : (t : Bool) → leb (length u) room ≡ t → fitting (room - length u) us ≤ room - length u → pick t (length u + fitting (room - length u) us) 0 ≤ room
    go true e h = omega (arith, leb-true (length u) room e)
    go false e h = zero-le

-- units that go in whole are passed
pub fitting_append : (room : ℕ) (us vs : List (List ℕ)) → length (flatten us) ≤ room
    → fitting room (us ++ vs) ≡ length (flatten us) + fitting (room - length (flatten us)) vs
unfolding fitting flatten
fitting_append room [] vs h = let z : room ≡ room - 0 = omega arith in ap (λ (k : ℕ). fitting k vs) z ∙ omega arith
fitting_append room (u ∷ us) vs h =
    let l = length-append u (flatten us) in
    let m : room - length u - length (flatten us) ≡ room - length (u ++ flatten us) = omega arith in
    rw (le-leb (length u) room (omega arith))
    (ap (λ (k : ℕ). length u + k) (fitting_append (room - length u) us vs (omega arith) ∙ ap (λ (k : ℕ). length (flatten us) + fitting k vs) m) ∙ omega arith)

-- all of them, where there is room
pub fitting_all : (room : ℕ) (us : List (List ℕ)) → length (flatten us) ≤ room → fitting room us ≡ length (flatten us)
unfolding fitting
fitting_all room us h = ap (fitting room) (sym (append-nil us)) ∙ (fitting_append room us [] h ∙ omega arith)

-- and none, where the first finds none
pub fitting_none : (room x : ℕ) (xs : List ℕ) → room < suc (tails x xs) → last_start room (x ∷ xs) ≡ 0
unfolding fitting
fitting_none room x xs h = rw (units_front x xs, lt-leb (length (x ∷ take (tails x xs) xs)) room (omega (arith, unit_length x xs)))

-- ---- two parts in turn

-- a tail asks for none
tail_alone : (x : ℕ) → tail x ≡ true → wanted x ≡ 0
tail_alone x e =
    let h = leb-true x 191 (both (leb 128 x) (leb x 191) e).1 in
    rw (lt-leb 192 x (omega arith), lt-leb 224 x (omega arith), lt-leb 240 x (omega arith))

-- a byte that asks for none is a unit by itself
alone : (x : ℕ) (xs : List ℕ) → wanted x ≡ 0 → units (x ∷ xs) ≡ (x ∷ []) ∷ units xs
alone x xs e = units_front x xs ∙ ap (λ (n : ℕ). (x ∷ take n xs) ∷ units (drop n xs)) (none e)
  where
    none : wanted x ≡ 0 → tails x xs ≡ 0
    none e = omega arith

-- how many tails are still asked for behind the bytes, if so many are before them
unfoldable pub owed : ℕ → List ℕ → ℕ
owed asked [] = asked
owed asked (x ∷ xs) = owed (pick (tail x) (asked - 1) (wanted x)) xs

-- no unit reaches from one part into the other: the first part asks for no tail more, or the second has none in front
apart_from : (asked : ℕ) (xs ys : List ℕ) → min (owed asked xs) (run tail ys) ≡ 0 → (k : ℕ) → k ≡ min asked (run tail xs)
    → (k ≡ min asked (run tail (xs ++ ys))) × (units_from k (xs ++ ys) ≡ units_from k xs ++ units ys)
unfolding run units_from owed
apart_from asked [] ys h zero e = (sym h, refl)
apart_from asked [] ys h (suc k) e = absurd (omega arith)
apart_from asked (x ∷ xs) ys h k e = go (tail x) refl asked h k e (λ a. apart_from a xs ys)
  where
    go : (t : Bool) → tail x ≡ t → (asked : ℕ) → min (owed (pick t (asked - 1) (wanted x)) xs) (run tail ys) ≡ 0
        → (k : ℕ) → k ≡ min asked (pick t (suc (run tail xs)) 0)
        → ((a : ℕ) → min (owed a xs) (run tail ys) ≡ 0 → (j : ℕ) → j ≡ min a (run tail xs)
        → (j ≡ min a (run tail (xs ++ ys))) × (units_from j (xs ++ ys) ≡ units_from j xs ++ units ys))
        → (k ≡ min asked (pick t (suc (run tail (xs ++ ys))) 0)) × (units_from k (x ∷ (xs ++ ys)) ≡ units_from k (x ∷ xs) ++ units ys)
    go true t zero h zero e rest =
        let next = rest 0 h 0 (omega arith) in
        let single = tail_alone x t in
        (omega arith, alone x (xs ++ ys) single ∙ (ap (λ (us : List (List ℕ)). (x ∷ []) ∷ us) next.1 ∙ sym (ap (λ (us : List (List ℕ)). us ++ units ys) (alone x xs single))))
    go true t zero h (suc k) e rest = absurd (omega arith)
    go true t (suc asked) h zero e rest = absurd (omega arith)
    go true t (suc asked) h (suc k) e rest =
        let m : suc asked - 1 ≡ asked = omega arith in
        let next = rest asked (rw m at h) k (omega arith) in
        (omega (arith, next.0), next.1)
    go false t asked h (suc k) e rest = absurd (omega arith)
    go false t asked h zero e rest =
        let next = rest (wanted x) h (tails x xs) refl in
        (omega arith, behind (tails x (xs ++ ys)) next.0 next.1)
      where
        behind : (m : ℕ) → tails x xs ≡ m → units_from (tails x xs) (xs ++ ys) ≡ units_from (tails x xs) xs ++ units ys
            → (x ∷ take m (xs ++ ys)) ∷ units_from m (xs ++ ys) ≡ ((x ∷ take (tails x xs) xs) ∷ units_from (tails x xs) xs) ++ units ys
        behind m i e = rw (← i, e, take-append-le (tails x xs) xs ys (tails_there x xs)) refl

pub apart : (xs ys : List ℕ) → min (owed 0 xs) (run tail ys) ≡ 0 → units (xs ++ ys) ≡ units xs ++ units ys
apart xs ys h = (apart_from 0 xs ys h 0 (omega arith)).1

-- so bytes of ASCII end where they end
pub ascii_alone : (x : ℕ) → ascii x ≡ true → (tail x ≡ false) × (wanted x ≡ 0)
ascii_alone x e =
    let h = leb-true x 127 e in
    let off : leb 128 x ≡ false = lt-leb 128 x (omega arith) in
    (rw off refl, rw (lt-leb 192 x (omega arith), lt-leb 224 x (omega arith), lt-leb 240 x (omega arith)))

owed_ascii : (xs : List ℕ) → run ascii xs ≡ length xs → owed 0 xs ≡ 0
unfolding owed
owed_ascii [] h = refl
owed_ascii (x ∷ xs) h = let a = ascii_alone x (whole_head ascii x xs h) in rw (a.0, a.1) (owed_ascii xs (whole_tail ascii x xs h))

pub behind_ascii : (xs ys : List ℕ) → only ascii xs ≡ true → units (xs ++ ys) ≡ units xs ++ units ys
behind_ascii xs ys e = apart xs ys (rw (owed_ascii xs (all_of ascii xs e)) (omega arith))

-- and bytes behind which no tail stands
pub before_start : (xs ys : List ℕ) → run tail ys ≡ 0 → units (xs ++ ys) ≡ units xs ++ units ys
before_start xs ys h = apart xs ys (omega (arith, h))
