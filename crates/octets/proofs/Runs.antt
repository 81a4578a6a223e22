-- Laws of the longest run of a class and of lists that are one whole run, over any class, and of the loops that look for them. Assumes nothing.
use mathlib.Core.Path.{◌≡◌, refl, sym, ap, ◌∙◌}
use mathlib.Core.Bool.{Bool, true, false, ◌&&◌, and-false}
use mathlib.Core.List.{List, [], ◌∷◌, ◌++◌}
use Prim.Native.Nat.{ℕ, zero, suc, ◌+◌, ◌≤◌, ◌<◌, zero-le, suc-le-suc}
use native.Mathlib.Nat.{zero-add, not-suc-le-zero, le_of_suc-le-suc}
use native.Mathlib.Numerals.{add-one}
use native.Mathlib.Omega.{arith}
use lib.ListN.{length, get_or, take, drop, length-take, length-drop, take-append-drop, drop_of_length-le}
use lib.Seq.{drop-cons, drop-drop, take-take}
use lib.Dec.{leb, leb-zero, leb-suc-zero, leb-suc-suc}
use borrow.Author.Tests.{leb-true, le-leb}
use Rattle.octets.specs.Choice.{pick}
use Rattle.octets.specs.Runs.{run, only}
use Rattle.octets.specs.Views.{viewed}

module _ (class : ℕ → Bool) where
  -- one byte: by its class the run goes on or ends
  pub turn : (xs : List ℕ) (i : ℕ) → i < length xs → run class (drop i xs) ≡ pick (class (get_or xs i 0)) (suc (run class (drop (i + 1) xs))) 0
  unfolding run
  turn xs i h = rw (drop-cons xs i 0 h, add-one)

  pub on : (xs : List ℕ) (i : ℕ) → i < length xs → class (get_or xs i 0) ≡ true → run class (drop i xs) ≡ suc (run class (drop (i + 1) xs))
  on xs i h e = turn xs i h ∙ rw e

  pub stop : (xs : List ℕ) (i : ℕ) → i < length xs → class (get_or xs i 0) ≡ false → run class (drop i xs) ≡ 0
  stop xs i h e = turn xs i h ∙ rw e

  pub ended : (xs : List ℕ) (i : ℕ) → length xs ≤ i → run class (drop i xs) ≡ 0
  unfolding run
  ended xs i h = rw (drop_of_length-le xs h)

  -- no run where the first byte is of another class
  pub no_run : (xs : List ℕ) (d : ℕ) → class (get_or xs 0 d) ≡ false → run class xs ≡ 0
  unfolding run
  no_run [] d e = refl
  no_run (x ∷ xs) d e = rw e

  pub within : (xs : List ℕ) → run class xs ≤ length xs
  unfolding run
  within [] = zero-le
  within (x ∷ xs) = go (class x) (within xs)
    where
      go : (t : Bool) → run class xs ≤ length xs → pick t (suc (run class xs)) 0 ≤ suc (length xs)
      go true h = suc-le-suc h
      go false h = zero-le

  -- the byte that ends a run is of another class
  pub stopped : (xs : List ℕ) → run class xs < length xs → class (get_or xs (run class xs) 0) ≡ false
  unfolding run
  stopped [] h = absurd (not-suc-le-zero h)
  stopped (x ∷ xs) h = go (class x) refl h (stopped xs)
    where
      go : (t : Bool) → class x ≡ t → pick t (suc (run class xs)) 0 < suc (length xs)
          → (run class xs < length xs → class (get_or xs (run class xs) 0) ≡ false)
          → class (get_or (x ∷ xs) (pick t (suc (run class xs)) 0) 0) ≡ false
      go true e h rest = rest (le_of_suc-le-suc h)
      go false e h rest = e

  -- a whole run goes on into what follows it
  pub through : (xs ys : List ℕ) → run class xs ≡ length xs → run class (xs ++ ys) ≡ length xs + run class ys
  unfolding run
  through [] ys e = omega arith
  through (x ∷ xs) ys e = go (class x) e (through xs ys)
    where
      go : (t : Bool) → pick t (suc (run class xs)) 0 ≡ suc (length xs)
          → (run class xs ≡ length xs → run class (xs ++ ys) ≡ length xs + run class ys)
          → pick t (suc (run class (xs ++ ys))) 0 ≡ suc (length xs) + run class ys
      go true e rest = omega (arith, rest (omega arith))
      go false e rest = omega arith

  -- a run that ends inside a list knows nothing of what follows it
  pub ends_inside : (xs ys : List ℕ) → run class xs < length xs → run class (xs ++ ys) ≡ run class xs
  unfolding run
  ends_inside [] ys h = absurd (not-suc-le-zero h)
  ends_inside (x ∷ xs) ys h = go (class x) h (ends_inside xs ys)
    where
      go : (t : Bool) → pick t (suc (run class xs)) 0 < suc (length xs)
          → (run class xs < length xs → run class (xs ++ ys) ≡ run class xs)
          → pick t (suc (run class (xs ++ ys))) 0 ≡ pick t (suc (run class xs)) 0
      go true h rest = ap suc (rest (le_of_suc-le-suc h))
      go false h rest = refl

  -- of a list that is one whole run the first byte is of the class, and the others are one whole run
  pub whole_head : (x : ℕ) (xs : List ℕ) → run class (x ∷ xs) ≡ length (x ∷ xs) → class x ≡ true
  unfolding run
  whole_head x xs e = go (class x) e
    where
      go : (t : Bool) → pick t (suc (run class xs)) 0 ≡ suc (length xs) → t ≡ true
      go true e = refl
      go false e = absurd (omega arith)

  pub whole_tail : (x : ℕ) (xs : List ℕ) → run class (x ∷ xs) ≡ length (x ∷ xs) → run class xs ≡ length xs
  whole_tail x xs e = omega (arith, on (x ∷ xs) 0 (omega arith) (whole_head x xs e))

  -- and so are its first n bytes
  pub whole_take : (n : ℕ) (xs : List ℕ) → run class xs ≡ length xs → run class (take n xs) ≡ length (take n xs)
  unfolding run
  whole_take zero xs e = refl
  whole_take (suc n) [] e = refl
  whole_take (suc n) (x ∷ xs) e = rw (whole_head x xs e) (ap suc (whole_take n xs (whole_tail x xs e)))

  -- the bytes of a run are one whole run
  pub whole : (xs : List ℕ) → run class (take (run class xs) xs) ≡ length (take (run class xs) xs)
  unfolding run
  whole [] = refl
  whole (x ∷ xs) = go (class x) refl (whole xs)
    where
      go : (t : Bool) → class x ≡ t → run class (take (run class xs) xs) ≡ length (take (run class xs) xs)
          → run class (take (pick t (suc (run class xs)) 0) (x ∷ xs)) ≡ length (take (pick t (suc (run class xs)) 0) (x ∷ xs))
      go true e rest = rw e (ap suc rest)
      go false e rest = refl

pub all_of : (class : ℕ → Bool) (xs : List ℕ) → only class xs ≡ true → run class xs ≡ length xs
all_of class xs h = omega (arith, leb-true (length xs) (run class xs) h, within class xs)

-- a run of a class is passed over within the run of a wider one
wider : (narrow wide : ℕ → Bool) → ((x : ℕ) → narrow x ≡ true → wide x ≡ true)
    → (n : ℕ) (xs : List ℕ) → n ≤ run narrow xs → n + run wide (drop n xs) ≡ run wide xs
unfolding run
wider narrow wide sub zero xs h = zero-add (run wide xs)
wider narrow wide sub (suc n) [] h = absurd (not-suc-le-zero h)
wider narrow wide sub (suc n) (x ∷ xs) h = go (narrow x) refl h (wider narrow wide sub n xs)
  where
    go : (t : Bool) → narrow x ≡ t → suc n ≤ pick t (suc (run narrow xs)) 0 → (n ≤ run narrow xs → n + run wide (drop n xs) ≡ run wide xs)
        → suc n + run wide (drop n xs) ≡ pick (wide x) (suc (run wide xs)) 0
    go true e h rest = rw (sub x e) (omega (arith, rest (le_of_suc-le-suc h)))
    go false e h rest = absurd (not-suc-le-zero h)

pub wider_at : (narrow wide : ℕ → Bool) → ((x : ℕ) → narrow x ≡ true → wide x ≡ true)
    → (xs : List ℕ) (i n : ℕ) → n ≤ run narrow (drop i xs) → n + run wide (drop (i + n) xs) ≡ run wide (drop i xs)
wider_at narrow wide sub xs i n h = ap (λ (ys : List ℕ). n + run wide ys) (sym (drop-drop n i xs)) ∙ wider narrow wide sub n (drop i xs) h

-- and so is a part of the run itself
pub passed : (class : ℕ → Bool) (xs : List ℕ) (i n : ℕ) → n ≤ run class (drop i xs) → n + run class (drop (i + n) xs) ≡ run class (drop i xs)
passed class = wider_at class class (λ (x : ℕ) e. e)

-- bytes of a class are bytes of a wider one
pub whole_wider : (narrow wide : ℕ → Bool) → ((x : ℕ) → narrow x ≡ true → wide x ≡ true)
    → (xs : List ℕ) → run narrow xs ≡ length xs → run wide xs ≡ length xs
unfolding run
whole_wider narrow wide sub [] h = refl
whole_wider narrow wide sub (x ∷ xs) h = rw (sub x (whole_head narrow x xs h)) (ap suc (whole_wider narrow wide sub xs (whole_tail narrow x xs h)))

-- bytes of a class from a place on: a view of them holds no others
pub view_only : (narrow wide : ℕ → Bool) → ((x : ℕ) → narrow x ≡ true → wide x ≡ true) → (text : List ℕ) (start len : ℕ) → start + len ≤ length text
    → leb len (run narrow (drop start text)) ≡ true → only wide (viewed text start len) ≡ true
view_only narrow wide sub text start len h t =
    let ys = drop start text in
    let e : take len (take (run narrow ys) ys) ≡ take len ys = take-take len (run narrow ys) ys (leb-true len (run narrow ys) t) in
    let w : run wide (take len ys) ≡ length (take len ys) =
    whole_wider narrow wide sub (take len ys) (rw e at (whole_take narrow len (take (run narrow ys) ys) (whole narrow ys))) in
    rw (le-leb (start + len) (length text) h) (le-leb (length (take len ys)) (run wide (take len ys)) (omega (arith, w)))

-- ---- a loop for the longest run, which has passed i bytes of the class

pub record Ran (class : ℕ → Bool) (xs : List ℕ) (i : ℕ) : Type 0 where
  pub inside : i ≤ length xs
  pub left : i + run class (drop i xs) ≡ run class xs

pub ran_start : (class : ℕ → Bool) (xs : List ℕ) → Ran class xs 0
ran_start class xs = record { inside = omega arith; left = omega arith }

module _ {class : ℕ → Bool} {xs : List ℕ} {i : ℕ} (r : Ran class xs i) where
  pub ran_all : length xs ≤ i → i ≡ run class xs
  ran_all h = omega (arith, r.left, ended class xs i h)

  pub ran_more : i < length xs → class (get_or xs i 0) ≡ true → Ran class xs (i + 1)
  ran_more h e = record { inside = omega arith; left = omega (arith, r.left, on class xs i h e) }

  -- a block of the class at once
  pub ran_block : (n : ℕ) → i + n ≤ length xs → only class (take n (drop i xs)) ≡ true → Ran class xs (i + n)
  ran_block n h e =
      let ys = drop i xs in
      let t : run class ys ≡ length (take n ys) + run class (drop n ys) = rw take-append-drop at (through class (take n ys) (drop n ys) (all_of class (take n ys) e)) in
      let k : n ≤ run class ys = omega (arith, length-take n ys, length-drop i xs) in
      record { inside = h; left = omega (arith, r.left, passed class xs i n k) }

  pub ran_end : i < length xs → class (get_or xs i 0) ≡ false → i ≡ run class xs
  ran_end h e = omega (arith, r.left, stop class xs i h e)

-- ---- a loop with no branch for whether every byte is of the class: of the first i it is known

module _ (class : ℕ → Bool) where
  -- this byte, and those behind it
  pub only_turn : (xs : List ℕ) (i : ℕ) → i < length xs → only class (drop i xs) ≡ class (get_or xs i 0) && only class (drop (i + 1) xs)
  unfolding run
  only_turn xs i h = rw (drop-cons xs i 0 h, add-one) (go (class (get_or xs i 0)) (drop (suc i) xs))
    where
      go : (t : Bool) (ys : List ℕ) → leb (suc (length ys)) (pick t (suc (run class ys)) 0) ≡ t && leb (length ys) (run class ys)
      go true ys = leb-suc-suc (length ys) (run class ys)
      go false ys = leb-suc-zero (length ys)

  pub only_ended : (xs : List ℕ) (i : ℕ) → length xs ≤ i → only class (drop i xs) ≡ true
  only_ended xs i h = rw (drop_of_length-le xs h) (leb-zero (run class []))

four : (a b c d : Bool) → (a && b) && (c && d) ≡ (a && c) && (b && d)
four true true c d = refl
four true false c d = sym (and-false c)
four false b c d = refl

-- every byte is of both classes: every one is of the first, and every one is of the second
pub only_both : (f g : ℕ → Bool) (xs : List ℕ) → only (λ (x : ℕ). f x && g x) xs ≡ only f xs && only g xs
only_both f g [] = only_ended (λ (x : ℕ). f x && g x) [] 0 (omega arith) ∙ sym (rw (only_ended f [] 0 (omega arith), only_ended g [] 0 (omega arith)))
only_both f g (x ∷ xs) =
    only_turn (λ (x : ℕ). f x && g x) (x ∷ xs) 0 (omega arith)
    ∙ (ap (λ (t : Bool). (f x && g x) && t) (only_both f g xs)
    ∙ (four (f x) (g x) (only f xs) (only g xs) ∙ sym (rw (only_turn f (x ∷ xs) 0 (omega arith), only_turn g (x ∷ xs) 0 (omega arith)))))

pub record Tried (class : ℕ → Bool) (xs : List ℕ) (so : Bool) (i : ℕ) : Type 0 where
  pub inside : i ≤ length xs
  pub left : so && only class (drop i xs) ≡ only class xs

pub tried_start : (class : ℕ → Bool) (xs : List ℕ) → Tried class xs true 0
tried_start class xs = record { inside = omega arith; left = refl }

module _ {class : ℕ → Bool} {xs : List ℕ} {so : Bool} {i : ℕ} (r : Tried class xs so i) where
  pub tried_more : i < length xs → Tried class xs (so && class (get_or xs i 0)) (i + 1)
  tried_more h = record { inside = omega arith; left = go so (class (get_or xs i 0)) (only class (drop (i + 1) xs)) (only_turn class xs i h) ∙ r.left }
    where
      go : (so t u : Bool) {v : Bool} → v ≡ t && u → (so && t) && u ≡ so && v
      go true t u e = sym e
      go false t u e = refl

  pub tried_all : length xs ≤ i → so ≡ only class xs
  tried_all h = go so (only_ended class xs i h) ∙ r.left
    where
      go : (so : Bool) {u : Bool} → u ≡ true → so ≡ so && u
      go true e = sym e
      go false e = refl
