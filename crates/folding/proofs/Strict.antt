-- Laws of the strict fold: of two parts in turn, of whole physical lines at once, and of the loop that lays them. Assumes nothing.
use mathlib.Core.Path.{◌≡◌, refl, sym, ap, ◌∙◌}
use mathlib.Core.Bool.{Bool, true, false}
use mathlib.Core.List.{List, [], ◌∷◌, ◌++◌, append_assoc, flatten}
use Prim.Native.Nat.{ℕ, ◌+◌, ◌-◌, ◌*◌, ◌≤◌, ◌<◌, zero-le}
use native.Mathlib.Omega.{arith}
use lib.ListN.{length, take, drop, length-append, length-take, take-append-drop}
use lib.Seq.{take-append-add, drop-append-add}
use lib.Dec.{leb}
use borrow.Author.Tests.{le-leb, leb-true, leb-false}
use Rattle.octets.specs.Choice.{pick}
use Rattle.octets.specs.All.{All}
use Rattle.octets.specs.Laid.{most, counted, Lays}
use Rattle.octets.proofs.Writing.{Writing, start, more, end, from_as, from_front, counts}
use Rattle.characters.specs.Units.{tails, units, fitting, last_start}
use Rattle.characters.proofs.Units.{Small, units_front, units_small, units_flatten, by_units, unit_length, unit_small, fitting_most}
use Rattle.folding.specs.Pieces.{brk}
use Rattle.folding.specs.declared.Column.{Column}
use Rattle.folding.specs.declared.Folded.{Folded}
use Rattle.folding.specs.Strict.{first, later, break_for, left_for, folded_units, left_after, strict}

-- ---- two parts in turn

pub fold_append : (left : ℕ) (us vs : List (List ℕ))
    → folded_units left (us ++ vs) ≡ folded_units left us ++ folded_units (left_after left us) vs
unfolding folded_units left_after
fold_append left [] vs = refl
fold_append left (u ∷ us) vs = rw (fold_append (left_for left u - length u) us vs) (simp append_assoc)

pub left_append : (left : ℕ) (us vs : List (List ℕ)) → left_after left (us ++ vs) ≡ left_after (left_after left us) vs
unfolding left_after
left_append left [] vs = refl
left_append left (u ∷ us) vs = left_append (left_for left u - length u) us vs

-- ---- what fits stays as it is, and what does not has a break before it

pub fold_all : (left : ℕ) (us : List (List ℕ)) → length (flatten us) ≤ left → folded_units left us ≡ flatten us
unfolding folded_units flatten
fold_all left [] h = refl
fold_all left (u ∷ us) h =
    let l = length-append u (flatten us) in
    rw (le-leb (length u) left (omega arith)) (ap (λ (r : List ℕ). u ++ r) (fold_all (left - length u) us (omega arith)))

left_all : (left : ℕ) (us : List (List ℕ)) → length (flatten us) ≤ left → left_after left us ≡ left - length (flatten us)
unfolding left_after flatten
left_all left [] h = omega arith
left_all left (u ∷ us) h =
    let l = length-append u (flatten us) in
    rw (le-leb (length u) left (omega arith)) (left_all (left - length u) us (omega arith) ∙ omega arith)

pub fold_fits : (left : ℕ) (xs : List ℕ) → length xs ≤ left → folded_units left (units xs) ≡ xs
fold_fits left xs h = fold_all left (units xs) (rw (units_flatten xs) h) ∙ units_flatten xs

pub left_fits : (left : ℕ) (xs : List ℕ) → length xs ≤ left → left_after left (units xs) ≡ left - length xs
left_fits left xs h = left_all left (units xs) (rw (units_flatten xs) h) ∙ ap (λ (l : List ℕ). left - length l) (units_flatten xs)

-- the characters that fit are laid, and behind a break the others, as on a line of their own
record Fills (xs : List ℕ) : Type 0 where
  folds : (left : ℕ) → left < length xs
      → folded_units left (units xs) ≡ take (last_start left xs) xs ++ (brk ++ folded_units later (units (drop (last_start left xs) xs)))
  leaves : (left : ℕ) → left < length xs → left_after left (units xs) ≡ left_after later (units (drop (last_start left xs) xs))

module _ (u rest : List ℕ) (front : units (u ++ rest) ≡ u ∷ units rest) (small : length u ≤ 4) (next : Fills rest) where
  fill_folds : (left : ℕ) → left < length (u ++ rest)
      → folded_units left (units (u ++ rest))
      ≡ take (last_start left (u ++ rest)) (u ++ rest) ++ (brk ++ folded_units later (units (drop (last_start left (u ++ rest)) (u ++ rest))))
  unfolding folded_units fitting
  fill_folds left h = rw front (go (leb (length u) left) refl)
    where
      go : (t : Bool) → leb (length u) left ≡ t
          → pick t [] brk ++ (u ++ folded_units (pick t left later - length u) (units rest))
          ≡ take (pick t (length u + last_start (left - length u) rest) 0) (u ++ rest)
          ++ (brk ++ folded_units later (units (drop (pick t (length u + last_start (left - length u) rest) 0) (u ++ rest))))
      go true e =
          rw (take-append-add u rest (last_start (left - length u) rest), drop-append-add u rest (last_start (left - length u) rest), append_assoc u)
          (ap (λ (l : List ℕ). u ++ l) (next.folds (left - length u) (omega (arith, length-append u rest, leb-true (length u) left e))))
      go false e = rw (front, le-leb (length u) later (omega arith)) refl

  fill_leaves : (left : ℕ) → left < length (u ++ rest)
      → left_after left (units (u ++ rest)) ≡ left_after later (units (drop (last_start left (u ++ rest)) (u ++ rest)))
  unfolding left_after fitting
  fill_leaves left h = rw front (go (leb (length u) left) refl)
    where
      go : (t : Bool) → leb (length u) left ≡ t
          → left_after (pick t left later - length u) (units rest)
          ≡ left_after later (units (drop (pick t (length u + last_start (left - length u) rest) 0) (u ++ rest)))
      go true e =
          rw (drop-append-add u rest (last_start (left - length u) rest))
          (next.leaves (left - length u) (omega (arith, length-append u rest, leb-true (length u) left e)))
      go false e = sym (ap (left_after later) front ∙ rw (left_after, le-leb (length u) later (omega arith)) refl)

fills : (xs : List ℕ) → Fills xs
fills = by_units Fills (record { folds = λ left h. absurd (omega arith); leaves = λ left h. absurd (omega arith) }) step
  where
    step : (x : ℕ) (xs : List ℕ) → Fills (drop (tails x xs) xs) → Fills (x ∷ xs)
    step x xs next =
        let u = x ∷ take (tails x xs) xs in
        let rest = drop (tails x xs) xs in
        let whole : u ++ rest ≡ x ∷ xs = ap (λ (l : List ℕ). x ∷ l) (take-append-drop (tails x xs) xs) in
        let small : length u ≤ 4 = omega (arith, unit_length x xs, unit_small x xs) in
        let front : units (u ++ rest) ≡ u ∷ units rest = rw whole (units_front x xs) in
        let both : Fills (u ++ rest) = record { folds = fill_folds u rest front small next; leaves = fill_leaves u rest front small next } in
        rw whole at both

-- a line of at most 75 bytes is itself
pub strict_short : (line : List ℕ) → length line ≤ first → strict line ≡ line
strict_short line h = fold_fits first line h

-- a character has a break in front of it at most
break_length : (left : ℕ) (u : List ℕ) → length (break_for left u) ≤ 3
break_length left u = by (leb (length u) left)
  where
    by : (t : Bool) → length (pick t [] brk) ≤ 3
    by true = omega arith
    by false = omega arith

units_length : (left : ℕ) (us : List (List ℕ)) → All Small us → length (folded_units left us) ≤ 4 * length (flatten us)
unfolding folded_units flatten All
units_length left [] small = zero-le
units_length left (u ∷ us) small =
    let r = folded_units (left_for left u - length u) us in
    omega (
      arith,
      length-append (break_for left u) (u ++ r),
      length-append u r,
      length-append u (flatten us),
      break_length left u,
      small.0.0,
      units_length (left_for left u - length u) us small.1,
    )

pub fold_length : (left : ℕ) (xs : List ℕ) → length (folded_units left (units xs)) ≤ 4 * length xs
fold_length left xs = rw (units_flatten xs) at (units_length left (units xs) (units_small xs))

starts_some : (xs : List ℕ) (left : ℕ) → 0 < length xs → 4 ≤ left → 0 < last_start left xs
unfolding fitting
starts_some [] left h room = absurd (omega arith)
starts_some (x ∷ xs) left h room = rw (units_front x xs, le-leb (length (x ∷ take (tails x xs) xs)) left (omega (arith, unit_length x xs, unit_small x xs))) (omega arith)

-- ---- the loop ends: each turn takes a character, or is followed by one that does, since no character has more than four octets

abbrev pub ahead : ℕ → ℕ → ℕ
ahead size left = size + (4 - left)

pub fewer : (size left k : ℕ) → left < size → k ≤ left → (4 ≤ left → 0 < k) → ahead (size - k) later < ahead size left
fewer size left k h w m = go (leb 4 left) refl
  where
    go : (t : Bool) → leb 4 left ≡ t → ahead (size - k) later < ahead size left
    go true t = omega (arith, m (leb-true 4 left t))
    go false t = omega (arith, leb-false 4 left t)

pub same : {c : Column} {n left m : ℕ} → c.left ≡ left → n ≡ m
    → ◌≡◌ {A = Folded} (record { column = c; length = n }) (record { column = record { left = left }; length = m })
same {c} {n} {left} {m} p q = rw (← p, q)

-- ---- at work on a piece: what is laid, and what is left of it to come, with so many octets left

pub record Folding (old out piece : List ℕ) (left₀ left : ℕ) (rest : List ℕ) (n : ℕ) : Type 0 where
  pub writing : Writing 0 old (folded_units left₀ (units piece)) out (folded_units left (units rest)) n
  pub column : left_after left (units rest) ≡ left_after left₀ (units piece)

pub begin : (old piece : List ℕ) (left : ℕ) → Folding old old piece left left piece 0
begin old piece left = record { writing = start 0 old (folded_units left (units piece)); column = refl }

-- no more than the line takes, and of four octets or more a character
pub within_line : (left : ℕ) (rest : List ℕ) → last_start left rest ≤ left
within_line left rest = fitting_most left (units rest)

pub moves : (left : ℕ) (rest : List ℕ) → left < length rest → 4 ≤ left → 0 < last_start left rest
moves left rest h room = starts_some rest left (omega arith) room

module _ {old out piece : List ℕ} {left₀ left : ℕ} {rest : List ℕ} {n : ℕ} (f : Folding old out piece left₀ left rest n) where
  -- a physical line is filled, and a break laid behind it
  pub turn : left < length rest → length old ≤ most → {next : List ℕ} {m : ℕ}
      → Lays n (take (last_start left rest) rest ++ brk) out next m → Folding old next piece left₀ later (drop (last_start left rest) rest) m
  turn h b p =
      let k = last_start left rest in
      let f' = fills rest in
      record {
        writing = more f.writing b (take k rest ++ brk) (folded_units later (units (drop k rest)))
            (f'.folds left h ∙ sym (append_assoc (take k rest) brk (folded_units later (units (drop k rest))))) p;
        column = sym (f'.leaves left h) ∙ f.column;
      }

  -- what is left fits
  pub finish : length rest ≤ left → {next : List ℕ} {m : ℕ} → Lays n rest out next m
      → (left - length rest ≡ left_after left₀ (units piece)) × Lays 0 (folded_units left₀ (units piece)) old next m
  finish h p = (sym (left_fits left rest h) ∙ f.column, end f.writing (from_as (sym (fold_fits left rest h)) p))

-- ---- the same without a buffer, where a count goes on by as much

module _ {piece : List ℕ} {left₀ left : ℕ} {rest : List ℕ} {n : ℕ} (f : Folding [] [] piece left₀ left rest n) where
  pub count_turn : left < length rest → {m : ℕ} → m ≡ counted (counted (n + last_start left rest) + 3)
      → Folding [] [] piece left₀ later (drop (last_start left rest) rest) m
  count_turn h {m} p =
      let front = take (last_start left rest) rest in
      let l : length (front ++ brk) ≡ last_start left rest + 3 = omega (arith, length-append front brk, length-take (last_start left rest) rest, within_line left rest) in
      turn f h zero-le (counts n (front ++ brk) (rw l (omega (arith, p))))

  pub count_finish : length rest ≤ left → {m : ℕ} → m ≡ counted (n + length rest)
      → (left - length rest ≡ left_after left₀ (units piece)) × (m ≡ counted (length (folded_units left₀ (units piece))))
  count_finish h p =
      let e = finish f h (counts n rest p) in
      (e.0, from_front e.1)
