-- Laws of the repository's fold: a cut, the remainder, and the pieces of a whole line. Assumes nothing.
use mathlib.Core.Path.{◌≡◌, refl, sym, ◌∙◌}
use mathlib.Core.Bool.{Bool, true, false}
use mathlib.Core.List.{List, [], ◌∷◌, ◌++◌, append-nil, append_assoc, flatten}
use Prim.Native.Nat.{ℕ, zero, suc, ◌-◌, ◌*◌, ◌≤◌, ◌<◌}
use native.Mathlib.Omega.{arith}
use lib.ListN.{length, take, drop, get_or, length-append, length-take, length-drop, take-append-drop}
use lib.Dec.{leb}
use borrow.Author.Tests.{le-leb, lt-leb, leb-false}
use Rattle.octets.specs.Choice.{pick}
use Rattle.octets.specs.Laid.{most, Lays}
use Rattle.octets.proofs.Writing.{Writing, start, more, end, from_as}
use Rattle.folding.specs.Pieces.{brk, behind_breaks, joined}
use Rattle.folding.specs.Strict.{first, later}
use Rattle.folding.specs.Repository.{white, cut, cuts, pieces_of, repository, repository_pieces}

-- a cut takes a byte at least, and no more than the width
pub cut_some : (width : ℕ) (rest : List ℕ) → 1 < width → (0 < cut width rest) × (cut width rest ≤ width)
cut_some width rest h = by (white (get_or rest width 0))
  where
    by : (t : Bool) → (0 < pick t (width - 1) width) × (pick t (width - 1) width ≤ width)
    by true = (omega arith, omega arith)
    by false = (omega arith, omega arith)

short : (n width : ℕ) (rest : List ℕ) → length rest ≤ first → cuts n width rest ≡ rest ∷ []
unfolding cuts
short zero width rest h = refl
short (suc n) width rest h = rw (le-leb (length rest) first h)

long : (n width : ℕ) (rest : List ℕ) → first < length rest
    → cuts (suc n) width rest ≡ take (cut width rest) rest ∷ cuts n later (drop (cut width rest) rest)
unfolding cuts
long n width rest h = rw (lt-leb (length rest) first h)

less : (n width : ℕ) (rest : List ℕ) → 1 < width → length rest ≤ suc n → length (drop (cut width rest) rest) ≤ n
less n width rest w h = omega (arith, length-drop (cut width rest) rest, cut_some width rest w)

-- as many cuts as there are bytes are enough
enough : (m n width : ℕ) (rest : List ℕ) → 1 < width → length rest ≤ m → length rest ≤ n → cuts m width rest ≡ cuts n width rest
unfolding cuts
enough zero n width rest w hm hn = sym (short n width rest (omega arith))
enough (suc m) zero width rest w hm hn = short (suc m) width rest (omega arith)
enough (suc m) (suc n) width rest w hm hn =
    rw (enough m n later (drop (cut width rest) rest) (omega arith) (less m width rest w hm) (less n width rest w hn))

-- what is left of a line by its remainder, or by a cut and what is left then
pub rest_short : (width : ℕ) (rest : List ℕ) → length rest ≤ first → pieces_of width rest ≡ rest ∷ []
rest_short width rest h = short (length rest) width rest h

pub rest_long : (width : ℕ) (rest : List ℕ) → 1 < width → first < length rest
    → pieces_of width rest ≡ take (cut width rest) rest ∷ pieces_of later (drop (cut width rest) rest)
rest_long width rest w h = by (length rest) refl
  where
    by : (n : ℕ) → length rest ≡ n → cuts n width rest ≡ take (cut width rest) rest ∷ pieces_of later (drop (cut width rest) rest)
    by zero e = absurd (omega arith)
    by (suc n) e =
        long n width rest h
        ∙ rw (enough n (length (drop (cut width rest) rest)) later (drop (cut width rest) rest) (omega arith) (less n width rest w (omega arith)) (omega arith))

-- a list of pieces is never empty, so that a break stands before what is left
broken_cuts : (n width : ℕ) (rest : List ℕ) → behind_breaks (cuts n width rest) ≡ brk ++ joined (cuts n width rest)
unfolding cuts behind_breaks
broken_cuts zero width rest = refl
broken_cuts (suc n) width rest = by (leb (length rest) first)
  where
    by : (t : Bool) → behind_breaks (pick t (rest ∷ []) (take (cut width rest) rest ∷ cuts n later (drop (cut width rest) rest)))
        ≡ brk ++ joined (pick t (rest ∷ []) (take (cut width rest) rest ∷ cuts n later (drop (cut width rest) rest)))
    by true = refl
    by false = refl

pub join_short : (width : ℕ) (rest : List ℕ) → length rest ≤ first → joined (pieces_of width rest) ≡ rest
unfolding behind_breaks
join_short width rest h = rw (rest_short width rest h) (append-nil rest)

pub join_long : (width : ℕ) (rest : List ℕ) → 1 < width → first < length rest
    → joined (pieces_of width rest) ≡ take (cut width rest) rest ++ (brk ++ joined (pieces_of later (drop (cut width rest) rest)))
join_long width rest w h =
    rw (rest_long width rest w h, broken_cuts (length (drop (cut width rest) rest)) later (drop (cut width rest) rest))

-- a line of at most 75 bytes is itself
pub repository_short : (line : List ℕ) → length line ≤ first → repository line ≡ line
repository_short line h = join_short first line h

-- a byte has a break in front of it at most
cuts_length : (n width : ℕ) (rest : List ℕ) → 1 < width → length (joined (cuts n width rest)) ≤ 4 * length rest
unfolding cuts behind_breaks
cuts_length zero width rest w = rw append-nil (omega arith)
cuts_length (suc n) width rest w = by (leb (length rest) first) refl (cuts_length n later (drop (cut width rest) rest) (omega arith))
  where
    c : ℕ
    c = cut width rest

    by : (t : Bool) → leb (length rest) first ≡ t → length (joined (cuts n later (drop c rest))) ≤ 4 * length (drop c rest)
        → length (joined (pick t (rest ∷ []) (take c rest ∷ cuts n later (drop c rest)))) ≤ 4 * length rest
    by true e h = rw append-nil (omega arith)
    by false e h =
        rw (broken_cuts n later (drop c rest))
        (omega (arith, length-append (take c rest) (brk ++ joined (cuts n later (drop c rest))), length-take c rest, length-drop c rest, cut_some width rest w, leb-false (length rest) first e))

pub repository_length : (line : List ℕ) → length (repository line) ≤ 4 * length line
repository_length line = cuts_length (length line) first line (omega arith)

-- ---- by its pieces

cuts_flatten : (n width : ℕ) (rest : List ℕ) → flatten (cuts n width rest) ≡ rest
unfolding cuts flatten
cuts_flatten zero width rest = append-nil rest
cuts_flatten (suc n) width rest = by (leb (length rest) first) (cuts_flatten n later (drop (cut width rest) rest))
  where
    by : (t : Bool) → flatten (cuts n later (drop (cut width rest) rest)) ≡ drop (cut width rest) rest
        → flatten (pick t (rest ∷ []) (take (cut width rest) rest ∷ cuts n later (drop (cut width rest) rest))) ≡ rest
    by true e = append-nil rest
    by false e = rw e (take-append-drop (cut width rest) rest)

pub repository_joins : (line : List ℕ) → repository line ≡ joined (repository_pieces line)
repository_joins line = refl

pub repository_keeps : (line : List ℕ) → flatten (repository_pieces line) ≡ line
repository_keeps line = cuts_flatten (length line) first line

-- ---- at work on a line: what is laid, and what is left of it to come

pub record Cutting (old out line : List ℕ) (width : ℕ) (rest : List ℕ) (n : ℕ) : Type 0 where
  pub wide : 1 < width
  pub narrow : width ≤ first
  pub writing : Writing 0 old (repository line) out (joined (pieces_of width rest)) n

pub begin : (old line : List ℕ) → Cutting old old line first line 0
begin old line = record { wide = omega arith; narrow = omega arith; writing = start 0 old (repository line) }

module _ {old out line : List ℕ} {width : ℕ} {rest : List ℕ} {n : ℕ} (f : Cutting old out line width rest n) where
  -- a piece is cut off, and a break laid behind it
  pub turn : first < length rest → length old ≤ most → {next : List ℕ} {m : ℕ}
      → Lays n (take (cut width rest) rest ++ brk) out next m → Cutting old next line later (drop (cut width rest) rest) m
  turn h b p =
      let k = cut width rest in
      record {
        wide = omega arith;
        narrow = omega arith;
        writing = more f.writing b (take k rest ++ brk) (joined (pieces_of later (drop k rest)))
            (join_long width rest f.wide h ∙ sym (append_assoc (take k rest) brk (joined (pieces_of later (drop k rest))))) p;
      }

  -- the remainder is one piece
  pub finish : length rest ≤ first → {next : List ℕ} {m : ℕ} → Lays n rest out next m → Lays 0 (repository line) old next m
  finish h p = end f.writing (from_as (sym (join_short width rest h)) p)
