-- Tables that are all zero: what was there is known, and can be put back. Assumes nothing.
use mathlib.Core.Path.{◌≡◌, refl, sym, ap, ap₂, ◌∙◌}
use mathlib.Core.Bool.{Bool, true, false, not, not-not}
use mathlib.Core.List.{List, [], ◌∷◌}
use Prim.Native.Nat.{ℕ, ◌+◌, ◌≤◌, ◌<◌}
use native.Mathlib.Omega.{arith}
use mir.Val.{bool_byte}
use lib.ListN.{length, get_or, replicate}
use lib.Dec.{eqb, ltb}
use borrow.Author.Tests.{le-leb, lt-leb, leb-true, eqb-true, ltb-true, ltb-false}
use lib.Bits.{bit_or}
use Rattle.octets.specs.Runs.{run, only}
use Rattle.octets.proofs.Hits.{onward, ends}
use Rattle.tables.specs.Lent.{Lent, lent}
use Rattle.reading.specs.NewTables.{is_zero}

zeros_run : (table : List ℕ) → length table ≤ run is_zero table → table ≡ replicate (length table) 0
unfolding run
zeros_run [] h = refl
zeros_run (w ∷ ws) h = go (eqb w 0) refl (λ k. zeros_run ws k)
  where
    go : (t : Bool) → eqb w 0 ≡ t → (length ws ≤ run is_zero ws → ws ≡ replicate (length ws) 0) → w ∷ ws ≡ replicate (length (w ∷ ws)) 0
    go true e rest = ap₂ (λ (x : ℕ) (xs : List ℕ). x ∷ xs) (eqb-true w 0 e) (rest (omega (arith, rw e at h)))
    go false e rest = absurd (omega (arith, rw e at h))

all_zeros : (table : List ℕ) → only is_zero table ≡ true → table ≡ replicate (length table) 0
all_zeros table e = zeros_run table (leb-true (length table) (run is_zero table) e)

-- a table that was all zero, and was made so again behind what stood there meanwhile
pub back : (old put : List ℕ) → only is_zero old ≡ true → length put ≡ length old → {new : List ℕ} → new ≡ replicate (length put) 0 → new ≡ old
back old put e n f = f ∙ ap (λ (k : ℕ). replicate k 0) n ∙ sym (all_zeros old e)

pub put_back : (b : Lent) {c p q : List ℕ} → c ≡ b.components → p ≡ b.properties → q ≡ b.parameters → lent b.text c p q ≡ b
put_back b e f g = rw (e, f, g)

-- the word at j is asked for, too
pub zero_more : (table : List ℕ) (j : ℕ) → j < length table → {hit : ℕ} → hit ≡ bool_byte (ltb (run is_zero table) j)
    → bit_or hit (bool_byte (not (eqb (get_or table j 0) 0))) ≡ bool_byte (ltb (run is_zero table) (j + 1))
zero_more table j h e =
    let t = not (eqb (get_or table j 0) 0) in
    let at : 0 + j ≡ j = omega arith in
    let same : is_zero (get_or table (0 + j) 0) ≡ not t = rw at (sym (not-not (is_zero (get_or table j 0)))) in
    rw e (onward (run is_zero table) j t (ends is_zero table 0 j t same (omega arith)))

-- no word that is not zero was hit
pub none_hit : (table : List ℕ) → eqb (bool_byte (ltb (run is_zero table) (length table))) 0 ≡ only is_zero table
none_hit table = go (ltb (run is_zero table) (length table)) refl
  where
    go : (t : Bool) → ltb (run is_zero table) (length table) ≡ t → eqb (bool_byte t) 0 ≡ only is_zero table
    go true e = sym (lt-leb (length table) (run is_zero table) (ltb-true _ _ e))
    go false e = sym (le-leb (length table) (run is_zero table) (ltb-false _ _ e))
