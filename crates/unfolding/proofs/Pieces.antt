-- Where a piece ends, by the first fold from i on: at the feed's end, or before the break that goes. Assumes nothing.
use mathlib.Core.Path.{◌≡◌, refl, ap, ◌∙◌}
use mathlib.Core.Bool.{true, false, ◌&&◌, and-false}
use mathlib.Core.List.{List, [], ◌∷◌, ◌++◌}
use Prim.Native.Nat.{ℕ, zero, suc, ◌+◌, ◌-◌, ◌≤◌, ◌<◌}
use native.Mathlib.Omega.{arith}
use lib.ListN.{length, get_or, take, drop, length-drop, drop_of_length-le}
use lib.Seq.{drop-cons, drop-drop, get_or-drop, take-suc}
use lib.Dec.{eqb}
use borrow.Author.Tests.{ne_eqb}
use Rattle.octets.specs.Bytes.{blank, cr, lf}
use Rattle.unfolding.specs.Unfold.{unfolded}
use Rattle.unfolding.specs.Folds.{to_fold}
use Rattle.unfolding.specs.Parts.{Stays}
use Rattle.unfolding.proofs.Folds.{breaks, within, stopped, shape}
use Rattle.unfolding.proofs.Laws.{last_of, stays, break_goes, cr_break_goes}

last_snoc : (p : ℕ) (xs : List ℕ) (y : ℕ) → last_of p (xs ++ y ∷ []) ≡ y
last_snoc p [] y = refl
last_snoc p (x ∷ xs) y = last_snoc x xs y

-- a part's last byte
last_is : (xs : List ℕ) (i n : ℕ) → i + n < length xs → last_of 0 (take (suc n) (drop i xs)) ≡ get_or xs (i + n) 0
last_is xs i n h =
    rw (take-suc (drop i xs) n 0 (omega (arith, length-drop i xs))) (last_snoc 0 (take n (drop i xs)) (get_or (drop i xs) n 0) ∙ get_or-drop i xs n 0)

module _ (feed : List ℕ) (i e : ℕ) (inside : i < length feed) (found : e ≡ i + to_fold (drop i feed)) where
  e_within : e ≤ length feed
  e_within = omega (arith, within (drop i feed), length-drop i feed)

  -- the bytes up to n, at the fold or before it, stay, unless the last is a CR that goes with the break
  before : (n : ℕ) → i ≤ n → n ≤ e → eqb (last_of 0 (take (n - i) (drop i feed))) cr && breaks (drop n feed) ≡ false
      → unfolded (drop i feed) ≡ take (n - i) (drop i feed) ++ unfolded (drop n feed)
  before n h k c =
      let s : i + (n - i) ≡ n = omega arith in
      let d : drop (n - i) (drop i feed) ≡ drop n feed = drop-drop (n - i) i feed ∙ rw s in
      stays (n - i) (drop i feed) (omega arith) (rw d c) ∙ rw d

  -- no fold is left
  pub at_end : e ≡ length feed → Stays feed i (record { end = e; next = e })
  at_end h =
      record {
        begins = omega arith;
        ends = omega arith;
        moves = omega arith;
        within = omega arith;
        is = before e (omega arith) (omega arith) (rw (drop_of_length-le feed {i = e} (omega arith)) (and-false (eqb (last_of 0 (take (e - i) (drop i feed))) cr)));
      }

  module _ (more : e ≡ length feed → ⊥) where
    below : e < length feed
    below = omega (arith, e_within)

    fold : (b : ℕ) × ((drop e feed ≡ lf ∷ b ∷ drop 2 (drop e feed)) × (blank b ≡ true))
    fold = shape (drop e feed) (rw (drop-drop, ← found) at (stopped (drop i feed) (omega (arith, below, length-drop i feed))))

    pub behind : e + 2 ≤ length feed
    behind = omega (arith, length-drop e feed, ap length fold.1.0)

    cr_at : i < e → get_or feed (e - 1) 0 ≡ cr → drop (e - 1) feed ≡ cr ∷ drop e feed
    cr_at k q =
        let s : suc (e - 1) ≡ e = omega arith in
        rw (s, q) at (drop-cons feed (e - 1) 0 (omega (arith, below)))

    -- the break goes, and a CR with it
    pub with_cr : i < e → get_or feed (e - 1) 0 ≡ cr → Stays feed i (record { end = e - 1; next = e + 2 })
    with_cr k q =
        record {
          begins = omega arith;
          ends = omega arith;
          moves = omega arith;
          within = behind;
          is =
              before (e - 1) (omega arith) (omega arith) (rw (cr_at k q) (and-false (eqb (last_of 0 (take (e - 1 - i) (drop i feed))) cr)))
              ∙ ap (◌++◌ (take (e - 1 - i) (drop i feed)))
              (ap unfolded (cr_at k q ∙ ap (◌∷◌ cr) fold.1.0) ∙ cr_break_goes 0 fold.0 (drop 2 (drop e feed)) fold.1.1 ∙ ap unfolded (drop-drop 2 e feed));
        }

    no_cr : (d : ℕ) → d ≡ e - i → (i < e → get_or feed (e - 1) 0 ≡ cr → ⊥) → eqb (last_of 0 (take d (drop i feed))) cr ≡ false
    no_cr zero h q = refl
    no_cr (suc n) h q =
        let s : i + n ≡ e - 1 = omega arith in
        rw (last_is feed i n (omega (arith, below)), s) (ne_eqb (get_or feed (e - 1) 0) cr (q (omega arith)))

    -- the break goes, with no CR before it
    pub without_cr : (i < e → get_or feed (e - 1) 0 ≡ cr → ⊥) → Stays feed i (record { end = e; next = e + 2 })
    without_cr q =
        record {
          begins = omega arith;
          ends = omega arith;
          moves = omega arith;
          within = behind;
          is =
              before e (omega arith) (omega arith) (rw (no_cr (e - i) refl q))
              ∙ ap (◌++◌ (take (e - i) (drop i feed)))
              (ap unfolded fold.1.0 ∙ break_goes fold.0 (drop 2 (drop e feed)) fold.1.1 ∙ ap unfolded (drop-drop 2 e feed));
        }
