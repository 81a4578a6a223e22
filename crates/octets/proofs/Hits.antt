-- A test at each place of a block, kept in a byte: 1 once a run has ended before the place that is reached. Assumes nothing.
use mathlib.Core.Path.{◌≡◌, refl, sym, ap, ◌∙◌}
use mathlib.Core.Bool.{Bool, true, false, not}
use mathlib.Core.List.{List}
use Prim.Native.Nat.{ℕ, ◌+◌, ◌≤◌, ◌<◌}
use native.Mathlib.Omega.{arith}
use mir.Val.{bool_byte}
use lib.Bits.{bit_or, or_zero_l}
use lib.ListN.{length, get_or, take, drop}
use Rattle.std.proofs.lemmas.List.{get_or-take, get_or-drop}
use lib.Dec.{ltb, eqb}
use borrow.Author.Tests.{ltb-true, ltb-false, lt-ltb, le-ltb}
use Rattle.octets.specs.Bytes.{other}
use Rattle.octets.specs.Runs.{run}
use Rattle.octets.proofs.Runs.{on, stop, passed}

-- the next place: where the run goes that far, the test says whether it ends there
pub onward : (run j : ℕ) (t : Bool) → (j ≤ run → t ≡ ltb run (j + 1)) → bit_or (bool_byte (ltb run j)) (bool_byte t) ≡ bool_byte (ltb run (j + 1))
onward run j t e = go (ltb run j) refl
  where
    one : (t : Bool) → bit_or 1 (bool_byte t) ≡ 1
    one true = refl
    one false = refl

    go : (u : Bool) → ltb run j ≡ u → bit_or (bool_byte u) (bool_byte t) ≡ bool_byte (ltb run (j + 1))
    go true p = rw (lt-ltb run (j + 1) (omega (arith, ltb-true run j p))) (one t)
    go false p = or_zero_l (bool_byte t) ∙ ap bool_byte (e (ltb-false run j p))

-- a run that goes as far as j ends there exactly where the test t says that the byte is of another class
pub ends : (class : ℕ → Bool) (a : List ℕ) (at j : ℕ) (t : Bool) → class (get_or a (at + j) 0) ≡ not t → at + j < length a → j ≤ run class (drop at a)
    → t ≡ ltb (run class (drop at a)) (j + 1)
ends class a at j true e h k =
    sym (lt-ltb (run class (drop at a)) (j + 1) (omega (arith, passed class a at j k, stop class a (at + j) h e)))
ends class a at j false e h k =
    sym (le-ltb (run class (drop at a)) (j + 1) (omega (arith, passed class a at j k, on class a (at + j) h e)))

-- of the n bytes from `at` on the one at j is asked for, too
pub hit_more : (b : ℕ) (a : List ℕ) (at n j : ℕ) → at + n ≤ length a → j < n → {hit : ℕ} → hit ≡ bool_byte (ltb (run (other b) (drop at a)) j)
    → bit_or hit (bool_byte (eqb (get_or (take n (drop at a)) j 0) b)) ≡ bool_byte (ltb (run (other b) (drop at a)) (j + 1))
hit_more b a at n j h k e =
    let t = eqb (get_or a (at + j) 0) b in
    rw (e, get_or-take n (drop at a) j 0 k, get_or-drop at a j 0)
    (onward (run (other b) (drop at a)) j t (ends (other b) a at j t refl (omega arith)))
