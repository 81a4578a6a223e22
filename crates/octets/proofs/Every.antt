-- A test that passes at every number below a bound, by one computation. Assumes nothing.
use mathlib.Core.Path.{◌≡◌, refl, sym, subst}
use mathlib.Core.Bool.{Bool, true, false}
use Prim.Native.Nat.{ℕ, zero, suc, ◌<◌}
use native.Mathlib.Nat.{not-suc-le-zero}
use native.Mathlib.Omega.{arith}
use lib.Dec.{eqb}
use borrow.Author.Tests.{eqb-true, eqb-false}
use Rattle.octets.specs.Choice.{pick}

abbrev pub all : (ℕ → Bool) → ℕ → Bool
all test zero = true
all test (suc n) = pick (test n) (all test n) false

every : (test : ℕ → Bool) (n : ℕ) → all test n ≡ true → (k : ℕ) → k < n → test k ≡ true
every test zero e k h = absurd (not-suc-le-zero h)
every test (suc n) e k h = go (test n) refl e (eqb k n) refl (every test n)
  where
    go : (t : Bool) → test n ≡ t → pick t (all test n) false ≡ true → (u : Bool) → eqb k n ≡ u
        → (all test n ≡ true → (j : ℕ) → j < n → test j ≡ true) → test k ≡ true
    go true p q true r rest = subst (λ (m : ℕ). test m ≡ true) (sym (eqb-true k n r)) p
    go true p q false r rest = rest q k (omega (arith, eqb-false k n r))
    go false p q u r rest = cc

pub equal : (f g : ℕ → ℕ) (n : ℕ) → all (λ (k : ℕ). eqb (f k) (g k)) n ≡ true → (k : ℕ) → k < n → f k ≡ g k
equal f g n e k h = eqb-true (f k) (g k) (every (λ (j : ℕ). eqb (f j) (g j)) n e k h)
