-- The pieces are compared by equivalences, and keys in lower case stay as they are. Assumes nothing.
use mathlib.Core.Path.{◌≡◌, refl, ap}
use mathlib.Core.Bool.{Bool, true, false, and-false}
use mathlib.Core.List.{List, [], ◌∷◌, map}
use Prim.Native.Nat.{ℕ, ◌+◌}
use native.Mathlib.Omega.{arith}
use lib.Dec.{leb}
use borrow.Author.Tests.{leb-true, lt-leb}
use Rattle.octets.specs.Bytes.{capital, lowered}
use Rattle.octets.specs.Choice.{pick}
use Rattle.octets.proofs.Bools.{both}
use Rattle.octets.proofs.Words.{same_eq, same_refl}
use Rattle.tables.specs.Trees.{Value, absent, present, Parameter}
use Rattle.comparing.specs.Pieces.{same_key, same_held, same_parameter, same_parameters}
use Rattle.comparing.proofs.Equivalences.{Equivalence, of_equals, of_bytes, of_parts, of_both}
use Rattle.comparing.proofs.Multisets.{of_multisets}

-- a letter in lower case stays as it is
lowered_twice : (x : ℕ) → lowered (lowered x) ≡ lowered x
lowered_twice x = go (capital x) refl
  where
    go : (t : Bool) → capital x ≡ t → lowered (pick t (x + 32) x) ≡ pick t (x + 32) x
    go true e = rw (lt-leb (x + 32) 90 (omega (arith, leb-true 65 x (both (leb 65 x) (leb x 90) e).0)), and-false)
    go false e = rw e

-- and so does a key
pub key_lowered_twice : (k : List ℕ) → map lowered (map lowered k) ≡ map lowered k
key_lowered_twice [] = refl
key_lowered_twice (x ∷ xs) = cc (lowered_twice x, key_lowered_twice xs)

pub of_keys : Equivalence same_key
of_keys = of_parts (map lowered) of_bytes

pub held_passes : (v : Value) → same_held v v ≡ true
held_passes absent = refl
held_passes (present v) = same_refl v

pub held_equal : (v w : Value) → same_held v w ≡ true → v ≡ w
held_equal absent absent e = refl
held_equal absent (present w) e = cc
held_equal (present v) absent e = cc
held_equal (present v) (present w) e = ap present (same_eq v w e)

pub of_parameter : Equivalence same_parameter
of_parameter = of_both (of_parts (λ (p : Parameter). p.key) of_keys) (of_parts (λ (p : Parameter). p.value) (of_equals held_passes held_equal))

pub of_parameters : Equivalence same_parameters
of_parameters = of_multisets of_parameter
