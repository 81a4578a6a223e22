-- Laws of lists that every crate cites. Assumes nothing.
use mathlib.Core.Path.{◌≡◌}
use mathlib.Core.List.{List}
use Prim.Native.Nat.{ℕ, ◌-◌}
use native.Mathlib.Nat.{le_refl}
use lib.ListN.{length, take, drop, length-drop}
use lib.Seq.{take_all}

-- a slice from n to its end, as the code lends it, is what follows n
pub lent : {A : Type 0} (xs : List A) (n : ℕ) → take (length xs - n) (drop n xs) ≡ drop n xs
lent xs n = take_all (length xs - n) (drop n xs) (rw length-drop (le_refl (length xs - n)))
