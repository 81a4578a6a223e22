-- A blank is no LF. Assumes nothing.
use mathlib.Core.Path.{◌≡◌, refl}
use mathlib.Core.Bool.{Bool, true, false}
use Prim.Native.Nat.{ℕ}
use lib.Dec.{eqb}
use borrow.Author.Tests.{eqb-true}
use Rattle.octets.specs.Bytes.{blank, lf, space, tab}

pub blank_no_lf : (x : ℕ) → blank x ≡ true → eqb x lf ≡ false
blank_no_lf x e = go (eqb x space) refl
  where
    go : (t : Bool) → eqb x space ≡ t → eqb x lf ≡ false
    go true h = rw (eqb-true x space h)
    go false h = rw (eqb-true x tab (rw h at e))
