-- What a test of two parts says of each. Assumes nothing.
use mathlib.Core.Path.{◌≡◌, refl, sym}
use mathlib.Core.Bool.{Bool, true, false, ◌&&◌, ◌||◌, false≢true}

pub both : (a b : Bool) → a && b ≡ true → (a ≡ true) × (b ≡ true)
both true b e = (refl, e)
both false b e = (cc, cc)

pub either : {so : Type 0} (a b : Bool) → (a ≡ true → so) → (b ≡ true → so) → a || b ≡ true → so
either true b one other e = one refl
either false b one other e = other e

pub neither : (a : Bool) {b : Bool} → a || b ≡ false → (a ≡ false) × (b ≡ false)
neither true e = absurd (false≢true (sym e))
neither false e = (refl, e)
