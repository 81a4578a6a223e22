-- Serves laws only. Lists in another order, and lists compared one by one: with these, multisets have a second wording.
-- Assumes nothing.
use Rattle.std.specs.Prelude.{List, [], ◌∷◌, ◌++◌}

-- the same elements in another order: the first of the one stands anywhere in the other, and the rest is reordered
pub data Reordered {A : Type 0} : List A → List A → Type 0 where
  none_left : Reordered [] []
  put : (x : A) {xs : List A} (ys zs : List A) → Reordered xs (ys ++ zs) → Reordered (x ∷ xs) (ys ++ x ∷ zs)

-- each of the one is to the one that stands there in the other as is said
pub data OneByOne {A : Type 0} (so : A → A → Type 0) : List A → List A → Type 0 where
  both_end : OneByOne so [] []
  each : {x y : A} {xs ys : List A} → so x y → OneByOne so xs ys → OneByOne so (x ∷ xs) (y ∷ ys)
