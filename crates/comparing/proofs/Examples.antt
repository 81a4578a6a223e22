-- Worked cases of keys, parameters, multisets and runs, by hand. Assumes nothing.
use mathlib.Core.Path.{◌≡◌, refl}
use mathlib.Core.Bool.{true, false}
use mathlib.Core.List.{List, [], ◌∷◌, ◌++◌, map}
use Prim.Native.Nat.{ℕ}
use lib.Dec.{eqb}
use Rattle.octets.specs.Words.{same_bytes}
use Rattle.octets.specs.Literals.{bytes}
use Rattle.tables.specs.Rows.{tabulate}
use Rattle.tables.specs.Trees.{Parameter, absent, present}
use Rattle.comparing.specs.Multisets.{many_of, as_often, same_multiset}
use Rattle.comparing.specs.Pieces.{same_key, same_parameter}
use Rattle.comparing.specs.Runs.{settled, agreeing_front, without_agreeing_back}

-- letters in any case; no other bytes, though they are 32 apart as letters are; and no longer key
keys : same_key (bytes "dtstart") (bytes "DTSTART") ∷ same_key (bytes "Az") (bytes "aZ") ∷ same_key (bytes "@[") (bytes "`{") ∷ same_key (bytes "K") (bytes "kk") ∷ []
    ≡ true ∷ true ∷ false ∷ false ∷ []
unfolding bytes same_bytes
keys = refl

-- values have their case, and one that is absent is not like an empty one
abbrev one : List ℕ → List ℕ → Parameter
one key value = record { key = key; value = present value }

abbrev bare : List ℕ → Parameter
bare key = record { key = key; value = absent }

parameters : same_parameter (one (bytes "CN") (bytes "x")) (one (bytes "cn") (bytes "x")) ∷ same_parameter (one (bytes "CN") (bytes "x")) (one (bytes "CN") (bytes "X"))
    ∷ same_parameter (one (bytes "CN") []) (bare (bytes "CN")) ∷ same_parameter (bare (bytes "CN")) (bare (bytes "cn")) ∷ []
    ≡ true ∷ false ∷ false ∷ true ∷ []
unfolding bytes same_bytes
parameters = refl

-- 1, 2 and 3 against each order of them
orders : map (same_multiset eqb (1 ∷ 2 ∷ 3 ∷ []))
    ((1 ∷ 2 ∷ 3 ∷ []) ∷ (1 ∷ 3 ∷ 2 ∷ []) ∷ (2 ∷ 1 ∷ 3 ∷ []) ∷ (2 ∷ 3 ∷ 1 ∷ []) ∷ (3 ∷ 1 ∷ 2 ∷ []) ∷ (3 ∷ 2 ∷ 1 ∷ []) ∷ [])
    ≡ true ∷ true ∷ true ∷ true ∷ true ∷ true ∷ []
unfolding many_of as_often
orders = refl

-- twice is not once, in either direction; nor are one of each and one twice
others : same_multiset eqb (1 ∷ 1 ∷ []) (1 ∷ []) ∷ same_multiset eqb (1 ∷ []) (1 ∷ 1 ∷ []) ∷ same_multiset eqb (1 ∷ 2 ∷ []) (2 ∷ 2 ∷ [])
    ∷ same_multiset eqb (2 ∷ 2 ∷ []) (1 ∷ 2 ∷ []) ∷ same_multiset eqb [] (1 ∷ []) ∷ same_multiset eqb (1 ∷ []) [] ∷ same_multiset eqb [] [] ∷ []
    ≡ false ∷ false ∷ false ∷ false ∷ false ∷ false ∷ true ∷ []
unfolding many_of as_often
others = refl

-- rows with the keys x, x, y and x, y, y: the second run has no row for the second x of the first; the first rows agree, and so do the last
abbrev x_row : List ℕ
x_row = 0 ∷ 0 ∷ 1 ∷ 0 ∷ 0 ∷ 0 ∷ []

abbrev y_row : List ℕ
y_row = 0 ∷ 1 ∷ 1 ∷ 0 ∷ 0 ∷ 0 ∷ []

abbrev table : List ℕ
table = x_row ++ (x_row ++ (y_row ++ (x_row ++ (y_row ++ y_row))))

runs : (map (settled (bytes "xy") table 0 3 3) (0 ∷ 1 ∷ 2 ∷ []) ≡ true ∷ false ∷ true ∷ [])
    × (agreeing_front (bytes "xy") table 0 3 3 ≡ 1) × (without_agreeing_back (bytes "xy") table 0 3 3 ≡ 2)
unfolding bytes same_bytes tabulate many_of agreeing_front without_agreeing_back
runs = (refl, refl, refl)
