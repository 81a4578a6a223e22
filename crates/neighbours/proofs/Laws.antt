-- What is counted: the children of the tree that the twin test compares, and examples of the count. Assumes nothing.
use mathlib.Core.Path.{◌≡◌, refl, sym}
use mathlib.Core.List.{List, [], ◌∷◌, map}
use Prim.Native.Nat.{ℕ, ◌<◌}
use native.Mathlib.Omega.{arith}
use lib.ListN.{length}
use Rattle.octets.specs.Words.{same_bytes}
use Rattle.tables.specs.Trees.{Trees, none, tree, properties_of}
use Rattle.tables.specs.Lent.{Lent, tree_in, name_in, broken_in}
use Rattle.std.specs.Prelude.{None}
use Rattle.tables.proofs.Levels.{tree_enough}
use Rattle.tables.proofs.Nested.{rows_nested}
use Rattle.walking.proofs.Along.{comps, props, params}
use Rattle.walking.proofs.Rows.{ruled}
use Rattle.matching.specs.Alike.{same_trees_by, alike}
use Rattle.twins.specs.Answers.{levels}
use Rattle.neighbours.specs.Counts.{repeats, children_in}

-- the tree of a row has the children that are counted: one level more adds nothing
pub tree_has : (b : Lent) (row : ℕ) → broken_in b ≡ None → row < length (comps b)
    → tree_in b levels row ≡ tree (name_in b.text (comps b) row) (properties_of b.text (props b) (params b) row) (children_in b row) none
tree_has b row sound h =
    let fits = (ruled b sound).components in
    sym (tree_enough b.text (comps b) (props b) (params b) (length b.text) fits levels 1 row h
    (omega (arith, (rows_nested (comps b) (length b.text) fits row h).some)))

-- ---- examples: trees that are a name alone

unfoldable named : List ℕ → Trees
named [] = none
named (x ∷ xs) = tree (x ∷ []) [] none (named xs)

-- none, one, two alike, three alike, two that differ, and the first like the third
counts : map (λ (names : List ℕ). repeats none (named names)) ([] ∷ (7 ∷ []) ∷ (7 ∷ 7 ∷ []) ∷ (7 ∷ 7 ∷ 7 ∷ []) ∷ (7 ∷ 8 ∷ []) ∷ (7 ∷ 8 ∷ 7 ∷ []) ∷ [])
    ≡ 0 ∷ 0 ∷ 1 ∷ 2 ∷ 0 ∷ 0 ∷ []
unfolding repeats same_trees_by alike same_bytes named
counts = refl
