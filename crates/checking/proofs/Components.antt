-- The component rows, one after the other: those that were passed fit, and the last of them and its ancestors stand in the places of their
-- depths. Assumes nothing.
use mathlib.Core.Path.{◌≡◌}
use mathlib.Core.Bool.{true, false}
use mathlib.Core.List.{List, [], ◌∷◌, ◌++◌}
use Prim.Native.Nat.{ℕ, ◌+◌, ◌-◌, ◌/◌, ◌≤◌, ◌<◌}
use native.Mathlib.Nat.{zero-add, not-suc-le-zero}
use lib.ListN.{length, take}
use lib.Seq.{take-take, length-take-le}
use native.Mathlib.Omega.{arith}
use Rattle.tables.specs.Rows.{component_size, component_at}
use Rattle.tables.specs.TableRule.{component_fits, opens_after, broken_component}
use Rattle.tables.specs.Lent.{components_in}
use Rattle.tables.specs.declared.ComponentRow.{ComponentRow}
use Rattle.std.specs.Prelude.{Some, None}
use Rattle.checking.specs.Chains.{chain}
use Rattle.checking.proofs.Chains.{Standing, placed, opens_after_holds, standing}
use Rattle.checking.proofs.Passing.{Passed, start, fitting, breaking, end}

module _ (size : ℕ) (table : List ℕ) where
  pub record Reached (rows : List ℕ) (row : ℕ) : Type 0 where
    pub passed : Passed (component_fits size) opens_after component_size component_at table 0 [] row (chain rows (length rows))
    pub standing : Standing rows row

  pub nothing : Reached [] 0
  unfolding chain
  nothing =
      record {
        passed = start;
        standing =
            record { few = omega arith; below = λ i h. absurd (not-suc-le-zero h); rising = record { rise = λ i j a b. absurd (not-suc-le-zero b) } };
      }

  module _ {rows : List ℕ} {row : ℕ} (r : Reached rows row) where
    pub none : length table / component_size ≤ row → None ≡ broken_component size 0 [] (components_in table)
    none h = end r.passed h

    module _ (h : row < length table / component_size) (c : ComponentRow) (e : c ≡ component_at table row) where
      pub breaks : component_fits size (chain rows (length rows)) c ≡ false → Some row ≡ broken_component size 0 [] (components_in table)
      breaks t = rw zero-add at (breaking r.passed h e t)

      pub more : component_fits size (chain rows (length rows)) c ≡ true → Reached (take (c.depth - 1) rows ++ (row ∷ [])) (row + 1)
      more t =
          let p = placed rows (length rows) c size t in
          record {
            passed = rw (opens_after_holds rows row c r.standing p) (rw zero-add at (fitting r.passed h e t));
            standing = standing rows row c r.standing p;
          }

  -- a row that fits behind the first `depth` rows
  module _ (rows : List ℕ) (depth : ℕ) (l : depth ≤ length rows) (c : ComponentRow)
      (t : component_fits size (chain (take depth rows) (length (take depth rows))) c ≡ true) where
    near : c.depth - 1 ≤ depth
    near = let p = placed (take depth rows) (length (take depth rows)) c size t in omega (arith, p.within, length-take-le depth rows l)

    pub behind : c.depth - 1 ≤ length rows
    behind = omega (arith, near, l)

    pub onward : {row : ℕ} → Reached (take depth rows) row → row < length table / component_size → c ≡ component_at table row
        → Reached (take (c.depth - 1) rows ++ (row ∷ [])) (row + 1)
    onward r h e = rw (← take-take (c.depth - 1) depth rows near) (more r h c e t)
