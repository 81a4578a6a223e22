-- Tables that a walk goes through, a component row that it stands at, and where the children of that end. Assumes nothing.
use mathlib.Core.Path.{◌≡◌, refl, sym, ap, ◌∙◌}
use mathlib.Core.Bool.{Bool, true, false}
use mathlib.Core.List.{List, []}
use Prim.Native.Nat.{ℕ, ◌/◌, ◌≤◌, ◌<◌}
use native.Mathlib.Omega.{arith}
use lib.ListN.{length}
use lib.Dec.{eqb}
use borrow.Author.Tests.{eqb-false}
use Rattle.octets.specs.Choice.{pick}
use Rattle.octets.specs.Views.{viewed}
use Rattle.tables.specs.Rows.{component_size, component_at}
use Rattle.tables.specs.Lent.{Lent, components_in, properties_in, parameters_in, broken_in, name_in, held}
use Rattle.tables.specs.declared.ComponentRow.{ComponentRow}
use Rattle.std.specs.Prelude.{None}
use Rattle.tables.proofs.Rule.{meets}
use Rattle.tables.proofs.Laws.{length_rows, get_d_tabulate}
use Rattle.walking.specs.Places.{Ruled}
use Rattle.walking.specs.declared.Walk.{Walk}
use Rattle.walking.proofs.Found.{rule_rises}

-- tables without a broken row are as a walk wants them
pub ruled : (b : Lent) → broken_in b ≡ None → Ruled b
ruled b e =
    let m = meets (length b.text) (components_in b.components) (properties_in b.properties) (parameters_in b.parameters) e in
    record {
      components = m.components_fit;
      parameters = record { rise = rule_rises _ _ _ 0 (parameters_in b.parameters) m.parameters_fit };
    }

-- and so are those of a walk
pub walk_ruled : (w : Walk) → Ruled (held w.tables)
walk_ruled w = record { components = w.nested; parameters = record { rise = w.rising } }

-- a row that is there
pub row_there : (words : List ℕ) (row : ℕ) → row < length (components_in words) → row < length words / component_size
row_there words row h = omega (arith, length_rows component_size component_at words)

-- the name of a row as it is read
pub name_is : (text words : List ℕ) (row : ℕ) {c : ComponentRow} → row < length (components_in words) → c ≡ component_at words row
    → viewed text c.name_start c.name_len ≡ name_in text (components_in words) row
name_is text words row {c} h e =
    ap (λ (c : ComponentRow). viewed text c.name_start c.name_len)
    (e ∙ sym (get_d_tabulate (length words / component_size) (component_at words) row (component_at [] 0) (row_there words row h)))

-- where the children end: at once below the last level, else with the subtree
module _ (first end : ℕ) where
  abbrev end_at : ℕ → ℕ
  end_at level = pick (eqb level 0) first end

  pub end_after : (level : ℕ) → first ≤ end → first ≤ end_at level
  end_after level h = go (eqb level 0)
    where
      go : (t : Bool) → first ≤ pick t first end
      go true = omega arith
      go false = h

  pub end_before : (level : ℕ) → first ≤ end → end_at level ≤ end
  end_before level h = go (eqb level 0)
    where
      go : (t : Bool) → pick t first end ≤ end
      go true = h
      go false = omega arith

  pub some_level : (level child : ℕ) {last : ℕ} → last ≡ end_at level → first ≤ child → child < last → (0 < level) × (last ≡ end)
  some_level level child {last} e h l = go (eqb level 0) refl e
    where
      go : (t : Bool) → eqb level 0 ≡ t → last ≡ pick t first end → (0 < level) × (last ≡ end)
      go true t e = absurd (omega arith)
      go false t e = (omega (arith, eqb-false level 0 t), e)
