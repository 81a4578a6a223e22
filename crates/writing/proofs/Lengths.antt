-- How long what tables are written as is: the lines of all component rows and those of all property rows, whichever trees they stand in.
-- Assumes nothing.
use mathlib.Core.Path.{◌≡◌, refl, ap, ◌∙◌}
use mathlib.Core.List.{List, [], ◌∷◌, ◌++◌}
use Prim.Native.Nat.{ℕ, ◌+◌, ◌≤◌, ◌<◌, ◌/◌}
use native.Mathlib.Nat.{zero-add}
use native.Mathlib.Omega.{arith}
use lib.ListN.{length, get_or, length-append}
use Rattle.octets.specs.Laid.{most, counted}
use Rattle.tables.specs.Rows.{property_size, property_at}
use Rattle.tables.specs.Lent.{Lent, components_in, properties_in, parameters_in, broken_in}
use Rattle.tables.specs.Trees.{Property, Trees, property_of, properties_of}
use Rattle.tables.specs.declared.PropertyRow.{PropertyRow}
use Rattle.std.specs.Prelude.{None}
use Rattle.tables.proofs.Rule.{meets}
use Rattle.tables.proofs.Laws.{length_rows, get_d_tabulate}
use Rattle.walking.specs.Walk.{owned_by}
use Rattle.walking.specs.Totals.{total}
use Rattle.walking.proofs.Sums.{total_next, total_sum, total_same, weight_in, nothing_lost, gathered}
use Rattle.walking.proofs.Sizes.{Weighs, all_weigh, owners_there}
use Rattle.printing.specs.Lines.{closed_line, begin_line, end_line, property_line, property_lines, written}
use Rattle.writing.specs.Answers.{written_in}
use Rattle.writing.specs.Lengths.{mark_lengths, marks_length, line_length}

-- the bytes of a tree: its two marks, its properties, its children, and the trees behind it
by_bytes : Weighs (λ (ts : Trees). length (written ts)) (λ name properties. mark_lengths name + length (property_lines properties))
unfolding written
by_bytes =
    record {
      nothing = refl;
      first =
          λ name properties children rest.
          let b = closed_line (begin_line name) in
          let p = property_lines properties in
          let e = closed_line (end_line name) in
          omega (
            arith,
            length-append b (p ++ (written children ++ (e ++ written rest))),
            length-append p (written children ++ (e ++ written rest)),
            length-append (written children) (e ++ written rest),
            length-append e (written rest),
          );
    }

module _ (b : Lent) where
  abbrev line_of : ℕ → ℕ
  line_of = line_length b

  -- the lines of a component's properties weigh what its rows weigh
  its_lines : (component : ℕ) → length (property_lines (properties_of b.text (properties_in b.properties) (parameters_in b.parameters) component))
      ≡ weight_in (owned_by component) line_of 0 (properties_in b.properties)
  unfolding property_lines
  its_lines component =
      gathered (λ (p : PropertyRow). p.owner) line_of (λ row p rest. property_of b.text (parameters_in b.parameters) row p ∷ rest) []
      (λ (ps : List Property). length (property_lines ps)) refl component 0 (properties_in b.properties) each
    where
      each : (i : ℕ) (d : PropertyRow) (rest : List Property) → i < length (properties_in b.properties)
          → length (property_lines (property_of b.text (parameters_in b.parameters) (0 + i) (get_or (properties_in b.properties) i d) ∷ rest))
          ≡ line_of (0 + i) + length (property_lines rest)
      each i d rest h =
          let n : i < length b.properties / property_size = omega (arith, length_rows property_size property_at b.properties) in
          rw (zero-add i, get_d_tabulate (length b.properties / property_size) (property_at b.properties) i d n)
          (length-append (closed_line (property_line (property_of b.text (parameters_in b.parameters) i (property_at b.properties i)))) (property_lines rest))

  -- so the trees are as long as all rows together
  pub rows_long : broken_in b ≡ None
      → length (written_in b)
      ≡ total (marks_length b) 0 (length (components_in b.components))
      + total (line_length b) 0 (length (properties_in b.properties))
  rows_long fits =
      let m = meets (length b.text) (components_in b.components) (properties_in b.properties) (parameters_in b.parameters) fits in
      let n = length (components_in b.components) in
      all_weigh by_bytes b.text (components_in b.components) (properties_in b.properties) (parameters_in b.parameters) (length b.text) m.components_fit
      ∙ (total_sum (marks_length b) _ 0 n
      ∙ ap (λ (k : ℕ). total (marks_length b) 0 n + k)
      (total_same _ (λ (row : ℕ). weight_in (owned_by row) line_of 0 (properties_in b.properties)) its_lines 0 n
      ∙ nothing_lost (λ (p : PropertyRow). p.owner) line_of n (properties_in b.properties) (owners_there _ _ _ (properties_in b.properties) m.properties_fit)))

-- ---- a count row by row

module _ (weight : ℕ → ℕ) (from : ℕ) where
  -- the first rows are counted on from `from`
  abbrev pub Counts : ℕ → ℕ → Type 0
  Counts at row = at ≡ counted (from + total weight 0 row)

  pub no_row : from ≤ most → Counts from 0
  unfolding total
  no_row h = omega arith

  pub one_row : (row : ℕ) {at next : ℕ} → Counts at row → next ≡ counted (at + weight row) → Counts next (row + 1)
  one_row row c e = omega (arith, total_next weight row)
