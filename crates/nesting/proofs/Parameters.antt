-- The rows of the parameters of a line, one after the other. Assumes nothing.
use mathlib.Core.Path.{◌≡◌, sym, ap, ◌∙◌}
use mathlib.Core.List.{List, [], ◌∷◌, map}
use Prim.Native.Nat.{ℕ, ◌+◌, ◌≤◌}
use native.Mathlib.Nat.{add_assoc}
use native.Mathlib.Omega.{arith}
use lib.ListN.{length, drop, drop_of_length-le, length-drop}
use lib.Seq.{drop-drop}
use Rattle.parameters.specs.declared.Param.{Param}
use Rattle.std.specs.Prelude.{Some, None}
use Rattle.parameters.specs.Parameter.{front_of}
use Rattle.parameters.specs.Parameters.{moved, params_after}
use Rattle.parameters.proofs.Laws.{found_inside}
use Rattle.parameters.proofs.Lists.{turn, stop}
use Rattle.tables.specs.Rows.{put_row, parameter_size, parameter_words}
use Rattle.tables.specs.declared.ParameterRow.{ParameterRow}
use Rattle.tables.proofs.Laws.{length_put}
use Rattle.nesting.specs.Rows.{parameter_row, rows_from}
use Rattle.nesting.specs.Held.{put_rows}

module _ (property start : ℕ) (line : List ℕ) where
  rows_found : (at : ℕ) (p : Param) → front_of (drop at line) ≡ Some p
      → rows_from property start at line ≡ parameter_row property (moved (start + at) p) ∷ rows_from property start (at + p.used) line
  rows_found at p h =
      ap (map (parameter_row property)) (turn (start + at) (drop at line) p h)
      ∙ rw (drop-drop p.used at line, add_assoc start at p.used)

  rows_none : (at : ℕ) → front_of (drop at line) ≡ None → rows_from property start at line ≡ []
  rows_none at h = ap (map (parameter_row property)) (stop (start + at) (drop at line) h)

  rows_end : (at : ℕ) → length line ≤ at → rows_from property start at line ≡ []
  unfolding params_after
  rows_end at h = rw (drop_of_length-le line h)

  -- some rows are put, and the others are to come
  pub record Putting (from first : ℕ) (old now : List ℕ) (at row : ℕ) : Type 0 where
    pub inside : at ≤ length line
    pub few : row + from ≤ first + at
    pub size : length now ≡ length old
    pub is : put_rows parameter_size parameter_words row (rows_from property start at line) now
        ≡ put_rows parameter_size parameter_words first (rows_from property start from line) old

  module _ {from first : ℕ} {old now : List ℕ} {at row : ℕ} (so : Putting from first old now at row) where
    put_rows_holds : {a b : List ParameterRow} → a ≡ b → put_rows parameter_size parameter_words row a now ≡ put_rows parameter_size parameter_words row b now
    put_rows_holds e = ap (λ (rows : List ParameterRow). put_rows parameter_size parameter_words row rows now) e

    pub more : (p : Param) → front_of (drop at line) ≡ Some p → (next : List ℕ)
        → next ≡ put_row parameter_size row (parameter_words (parameter_row property (moved (start + at) p))) now
        → Putting from first old next (at + p.used) (row + 1)
    unfolding put_rows
    more p h next e =
        let i = found_inside (drop at line) h in
        record {
          inside = omega (arith, i.all, length-drop at line, so.inside);
          few = omega (arith, so.few, i.some);
          size = ap length e ∙ length_put parameter_size row (parameter_words (parameter_row property (moved (start + at) p))) now ∙ so.size;
          is = rw e (sym (put_rows_holds (rows_found at p h)) ∙ so.is);
        }

    pub none : front_of (drop at line) ≡ None → now ≡ put_rows parameter_size parameter_words first (rows_from property start from line) old
    unfolding put_rows
    none h = sym (put_rows_holds (rows_none at h)) ∙ so.is

    pub end : length line ≤ at → now ≡ put_rows parameter_size parameter_words first (rows_from property start from line) old
    unfolding put_rows
    end h = sym (put_rows_holds (rows_end at h)) ∙ so.is
