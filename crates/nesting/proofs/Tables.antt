-- Rows put one after the other. Assumes nothing.
use mathlib.Core.Path.{◌≡◌, refl, sym, ap, ◌∙◌}
use mathlib.Core.List.{List, [], ◌∷◌, ◌++◌, append_assoc, append-nil}
use Prim.Native.Nat.{ℕ, ◌+◌, ◌*◌, ◌≤◌}
use native.Mathlib.Nat.{add-zero, zero-add, le_trans, mul-le-mul_left}
use native.Mathlib.Omega.{arith}
use lib.ListN.{length, length-append}
use Rattle.octets.specs.Laid.{laid}
use Rattle.octets.proofs.Laid.{nothing}
use Rattle.tables.specs.Rows.{flat, put_row}
use Rattle.tables.proofs.Laws.{Shape, append, put_nothing, length_put}
use Rattle.nesting.specs.Held.{put_rows}

module _ {A : Type 0} (size : ℕ) (words : A → List ℕ) where
  -- first some rows, and then more behind them
  pub put_append : (n : ℕ) (rows more : List A) (table : List ℕ)
      → put_rows size words n (rows ++ more) table ≡ put_rows size words (n + length rows) more (put_rows size words n rows table)
  unfolding put_rows
  put_append n [] more table = rw add-zero
  put_append n (r ∷ rows) more table =
      put_append (n + 1) rows more (put_row size n (words r) table)
      ∙ ap (λ (k : ℕ). put_rows size words k more (put_rows size words (n + 1) rows (put_row size n (words r) table))) (omega arith)

  -- one row behind those that the table holds
  pub put_one : (rows : List A) (r : A) (n : ℕ) (table old : List ℕ) → n ≡ length rows → table ≡ put_rows size words 0 rows old
      → put_row size n (words r) table ≡ put_rows size words 0 (rows ++ r ∷ []) old
  unfolding put_rows
  put_one rows r n table old e held = rw (put_append 0 rows (r ∷ []) old, zero-add, e, held)

  pub put_more : (rows more : List A) (n : ℕ) (table old : List ℕ) → n ≡ length rows → table ≡ put_rows size words 0 rows old
      → put_rows size words n more table ≡ put_rows size words 0 (rows ++ more) old
  put_more rows more n table old e held = rw (put_append 0 rows more old, zero-add, e, held)

  -- an empty table stays empty
  pub put_none : (n : ℕ) (rows : List A) → put_rows size words n rows [] ≡ []
  unfolding put_rows
  put_none n [] = refl
  put_none n (r ∷ rows) = rw (put_nothing size n (words r)) (put_none (n + 1) rows)

  pub put_empty : (n : ℕ) (rows : List A) (table : List ℕ) → length table ≡ 0 → table ≡ put_rows size words n rows table
  put_empty n rows [] e = sym (put_none n rows)
  put_empty n rows (w ∷ table) e = absurd (omega arith)

  pub length_rows_put : (n : ℕ) (rows : List A) (table : List ℕ) → length (put_rows size words n rows table) ≡ length table
  unfolding put_rows
  length_rows_put n [] table = refl
  length_rows_put n (r ∷ rows) table = length_rows_put (n + 1) rows (put_row size n (words r) table) ∙ length_put size n (words r) table

  module _ {from : List ℕ → ℕ → A} (shape : Shape size words from) where
    behind : (done more : List A) (table old : List ℕ) → size * length (done ++ more) ≤ length old → table ≡ laid (flat words done) old
        → put_rows size words (length done) more table ≡ laid (flat words (done ++ more)) old
    unfolding put_rows
    behind done [] table old room held = held ∙ rw append-nil
    behind done (r ∷ more) table old room held =
        let l : length done + 1 ≡ length (done ++ r ∷ []) = rw length-append in
        let g : (done ++ r ∷ []) ++ more ≡ done ++ r ∷ more = append_assoc done (r ∷ []) more in
        let few : length done + 1 ≤ length (done ++ r ∷ more) = rw length-append (omega arith) in
        let h : put_row size (length done) (words r) table ≡ laid (flat words (done ++ r ∷ [])) old =
        append shape done r (length done) table old refl (le_trans (mul-le-mul_left size few) room) held in
        rw l (behind (done ++ r ∷ []) more (put_row size (length done) (words r) table) old (rw g room) h ∙ rw g)

    -- where there is room for all, they stand at the front, word behind word
    pub all_put : (rows : List A) (old : List ℕ) → size * length rows ≤ length old → put_rows size words 0 rows old ≡ laid (flat words rows) old
    unfolding flat
    all_put rows old room = behind [] rows old old room (sym (nothing old))
