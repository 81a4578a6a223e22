-- Laws of rows in a table, over any row size and any words of a row: putting, appending, reading back. Assumes nothing.
use mathlib.Core.Path.{◌≡◌, refl, sym, ap, ◌∙◌}
use mathlib.Core.Bool.{Bool, true, false}
use mathlib.Core.List.{List, [], ◌∷◌, ◌++◌, append_assoc, append-nil}
use Prim.Native.Nat.{ℕ, zero, suc, ◌+◌, ◌*◌, ◌/◌, ◌≤◌, ◌<◌, zero-le, suc-le-suc}
use native.Mathlib.Nat.{zero-add, add-zero, mul-zero, mul-suc, mul_comm, suc-mul, le-div_iff_mul-le, mul-div_cancel_left, le_refl, le_of_suc-le-suc, not-suc-le-zero}
use native.Mathlib.Numerals.{add-one}
use native.Mathlib.Omega.{arith}
use lib.ListN.{length, take, drop, drop_of_length-le, get_or, length-append}
use lib.Seq.{take_all, sets, sets-eq, length-sets, take-append_seam, drop-append-add, drop-drop, drop-cons, get_or-append-add, get_or-append_seam}
use lib.Dec.{ltb}
use borrow.Author.Tests.{lt-ltb}
use borrow.Rule.Slice.PartMut.{put_mid}
use Rattle.octets.specs.Choice.{pick}
use Rattle.octets.specs.Laid.{laid}
use Rattle.octets.proofs.Laid.{whole, length_laid}
use Rattle.tables.specs.Rows.{component_size, property_size, parameter_size, row_at, tabulate, rows_of, flat, put_row, component_words, component_from}
use Rattle.tables.specs.Rows.{property_words, property_from, parameter_words, parameter_from}

-- a table has row n where all of its words are in the table
pub has_row : (size n len : ℕ) → 0 < size → size * n + size ≤ len → n < len / size
has_row size n len pos h = (le-div_iff_mul-le pos).1 (omega (arith, suc-mul n size, mul_comm size n))

pub row_fits : (size n len : ℕ) → 0 < size → n < len / size → size * n + size ≤ len
row_fits size n len pos h = omega (arith, (le-div_iff_mul-le pos).0 h, suc-mul n size, mul_comm size n)

-- a row that the table has room for
pub put_inside : (size n : ℕ) (ws table : List ℕ) → n < length table / size → put_row size n ws table ≡ sets table (size * n) ws
put_inside size n ws table h = rw (lt-ltb n (length table / size) h)

-- the words of a row laid over their place
pub put_laid : (n k : ℕ) (ws table now : List ℕ) → 0 < length ws → n < length table / length ws → k ≡ length ws → now ≡ ws
    → put_mid (length ws * n) k table now ≡ put_row (length ws) n ws table
put_laid n k ws table now some h ek e =
    rw (e, ek, lt-ltb n (length table / length ws) h, sets-eq ws table (length ws * n) (row_fits (length ws) n (length table) some h))
    (simp (drop-drop, append_assoc))

pub length_put : (size n : ℕ) (ws table : List ℕ) → length (put_row size n ws table) ≡ length table
length_put size n ws table = go (ltb n (length table / size))
  where
    go : (t : Bool) → length (pick t (sets table (size * n) ws) table) ≡ length table
    go true = length-sets table (size * n) ws
    go false = refl

pub put_nothing : (size n : ℕ) (ws : List ℕ) → put_row size n ws [] ≡ []
put_nothing size n ws = go (ltb n (0 / size))
  where
    none : (i : ℕ) (ws : List ℕ) → sets [] i ws ≡ []
    none i [] = refl
    none i (w ∷ ws) = none (suc i) ws

    go : (t : Bool) → pick t (sets [] (size * n) ws) [] ≡ []
    go true = none (size * n) ws
    go false = refl

-- words behind what was laid first
laid_more : (ws vs old : List ℕ) → length ws + length vs ≤ length old → sets (laid ws old) (length ws) vs ≡ laid (ws ++ vs) old
laid_more ws vs old h =
    let l : length ws ≤ length old = omega arith in
    sets-eq vs (laid ws old) (length ws) (rw (length_laid ws old) h)
    ∙ rw (whole ws old l, whole (ws ++ vs) old (rw length-append h)) (simp (take-append_seam, drop-append-add, drop-drop, length-append, append_assoc))

module _ {A : Type 0} where
  pub length_tabulate : (n : ℕ) (f : ℕ → A) → length (tabulate n f) ≡ n
  unfolding tabulate
  length_tabulate zero f = refl
  length_tabulate (suc n) f = ap suc (length_tabulate n (λ i. f (suc i)))

  pub get_d_tabulate : (n : ℕ) (f : ℕ → A) (i : ℕ) (d : A) → i < n → get_or (tabulate n f) i d ≡ f i
  unfolding tabulate
  get_d_tabulate zero f i d h = absurd (not-suc-le-zero h)
  get_d_tabulate (suc n) f zero d h = refl
  get_d_tabulate (suc n) f (suc i) d h = get_d_tabulate n (λ k. f (suc k)) i d (le_of_suc-le-suc h)

  begins_with : (xs : List A) (n : ℕ) (f : ℕ → A) → length xs ≤ n → ((i : ℕ) (d : A) → i < length xs → f i ≡ get_or xs i d) → take (length xs) (tabulate n f) ≡ xs
  unfolding tabulate
  begins_with [] n f h same = refl
  begins_with (x ∷ xs) zero f h same = absurd (not-suc-le-zero h)
  begins_with (x ∷ xs) (suc n) f h same =
      rw (same 0 x (suc-le-suc zero-le), begins_with xs n (λ i. f (suc i)) (le_of_suc-le-suc h) (λ i d l. same (suc i) d (suc-le-suc l)))

  -- the rows of a table, one at a time
  module _ (size : ℕ) (at : List ℕ → ℕ → A) (table : List ℕ) where
    pub length_rows : length (rows_of size at table) ≡ length table / size
    length_rows = length_tabulate (length table / size) (at table)

    pub row_here : (i : ℕ) → i < length table / size → drop i (rows_of size at table) ≡ at table i ∷ drop (i + 1) (rows_of size at table)
    row_here i h =
        rw (drop-cons (rows_of size at table) i (at table i) (rw length_rows h), get_d_tabulate (length table / size) (at table) i (at table i) h, add-one)

    pub rows_end : (i : ℕ) → length table / size ≤ i → drop i (rows_of size at table) ≡ []
    rows_end i h = let l : length (rows_of size at table) ≤ i = rw length_rows h in drop_of_length-le (rows_of size at table) l

pub flat_append : {A : Type 0} (words : A → List ℕ) (rows more : List A) → flat words (rows ++ more) ≡ flat words rows ++ flat words more
unfolding flat
flat_append words [] more = refl
flat_append words (r ∷ rows) more = rw (flat_append words rows more, append_assoc)

-- how rows of one kind stand in words: each is `size` words, and `from` reads at a place the row whose words stand there
pub record Shape {A : Type 0} (size : ℕ) (words : A → List ℕ) (from : List ℕ → ℕ → A) : Type 0 where
  pub some : 0 < size
  pub each : (r : A) → length (words r) ≡ size
  pub reads : (before rest : List ℕ) (r : A) → from (before ++ (words r ++ rest)) (length before) ≡ r

pub component_shape : Shape component_size component_words component_from
component_shape = record { some = omega arith; each = λ c. refl; reads = λ before rest c. simp (get_or-append-add, get_or-append_seam) }

pub property_shape : Shape property_size property_words property_from
property_shape = record { some = omega arith; each = λ p. refl; reads = λ before rest p. simp (get_or-append-add, get_or-append_seam) }

pub parameter_shape : Shape parameter_size parameter_words parameter_from
parameter_shape = record { some = omega arith; each = λ p. refl; reads = λ before rest p. simp (get_or-append-add, get_or-append_seam) }

module _ {A : Type 0} {size : ℕ} {words : A → List ℕ} {from : List ℕ → ℕ → A} (shape : Shape size words from) where
  pub length_flat : (rows : List A) → length (flat words rows) ≡ size * length rows
  unfolding flat
  length_flat [] = rw mul-zero
  length_flat (r ∷ rows) = rw (length-append, shape.each r, length_flat rows, mul-suc) (omega arith)

  one : (r : A) → flat words (r ∷ []) ≡ words r
  unfolding flat
  one r = append-nil (words r)

  -- a row put behind the rows that a table holds at its front
  pub append : (rows : List A) (r : A) (n : ℕ) (table old : List ℕ) → n ≡ length rows → size * (length rows + 1) ≤ length old
      → table ≡ laid (flat words rows) old → put_row size n (words r) table ≡ laid (flat words (rows ++ (r ∷ []))) old
  append rows r n table old en room held =
      let l : length table ≡ length old = rw held (length_laid (flat words rows) old) in
      let fits : size * n + size ≤ length old = rw (← en, add-one, mul-suc) at room in
      let here : size * n ≡ length (flat words rows) = rw (en, length_flat rows) in
      put_inside size n (words r) table (has_row size n (length table) shape.some (rw l fits))
      ∙ rw (held, here, flat_append words rows (r ∷ []), one r)
      (laid_more (flat words rows) (words r) old (rw (← here, shape.each r) fits))

  -- the n-th of rows that stand behind each other
  behind : (before : List ℕ) (rows : List A) (rest : List ℕ) (n : ℕ) (d : A) → n < length rows
      → from (before ++ (flat words rows ++ rest)) (length before + size * n) ≡ get_or rows n d
  unfolding flat
  behind before [] rest n d h = absurd (not-suc-le-zero h)
  behind before (r ∷ rows) rest zero d h = rw (mul-zero, add-zero, append_assoc) (shape.reads before (flat words rows ++ rest) r)
  behind before (r ∷ rows) rest (suc n) d h =
      let e : length before + size * suc n ≡ length (before ++ words r) + size * n = rw (length-append, shape.each r, mul-suc) (omega arith) in
      rw (e, append_assoc, ← append_assoc before (words r) (flat words rows ++ rest))
      (behind (before ++ words r) rows rest n d (le_of_suc-le-suc h))

  pub read_back : (rows : List A) (rest : List ℕ) (n : ℕ) (d : A) → n < length rows → row_at size from (flat words rows ++ rest) n ≡ get_or rows n d
  read_back rows rest n d h = rw zero-add at (behind [] rows rest n d h)

  -- so the rows of a table begin with the rows that were laid over its front
  pub rows_back : (rows : List A) (old : List ℕ) → size * length rows ≤ length old
      → take (length rows) (rows_of size (row_at size from) (laid (flat words rows) old)) ≡ rows
  rows_back rows old h =
      let f : length (flat words rows) ≤ length old = rw (length_flat rows) h in
      begins_with rows (length (laid (flat words rows) old) / size) (row_at size from (laid (flat words rows) old))
      (rw (length_laid (flat words rows) old) ((le-div_iff_mul-le shape.some).1 (rw (mul_comm (length rows) size) h)))
      (λ i d l. rw (whole (flat words rows) old f) (read_back rows (drop (length (flat words rows)) old) i d l))

  -- and they are all of its rows where the table has no more words
  pub rows_exact : (rows : List A) → rows_of size (row_at size from) (flat words rows) ≡ rows
  rows_exact rows =
      let e : length (flat words rows) / size ≡ length rows = rw (length_flat rows) (mul-div_cancel_left (length rows) shape.some) in
      sym (take_all (length rows) (rows_of size (row_at size from) (flat words rows)) (rw (length_rows size (row_at size from) (flat words rows), e) (le_refl _)))
      ∙ begins_with rows (length (flat words rows) / size) (row_at size from (flat words rows)) (rw e (le_refl _))
      (λ i d l. rw append-nil at (read_back rows [] i d l))
