-- Laws of the writing rule: what a value makes of its row, and the first row that has a fault, one row at a time. Assumes nothing.
use mathlib.Core.Path.{◌≡◌, refl, sym, ap, ◌∙◌}
use mathlib.Core.Bool.{Bool, true, false, ◌&&◌}
use mathlib.Core.List.{List, [], ◌∷◌}
use Prim.Native.Nat.{ℕ, ◌+◌, ◌/◌, ◌≤◌, ◌<◌}
use native.Mathlib.Nat.{add_assoc}
use native.Mathlib.Omega.{arith}
use lib.ListN.{length, drop}
use lib.Dec.{leb}
use borrow.Author.Tests.{le-leb, lt-leb, leb-true, ne_eqb}
use Rattle.octets.specs.Bytes.{cr, lf, capital, common, key_byte, other, ascii}
use Rattle.octets.specs.Runs.{run, only}
use Rattle.octets.proofs.Bools.{both}
use Rattle.octets.proofs.Runs.{only_both, whole_wider, all_of}
use Rattle.characters.specs.Utf8.{utf8_run, is_utf8}
use Rattle.characters.specs.Quick.{common_text}
use Rattle.characters.proofs.Utf8.{ascii_utf8}
use Rattle.characters.proofs.Quick.{common_utf8, common_only, shown_other}
use Rattle.tables.specs.Rows.{component_size, property_size, component_at, property_at, rows_of}
use Rattle.tables.specs.Lent.{Lent, components_in, properties_in, parameters_in}
use Rattle.tables.proofs.Laws.{length_rows, row_here, rows_end}
use Rattle.writable.specs.WritingRule.{no_break, clean, verdict, component_verdict, property_verdict, parameter_verdict, judged_by, judged_from, judged_in}
use Rattle.std.specs.Prelude.{Result, Ok, Err}
use Rattle.writable.specs.declared.Fault.{Fault}
use Rattle.writable.specs.declared.Unfit.{Unfit}

-- ---- values

module _ (value : List ℕ) where
  pub fine_value : only clean value ≡ true → Ok tt ≡ verdict (only no_break value) (is_utf8 value)
  fine_value e =
      let b = both (only no_break value) (only ascii value) (sym (only_both no_break ascii value) ∙ e) in
      rw (b.0, ascii_utf8 value b.1) refl

  pub common_value : common_text value ≡ true → Ok tt ≡ verdict (only no_break value) (is_utf8 value)
  common_value e = rw (common_only no_break (λ x s. rw (shown_other cr x (omega arith) s, shown_other lf x (omega arith) s)) value e, common_utf8 value e) refl

  module _ {r n : Bool} (no_cr : r ≡ only (other cr) value) (no_lf : n ≡ only (other lf) value) where
    unbroken : r && n ≡ only no_break value
    unbroken = cc (only_both (other cr) (other lf) value)

    pub has_break_holds : r && n ≡ false → Err Fault.Unwritable ≡ verdict (only no_break value) (is_utf8 value)
    has_break_holds t = rw (sym unbroken ∙ t) refl

    module _ (t : r && n ≡ true) {m : ℕ} (e : m ≡ utf8_run value) where
      whole : only no_break value ≡ true
      whole = sym unbroken ∙ t

      pub not_utf8 : m < length value → Err Fault.NotUtf8 ≡ verdict (only no_break value) (is_utf8 value)
      not_utf8 h = rw (whole, lt-leb (length value) (utf8_run value) (omega arith)) refl

      pub all_utf8 : length value ≤ m → Ok tt ≡ verdict (only no_break value) (is_utf8 value)
      all_utf8 h = rw (whole, le-leb (length value) (utf8_run value) (omega arith)) refl

-- ---- what is seen at a look

capital_key : (x : ℕ) → capital x ≡ true → key_byte x ≡ true
capital_key x e = rw e

common_clean : (x : ℕ) → common x ≡ true → clean x ≡ true
common_clean x e = go (leb 32 x) refl e
  where
    go : (t : Bool) → leb 32 x ≡ t → t && leb x 127 ≡ true → clean x ≡ true
    go true t u =
        let h = leb-true 32 x t in
        rw (ne_eqb x cr (λ z. omega arith), ne_eqb x lf (λ z. omega arith)) u
    go false t u = cc

-- so a view that is seen to be of a class is of a wider one
seen_wider : (narrow wide : ℕ → Bool) → ((x : ℕ) → narrow x ≡ true → wide x ≡ true) → (value : List ℕ) → only narrow value ≡ true → only wide value ≡ true
seen_wider narrow wide sub value e = le-leb (length value) (run wide value) (omega (arith, whole_wider narrow wide sub value (all_of narrow value e)))

pub capital_view : (value : List ℕ) → only capital value ≡ true → only key_byte value ≡ true
capital_view = seen_wider capital key_byte capital_key

pub common_view : (value : List ℕ) → only common value ≡ true → only clean value ≡ true
common_view = seen_wider common clean common_clean

-- ---- rows of a table

-- what one table tells, and only if it can be written what is told behind it
abbrev or_else : Result (Unit {0}) Unfit → Result (Unit {0}) Unfit → Result (Unit {0}) Unfit
or_else (Ok fine) rest = rest
or_else (Err unfit) rest = Err unfit

module _ {A : Type 0} (verdict_of : A → Result (Unit {0}) Fault) where
  then : (row : ℕ) (xs : List A) (rest : Result (Unit {0}) Unfit) → judged_from verdict_of row xs rest ≡ or_else (judged_from verdict_of row xs (Ok tt)) rest
  unfolding judged_from
  then row [] rest = refl
  then row (x ∷ xs) rest = go (verdict_of x) (judged_from verdict_of (row + 1) xs (Ok tt)) (then (row + 1) xs rest)
    where
      go : (v : Result (Unit {0}) Fault) (b : Result (Unit {0}) Unfit) {a : Result (Unit {0}) Unfit} → a ≡ or_else b rest → judged_by v row a ≡ or_else (judged_by v row b) rest
      go (Ok fine) b e = e
      go (Err fault) b e = refl

  module _ (size : ℕ) (at : List ℕ → ℕ → A) (table : List ℕ) (first : ℕ) where
    -- what all rows of a table give, numbered from `first` on
    abbrev table_judged : Result (Unit {0}) Unfit
    table_judged = judged_from verdict_of first (rows_of size at table) (Ok tt)

    -- the rows from i on give the same
    abbrev pub Judging : ℕ → Type 0
    Judging i = judged_from verdict_of (first + i) (drop i (rows_of size at table)) (Ok tt) ≡ table_judged

    pub end : {i : ℕ} → Judging i → length table / size ≤ i → Ok tt ≡ table_judged
    unfolding judged_from
    end {i} so_far h = rw (rows_end size at table i h) at so_far

    -- row i, which the table has, is found to be v
    module _ {i : ℕ} {v : Result (Unit {0}) Fault} (so_far : Judging i) (inside : i < length table / size) (is : v ≡ verdict_of (at table i)) where
      turned : judged_by v (first + i) (judged_from verdict_of (first + (i + 1)) (drop (i + 1) (rows_of size at table)) (Ok tt)) ≡ table_judged
      unfolding judged_from
      turned = rw (row_here size at table i inside, ← is, add_assoc) at so_far

      pub on : {fine : Unit {0}} → v ≡ Ok fine → Judging (i + 1)
      on e = rw e at turned

      pub off : {fault : Fault} → v ≡ Err fault → Err (record { row = first + i; fault = fault }) ≡ table_judged
      off e = rw e at turned

-- ---- the three tables

module _ (b : Lent) where
  abbrev behind_properties : Result (Unit {0}) Unfit
  behind_properties =
      judged_from (parameter_verdict b.text) (length (components_in b.components) + length (properties_in b.properties)) (parameters_in b.parameters) (Ok tt)

  abbrev behind_components : Result (Unit {0}) Unfit
  behind_components = judged_from (property_verdict b.text) (length (components_in b.components)) (properties_in b.properties) behind_properties

  module _ {c : Result (Unit {0}) Unfit} (of_components : c ≡ judged_from (component_verdict b.text) 0 (components_in b.components) (Ok tt)) where
    by_components : judged_in b ≡ or_else c behind_components
    unfolding judged_in
    by_components =
        then (component_verdict b.text) 0 (components_in b.components) behind_components
        ∙ ap (λ t. or_else t behind_components) (sym of_components)

    pub in_components : {unfit : Unfit} → c ≡ Err unfit → Err unfit ≡ judged_in b
    in_components e = rw e at (sym by_components)

    module _ {fine : Unit {0}} (e : c ≡ Ok fine) {n : ℕ} (count : n ≡ length b.components / component_size) {p : Result (Unit {0}) Unfit}
        (of_properties : p ≡ judged_from (property_verdict b.text) n (properties_in b.properties) (Ok tt)) where
      by_properties : judged_in b ≡ or_else p behind_properties
      by_properties =
          by_components
          ∙ (ap (λ t. or_else t behind_components) e
          ∙ (then (property_verdict b.text) (length (components_in b.components)) (properties_in b.properties) behind_properties
          ∙ ap (λ t. or_else t behind_properties) (sym of_counted)))
        where
          of_counted : p ≡ judged_from (property_verdict b.text) (length (components_in b.components)) (properties_in b.properties) (Ok tt)
          of_counted = rw (length_rows component_size component_at b.components, ← count) of_properties

      pub in_properties : {unfit : Unfit} → p ≡ Err unfit → Err unfit ≡ judged_in b
      in_properties f = rw f at (sym by_properties)

      pub in_parameters : {fine : Unit {0}} → p ≡ Ok fine → {m : ℕ} → m ≡ length b.properties / property_size → {q : Result (Unit {0}) Unfit}
          → q ≡ judged_from (parameter_verdict b.text) (n + m) (parameters_in b.parameters) (Ok tt) → q ≡ judged_in b
      in_parameters sound {m} counted of_parameters =
          rw (by_properties, sound, length_rows component_size component_at b.components, length_rows property_size property_at b.properties, ← count, ← counted) of_parameters
