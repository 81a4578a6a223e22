-- The rows of a class, told by their numbers: the front of a table from a row on, and how many there are of them. Assumes nothing.
use mathlib.Core.Path.{◌≡◌, refl, sym, ap, ◌∙◌}
use mathlib.Core.Bool.{Bool, true, false, cond}
use mathlib.Core.List.{List, []}
use Prim.Native.Nat.{ℕ, zero, suc, ◌+◌, ◌-◌, ◌/◌, ◌≤◌, ◌<◌}
use native.Mathlib.Omega.{arith}
use lib.ListN.{length, take, drop, length-drop}
use lib.Seq.{take_all}
use mir.Val.{bool_byte}
use denote.Param.Members.{Mut}
use denote.Ref.{Bor}
use Rattle.std.specs.declared.iter.TakeWhile.{TakeWhile}
use Rattle.std.specs.declared.ops.Range.{Range}
use Rattle.std.specs.Fn.{CalledAt}
use Rattle.std.specs.Iterator.{Drains}
use Rattle.std.specs.Iterator.Adapters.{take_while_source, take_while_done, take_while_callee, take_while_steps}
use Rattle.std.specs.List.{prefix_len, range_with_len}
use Rattle.std.proofs.iter.Yields.{nat_range_steps}
use Rattle.std.proofs.lemmas.Iterator.{YieldsList-from_range}
use Rattle.std.proofs.lemmas.Iterator.Consumers.{count_from_yields_List}
use Rattle.std.proofs.lemmas.Iterator.Search.{YieldsList-from_take_while}
use Rattle.std.proofs.lemmas.List.Folds.{length-prefix_len}
use Rattle.octets.specs.Choice.{pick}
use Rattle.tables.specs.Rows.{rows_of, component_size, component_at}
use Rattle.tables.specs.Lent.{components_in}
use Rattle.tables.specs.Fronts.{front}
use Rattle.tables.specs.declared.ComponentRow.{ComponentRow}
use Rattle.tables.proofs.Laws.{get_d_tabulate, length_rows, row_here}
use Rattle.walking.specs.Walk.{depth_at, tally}

-- the depth of a row that a table has
pub depth_there : (table : List ℕ) (row : ℕ) → row < length table / component_size → (component_at table row).depth ≡ depth_at (components_in table) row
depth_there table row h = ap (λ (c : ComponentRow). c.depth) (sym (get_d_tabulate (length table / component_size) (component_at table) row (component_at [] 0) h))

one_more : (t : Bool) {m n : ℕ} → m ≡ n → cond t (1 + m) 0 ≡ pick t (suc n) 0
one_more true e = omega arith
one_more false e = refl

-- what a row adds to a count
pub one_at_most : (t : Bool) → bool_byte t ≤ 1
one_at_most true = omega arith
one_at_most false = omega arith

one_counted : (t : Bool) (n : ℕ) → pick t (suc n) n ≡ bool_byte t + n
one_counted true n = omega arith
one_counted false n = omega arith

module _ {A : Type 0} (size : ℕ) (at : List ℕ → ℕ → A) (class : A → Bool) (table : List ℕ) where
  -- whether the row with a number is of the class
  abbrev pub is_of : ℕ → Bool
  is_of i = class (at table i)

  -- the rows from `from` up to `last`
  abbrev pub between : ℕ → ℕ → List A
  between from last = take (last - from) (drop from (rows_of size at table))

  front_by_number : (last n from : ℕ) → last ≤ length table / size → n ≡ last - from
      → prefix_len is_of (range_with_len from n) ≡ front class (between from last)
  unfolding front
  front_by_number last zero from h e = rw (← e)
  front_by_number last (suc n) from h e =
      let l : from < length table / size = omega arith in
      let m : n ≡ last - (from + 1) = omega arith in
      rw (← e, row_here size at table from l) (one_more (is_of from) (rw (← m) at (front_by_number last n (from + 1) h m)))

  -- how many there are of them, one row at a time
  pub tally_here : (last from : ℕ) → from < last → last ≤ length table / size
      → tally class (between from last) ≡ bool_byte (is_of from) + tally class (between (from + 1) last)
  unfolding tally
  tally_here last from l h =
      let here : from < length table / size = omega arith in
      let e : last - from ≡ suc (last - (from + 1)) = omega arith in
      rw (row_here size at table from here, e) (one_counted (is_of from) _)

  pub tally_over : (last from : ℕ) → last ≤ from → tally class (between from last) ≡ 0
  unfolding tally
  tally_over last from h = let e : last - from ≡ 0 = omega arith in rw e

  -- numbers taken while their rows are of the class, and counted
  module _ {F : Type 0} {g : Mut F (Bor ℕ × Unit {0}) Bool} {f : F} (s : TakeWhile (Range ℕ) F) (from last r : ℕ)
      (numbers : take_while_source s ≡ record { start = from; end = last }) (callee : take_while_callee s ≡ f) (fresh : take_while_done s ≡ false)
      (calls : (x : ℕ) (b : Bool) (q : F) → CalledAt g f x b q → (q ≡ f) × (b ≡ is_of x))
      (counts : (xs : List ℕ) × Drains (take_while_steps nat_range_steps g) s xs × (r ≡ length xs)) where
    pub front_before : last ≤ length table / size → r ≡ front class (between from last)
    front_before h =
        count_from_yields_List s r counts
        (YieldsList-from_take_while g is_of (YieldsList-from_range from last (last - from) numbers refl) callee fresh calls)
        ∙ length-prefix_len is_of (range_with_len from (last - from)) ∙ front_by_number last (last - from) from h refl

    pub front_on : last ≡ length table / size → r ≡ front class (drop from (rows_of size at table))
    front_on e =
        front_before (omega arith)
        ∙ ap (front class) (take_all (last - from) (drop from (rows_of size at table)) (omega (arith, length-drop from (rows_of size at table), length_rows size at table)))
