-- What the writer accepts is fit to come back: every name, key, value and parameter of the trees that accepted tables stand for meets the
-- writing rule, the trees nest no deeper than 64, and their bytes are within the limits. Assumes nothing.
use mathlib.Core.Path.{◌≡◌, refl}
use mathlib.Core.Bool.{Bool, true, false, ◌&&◌}
use mathlib.Core.List.{List, [], ◌∷◌}
use Prim.Native.Nat.{ℕ, zero, suc, ◌+◌, ◌≤◌, ◌<◌}
use native.Mathlib.Nat.{not-suc-le-zero, le_of_suc-le-suc}
use native.Mathlib.Omega.{arith}
use lib.ListN.{length, get_or}
use lib.Dec.{eqb, leb}
use borrow.Author.Tests.{leb-true}
use Rattle.std.specs.Prelude.{Option, Some, None, Result, Ok, Err}
use Rattle.octets.specs.Choice.{pick}
use Rattle.octets.specs.Views.{viewed}
use Rattle.octets.specs.Runs.{only}
use Rattle.octets.specs.Answers.{longest, deepest, done, too_long, no_out_room, output}
use Rattle.octets.specs.All.{All}
use Rattle.octets.specs.declared.Output.{Output}
use Rattle.octets.proofs.Bools.{both}
use Rattle.characters.specs.Utf8.{is_utf8}
use Rattle.tables.specs.Rows.{no_parent, component_at}
use Rattle.tables.specs.TableRule.{by_table_rule}
use Rattle.tables.specs.Lent.{Lent, components_in, properties_in, parameters_in, broken_in, trees_in, tree_in}
use Rattle.tables.specs.Trees.{Parameter, Trees, none, gather, parameter_of, parameters_of, property_of, properties_of, value_of, grown, forest}
use Rattle.tables.specs.declared.ComponentRow.{ComponentRow}
use Rattle.tables.specs.declared.PropertyRow.{PropertyRow}
use Rattle.tables.specs.declared.ParameterRow.{ParameterRow}
use Rattle.writable.specs.WritingRule.{name_fits, key_fits, no_break, value_utf8, verdict, component_verdict, property_verdict, parameter_verdict, judged_by, judged_from, judged_in}
use Rattle.writable.specs.declared.Fault.{Fault}
use Rattle.writable.specs.declared.Unfit.{Unfit}
use Rattle.writing.specs.Answers.{written_in, not_written, by_writing_rule, by_length, write_answer}
use Rattle.demands.specs.Returning.{fit_parameter, FitProperty, Fit, Shallow}
use Rattle.demands.proofs.OutRoom.{fault_not_done}

-- ---- rows that are all so, and what is gathered of them

module _ {A : Type 0} (so : A → Type 0) where
  pub all_at : (xs : List A) → All so xs → (i : ℕ) (d : A) → i < length xs → so (get_or xs i d)
  unfolding All
  all_at [] a i d h = absurd (not-suc-le-zero h)
  all_at (x ∷ xs) a zero d h = a.0
  all_at (x ∷ xs) a (suc i) d h = all_at xs a.1 i d (le_of_suc-le-suc h)

  pub all_if : ((x : A) → so x) → (xs : List A) → All so xs
  unfolding All
  all_if each [] = tt
  all_if each (x ∷ xs) = (each x, all_if each xs)

-- what holds at the end, and with each row that is put before, holds of what is gathered
pub gathered : {A R : Type 0} (owner_of : A → ℕ) (before : ℕ → A → R → R) (so : A → Type 0) (kept : R → Type 0)
    → ((row : ℕ) (x : A) (rest : R) → so x → kept rest → kept (before row x rest))
    → (end : R) → kept end → (owner row : ℕ) (xs : List A) → All so xs → kept (gather owner_of before end owner row xs)
unfolding All gather
gathered owner_of before so kept step end e owner row [] a = e
gathered {A} {R} owner_of before so kept step end e owner row (x ∷ xs) a =
    go (eqb (owner_of x) owner) (gather owner_of before end owner (row + 1) xs) (gathered owner_of before so kept step end e owner (row + 1) xs a.1)
  where
    go : (t : Bool) (rest : R) → kept rest → kept (pick t (before row x rest) rest)
    go true rest k = step row x rest a.0 k
    go false rest k = k

-- ---- tables that can be written: every row is fine

fine_fits : (fits whole : Bool) → verdict fits whole ≡ Ok tt → (fits ≡ true) × (whole ≡ true)
fine_fits true true e = (refl, refl)
fine_fits true false e = (refl, cc)
fine_fits false whole e = (cc, cc)

judged_writable : (v : Result (Unit {0}) Fault) (row : ℕ) (rest : Result (Unit {0}) Unfit) → judged_by v row rest ≡ Ok tt
    → (v ≡ Ok tt) × (rest ≡ Ok tt)
judged_writable (Ok fine) row rest e = (refl, e)
judged_writable (Err fault) row rest e = (cc, cc)

-- so are the rows of one table, and those behind it
all_fine : {A : Type 0} (verdict_of : A → Result (Unit {0}) Fault) (row : ℕ) (xs : List A) (rest : Result (Unit {0}) Unfit)
    → judged_from verdict_of row xs rest ≡ Ok tt
    → All (λ (x : A). verdict_of x ≡ Ok tt) xs × (rest ≡ Ok tt)
unfolding All judged_from
all_fine verdict_of row [] rest e = (tt, e)
all_fine verdict_of row (x ∷ xs) rest e =
    let here = judged_writable (verdict_of x) row (judged_from verdict_of (row + 1) xs rest) e in
    let later = all_fine verdict_of (row + 1) xs rest here.1 in
    ((here.0, later.0), later.1)

abbrev FineComponent : List ℕ → ComponentRow → Type 0
FineComponent text c = component_verdict text c ≡ Ok tt

abbrev FineProperty : List ℕ → PropertyRow → Type 0
FineProperty text p = property_verdict text p ≡ Ok tt

abbrev FineParameter : List ℕ → ParameterRow → Type 0
FineParameter text p = parameter_verdict text p ≡ Ok tt

record Fine (b : Lent) : Type 0 where
  of_components : All (FineComponent b.text) (components_in b.components)
  of_properties : All (FineProperty b.text) (properties_in b.properties)
  of_parameters : All (FineParameter b.text) (parameters_in b.parameters)

tables_fine : (b : Lent) → judged_in b ≡ Ok tt → Fine b
unfolding judged_in
tables_fine b e =
    let cs = all_fine (component_verdict b.text) 0 (components_in b.components) _ e in
    let ps = all_fine (property_verdict b.text) (length (components_in b.components)) (properties_in b.properties) _ cs.1 in
    let qs = all_fine (parameter_verdict b.text) _ (parameters_in b.parameters) _ ps.1 in
    record { of_components = cs.0; of_properties = ps.0; of_parameters = qs.0 }

-- ---- the trees of such tables

-- the trees of the rows that have this parent, as deep as the level allows
abbrev forest_in : Lent → ℕ → ℕ → Trees
forest_in b = forest b.text (components_in b.components) (properties_in b.properties) (parameters_in b.parameters)

-- the tree of a row before other trees
abbrev grown_in : Lent → ℕ → ℕ → ComponentRow → Trees → Trees
grown_in b level = grown b.text (components_in b.components) (properties_in b.properties) (parameters_in b.parameters) (forest_in b level)

fit_parameter_holds : (text : List ℕ) (p : ParameterRow) → FineParameter text p → (fit_parameter (parameter_of text p) ≡ true) × (value_utf8 (value_of text p) ≡ true)
fit_parameter_holds text p e = fine_fits (fit_parameter (parameter_of text p)) (value_utf8 (value_of text p)) e

module _ (b : Lent) (fine : Fine b) where
  fit_parameters : (so : Parameter → Type 0) → ((p : ParameterRow) → FineParameter b.text p → so (parameter_of b.text p))
      → (property : ℕ) → All so (parameters_of b.text (parameters_in b.parameters) property)
  unfolding All
  fit_parameters so each property =
      gathered (λ (p : ParameterRow). p.property) (λ row p rest. parameter_of b.text p ∷ rest)
      (FineParameter b.text) (All so)
      (λ row p rest e k. (each p e, k)) [] tt property 0 (parameters_in b.parameters) fine.of_parameters

  fit_property : (row : ℕ) (p : PropertyRow) → FineProperty b.text p → FitProperty (property_of b.text (parameters_in b.parameters) row p)
  fit_property row p e =
      let key = viewed b.text p.key_start p.key_len in
      let value = viewed b.text p.value_start p.value_len in
      let f = fine_fits (key_fits key && only no_break value) (is_utf8 value) e in
      let t = both (key_fits key) (only no_break value) f.0 in
      record {
        key = t.0;
        value = t.1;
        parameters = fit_parameters (λ (q : Parameter). fit_parameter q ≡ true) (λ q h. (fit_parameter_holds b.text q h).0) row;
        utf8 = f.1;
        parameters_utf8 = fit_parameters (λ (q : Parameter). value_utf8 q.value ≡ true) (λ q h. (fit_parameter_holds b.text q h).1) row;
      }

  fit_properties : (component : ℕ) → All FitProperty (properties_of b.text (properties_in b.properties) (parameters_in b.parameters) component)
  unfolding All
  fit_properties component =
      gathered (λ (p : PropertyRow). p.owner) (λ row p rest. property_of b.text (parameters_in b.parameters) row p ∷ rest)
      (FineProperty b.text) (All FitProperty)
      (λ row p rest e k. (fit_property row p e, k)) [] tt component 0 (properties_in b.properties) fine.of_properties

  -- a row that is fine, before trees that fit, where the trees below it fit
  fit_grown : (level : ℕ) → ((parent : ℕ) → Fit (forest_in b level parent)) → (row : ℕ) (c : ComponentRow) (rest : Trees)
      → FineComponent b.text c → Fit rest → Fit (grown_in b level row c rest)
  unfolding Fit
  fit_grown level below row c rest e k =
      ((fine_fits (name_fits (viewed b.text c.name_start c.name_len)) true e).0, fit_properties row, go (eqb row no_parent), k)
    where
      go : (t : Bool) → Fit (pick t none (forest_in b level row))
      go true = tt
      go false = below row

  fit_forest : (level parent : ℕ) → Fit (forest_in b level parent)
  unfolding Fit forest
  fit_forest zero parent = tt
  fit_forest (suc level) parent =
      gathered (λ (c : ComponentRow). c.parent) (grown_in b level) (FineComponent b.text) Fit
      (fit_grown level (fit_forest level)) none tt parent 0 (components_in b.components) fine.of_components

  fit_tree : (level row : ℕ) → row < length (components_in b.components) → Fit (tree_in b level row)
  unfolding Fit
  fit_tree level row h =
      fit_grown level (fit_forest level) row (get_or (components_in b.components) row (component_at [] 0)) none
      (all_at (FineComponent b.text) (components_in b.components) fine.of_components row (component_at [] 0) h) tt

module _ (b : Lent) where
  -- all trees of tables that can be written fit, and so does the tree of each row
  module _ (writable : judged_in b ≡ Ok tt) where
    pub accepted_fit : Fit (trees_in b)
    accepted_fit = fit_forest b (tables_fine b writable) deepest no_parent

    pub accepted_row : (level row : ℕ) → row < length (components_in b.components) → Fit (tree_in b level row)
    accepted_row level row h = fit_tree b (tables_fine b writable) level row h

  -- ---- how deep they are

  -- a row, before trees that are shallow, where the trees below it are
  shallow_grown : (level : ℕ) → ((parent : ℕ) → Shallow level (forest_in b level parent)) → (row : ℕ) (c : ComponentRow) (rest : Trees)
      → Shallow (suc level) rest → Shallow (suc level) (grown_in b level row c rest)
  unfolding Shallow
  shallow_grown level below row c rest k = (go (eqb row no_parent), k)
    where
      nothing : (level : ℕ) → Shallow level none
      nothing level = tt

      go : (t : Bool) → Shallow level (pick t none (forest_in b level row))
      go true = nothing level
      go false = below row

  shallow_forest : (level parent : ℕ) → Shallow level (forest_in b level parent)
  unfolding Shallow forest
  shallow_forest zero parent = tt
  shallow_forest (suc level) parent =
      gathered (λ (c : ComponentRow). c.parent) (grown_in b level) (λ (c : ComponentRow). Unit {0}) (Shallow (suc level))
      (λ row c rest e k. shallow_grown level (shallow_forest level) row c rest k) none tt parent 0 (components_in b.components)
      (all_if (λ (c : ComponentRow). Unit {0}) (λ c. tt) (components_in b.components))

  -- trees of tables nest no deeper than 64, and the tree of a row no deeper than its level and itself
  pub shallow : Shallow deepest (trees_in b)
  shallow = shallow_forest deepest no_parent

  pub shallow_row : (level row : ℕ) → Shallow (suc level) (tree_in b level row)
  unfolding Shallow
  shallow_row level row = shallow_grown level (shallow_forest level) row (get_or (components_in b.components) row (component_at [] 0)) none tt

-- ---- what Done says

by_table_rule_holds : (f : Option ℕ) (next : Output) → (by_table_rule not_written f next).answer ≡ done → (f ≡ None) × (next.answer ≡ done)
by_table_rule_holds None next e = (refl, e)
by_table_rule_holds (Some row) next e = absurd (omega arith)

by_writing_rule_holds : (j : Result (Unit {0}) Unfit) (next : Output) → (by_writing_rule j next).answer ≡ done → (j ≡ Ok tt) × (next.answer ≡ done)
by_writing_rule_holds (Ok fine) next e = (refl, e)
by_writing_rule_holds (Err unfit) next e = absurd (fault_not_done unfit.fault e)

by_length_holds : (needed room : ℕ) → (by_length needed room).answer ≡ done → (needed ≤ longest) × (needed ≤ room)
by_length_holds needed room e = go (leb needed longest) refl (leb needed room) refl e
  where
    go : (short : Bool) → leb needed longest ≡ short → (fits : Bool) → leb needed room ≡ fits
        → (pick short (pick fits (output done 0 needed) (output no_out_room 0 needed)) (output too_long 0 0)).answer ≡ done → (needed ≤ longest) × (needed ≤ room)
    go true s true f e = (leb-true needed longest s, leb-true needed room f)
    go true s false f e = absurd (omega arith)
    go false s fits f e = absurd (omega arith)

-- the tables meet both rules, and their bytes are within the byte limit and the room
pub accepted : (b : Lent) (room : ℕ) → (write_answer b room).answer ≡ done
    → (broken_in b ≡ None) × (judged_in b ≡ Ok tt) × (length (written_in b) ≤ longest) × (length (written_in b) ≤ room)
unfolding write_answer
accepted b room e =
    let t = by_table_rule_holds (broken_in b) (by_writing_rule (judged_in b) (by_length (length (written_in b)) room)) e in
    let w = by_writing_rule_holds (judged_in b) (by_length (length (written_in b)) room) t.1 in
    let l = by_length_holds (length (written_in b)) room w.1 in
    (t.0, w.0, l.0, l.1)
