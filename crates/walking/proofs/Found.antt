-- What is found in a window, and in a run of parameters, is all that there is. Assumes nothing.
use mathlib.Core.Path.{◌≡◌, refl, sym, ap, ◌∙◌}
use mathlib.Core.Bool.{Bool, true, false}
use mathlib.Core.List.{List, [], ◌∷◌, map}
use Prim.Native.Nat.{ℕ, suc, ◌+◌, ◌-◌, ◌≤◌, ◌<◌}
use native.Mathlib.Nat.{zero-add, le_refl}
use native.Mathlib.Omega.{arith}
use lib.ListN.{length, get_or, take, drop, take-append-drop, length-drop}
use lib.Seq.{get_or-take, get_or-drop, length-take-le}
use lib.Dec.{eqb, leb, ltb}
use borrow.Author.Tests.{ltb-true, ltb-false, leb-true, eqb-true, eqb-false, ne_eqb}
use Rattle.octets.specs.Choice.{pick}
use Rattle.octets.proofs.Bools.{both}
use Rattle.tables.specs.Fronts.{front, belongs}
use Rattle.tables.specs.TableRule.{inside, rising_in, parameter_fits, broken_parameter}
use Rattle.tables.specs.Trees.{Parameter, gather, parameter_of, parameters_of}
use Rattle.tables.specs.declared.ComponentRow.{ComponentRow}
use Rattle.tables.specs.declared.PropertyRow.{PropertyRow}
use Rattle.tables.specs.declared.ParameterRow.{ParameterRow}
use Rattle.std.specs.Prelude.{None}
use Rattle.tables.proofs.Fronts.{passed}
use Rattle.tables.proofs.Gathered.{parts, strangers, passed as passed_over}
use Rattle.tables.proofs.Rule.{first_fits}
use Rattle.walking.specs.declared.Window.{Window}
use Rattle.walking.specs.Walk.{held_before, Holds}
use Rattle.walking.specs.Places.{rises}

-- rows of others before n, and from n on, may be left out
module _ {A R : Type 0} (owner_of : A → ℕ) (before : ℕ → A → R → R) (end : R) (owner : ℕ) (xs : List A) (n : ℕ) where
  pub from_first : n ≤ length xs → ((i : ℕ) (d : A) → i < n → owner_of (get_or xs i d) ≡ owner → ⊥)
      → gather owner_of before end owner 0 xs ≡ gather owner_of before end owner n (drop n xs)
  from_first h other =
      let size = length-take-le n xs h in
      ap (gather owner_of before end owner 0) (sym (take-append-drop n xs))
      ∙ parts owner_of before end owner 0 (take n xs) (drop n xs)
      ∙ strangers owner_of before (gather owner_of before end owner (0 + length (take n xs)) (drop n xs)) owner 0 (take n xs)
      (λ i d l e. let k : i < n = omega arith in other i d k (rw (get_or-take n xs i d k) at e))
      ∙ rw (size, zero-add)

  up_to : (row : ℕ) → ((i : ℕ) (d : A) → n ≤ i → i < length xs → owner_of (get_or xs i d) ≡ owner → ⊥)
      → gather owner_of before end owner row xs ≡ gather owner_of before end owner row (take n xs)
  up_to row other =
      ap (gather owner_of before end owner row) (sym (take-append-drop n xs))
      ∙ parts owner_of before end owner row (take n xs) (drop n xs)
      ∙ ap (λ (r : R). gather owner_of before r owner row (take n xs))
      (strangers owner_of before end owner (row + length (take n xs)) (drop n xs)
      (λ i d l e. other (n + i) d (omega arith) (omega (arith, length-drop n xs)) (rw get_or-drop at e)))

-- the properties of a component, gathered from its window alone
pub in_window : {R : Type 0} (before : ℕ → PropertyRow → R → R) (end : R)
    {components : List ComponentRow} (properties : List PropertyRow) {parameters : List ParameterRow} {row : ℕ} {w : Window}
    → Holds components properties parameters row w
    → gather (λ (p : PropertyRow). p.owner) before end row 0 properties
    ≡ gather (λ (p : PropertyRow). p.owner) before end row w.first (take (w.last - w.first) (drop w.first properties))
in_window before end properties {row = row} {w = w} h =
    from_first (λ (p : PropertyRow). p.owner) before end row properties w.first (omega (arith, h.first, h.last)) h.before
    ∙ up_to (λ (p : PropertyRow). p.owner) before end row (drop w.first properties) (w.last - w.first) w.first
    (λ i d l k e. h.behind (w.first + i) d (omega (arith, h.first)) (omega (arith, length-drop w.first properties)) (rw get_or-drop at e))

-- parameter rows by rising property, none before `seen`
data Rising : ℕ → List ParameterRow → Type 0 where
  no_row : {seen : ℕ} → Rising seen []
  row : {seen : ℕ} {q : ParameterRow} {qs : List ParameterRow} → seen ≤ q.property → Rising q.property qs → Rising seen (q ∷ qs)

-- by the table rule they do
pub rule_rises : (text_length properties at seen : ℕ) (qs : List ParameterRow) → broken_parameter text_length properties at seen qs ≡ None → rises seen qs ≡ true
unfolding rises
rule_rises text_length properties at seen [] sound = refl
rule_rises text_length properties at seen (q ∷ qs) sound =
    let step = first_fits (parameter_fits text_length properties) (λ at seen p. p.property) at seen q qs sound in
    let fits = (both (inside text_length q.value_start q.value_len) _ (both (inside text_length q.key_start q.key_len) _ step.0).1).1 in
    rw ((both (leb seen q.property) _ (both (rising_in properties seen q) _ fits).0).0) (rule_rises text_length properties (at + 1) q.property qs step.1)

rising : (seen : ℕ) (qs : List ParameterRow) → rises seen qs ≡ true → Rising seen qs
unfolding rises
rising seen [] e = no_row
rising seen (q ∷ qs) e =
    let t = both (leb seen q.property) (rises q.property qs) e in
    row (leb-true seen q.property t.0) (rising q.property qs t.1)

-- the parameters of a property stand in one run
module _ (text : List ℕ) (property : ℕ) where
  abbrev run : List ParameterRow → List ParameterRow
  run qs = take (front (belongs property) qs) qs

  abbrev found : ℕ → List ParameterRow → List Parameter
  found at qs = gather (λ (p : ParameterRow). p.property) (λ row p rest. parameter_of text p ∷ rest) [] property at qs

  -- behind a later property there are none
  past : {seen : ℕ} {qs : List ParameterRow} (at : ℕ) → Rising seen qs → property < seen → found at qs ≡ []
  unfolding gather
  past at no_row h = refl
  past at (row {q = q} l r) h = rw (ne_eqb q.property property (λ e. omega arith)) (past (at + 1) r (omega arith))

  in_run : {seen : ℕ} {qs : List ParameterRow} (at : ℕ) → Rising seen qs → property ≤ seen → map (parameter_of text) (run qs) ≡ found at qs
  unfolding front gather
  in_run at no_row h = refl
  in_run at (row {q = q} {qs = qs} l r) h = go (eqb q.property property) refl
      (λ e. in_run (at + 1) r (omega (arith, eqb-true q.property property e))) (λ e. past (at + 1) r (omega (arith, eqb-false q.property property e)))
    where
      go : (t : Bool) → eqb q.property property ≡ t
          → (eqb q.property property ≡ true → map (parameter_of text) (run qs) ≡ found (at + 1) qs)
          → (eqb q.property property ≡ false → found (at + 1) qs ≡ [])
          → map (parameter_of text) (take (pick t (suc (front (belongs property) qs)) 0) (q ∷ qs)) ≡ pick t (parameter_of text q ∷ found (at + 1) qs) (found (at + 1) qs)
      go true e more none = ap (λ (ps : List Parameter). parameter_of text q ∷ ps) (more e)
      go false e more none = sym (none e)

  run_found : {seen : ℕ} {qs : List ParameterRow} (at : ℕ) → Rising seen qs
      → map (parameter_of text) (run (drop (front (held_before property) qs) qs)) ≡ found at qs
  unfolding front gather
  run_found at no_row = refl
  run_found at (row {q = q} {qs = qs} l r) = go (ltb q.property property) refl (run_found (at + 1) r)
      (λ h. in_run at (row {seen = property} h r) (le_refl property))
    where
      go : (t : Bool) → ltb q.property property ≡ t
          → map (parameter_of text) (run (drop (front (held_before property) qs) qs)) ≡ found (at + 1) qs
          → (property ≤ q.property → map (parameter_of text) (run (q ∷ qs)) ≡ found at (q ∷ qs))
          → map (parameter_of text) (run (drop (pick t (suc (front (held_before property) qs)) 0) (q ∷ qs))) ≡ found at (q ∷ qs)
      go true e on here =
          on
          ∙ sym (passed_over (λ (p : ParameterRow). p.property) (λ row p rest. parameter_of text p ∷ rest) [] property at (q ∷ qs) qs q refl
          (λ p. omega (arith, ltb-true q.property property e)))
      go false e on here = here (ltb-false q.property property e)

-- so a search from any row on that is not behind the first of them finds them all
pub run_is_all : (text : List ℕ) (parameters : List ParameterRow) (property first from seen : ℕ) → rises seen parameters ≡ true
    → from ≤ front (held_before property) parameters → first ≡ from + front (held_before property) (drop from parameters)
    → map (parameter_of text) (take (front (belongs property) (drop first parameters)) (drop first parameters)) ≡ parameters_of text parameters property
run_is_all text parameters property first from seen rise h e =
    rw (e ∙ passed (held_before property) from parameters h) (run_found text property 0 (rising seen parameters rise))
