-- The twin test says what twins are: keys equal in lower case, parameters the same in some order, all else exact. Assumes nothing.
use mathlib.Core.Path.{◌≡◌, refl}
use mathlib.Core.Bool.{true, false≢true}
use mathlib.Core.List.{List, [], ◌∷◌, map}
use mathlib.Core.Logic.{◌↔◌}
use Prim.Native.Nat.{ℕ}
use Rattle.octets.specs.Bytes.{lowered}
use Rattle.octets.proofs.Bools.{both}
use Rattle.octets.proofs.Words.{same_eq, same_refl}
use Rattle.tables.specs.Trees.{Parameter, Property, Trees, none, tree}
use Rattle.comparing.specs.Orders.{Reordered, OneByOne, both_end, each}
use Rattle.comparing.specs.Pieces.{same_name, same_key, same_value, same_held, same_parameter, same_parameters}
use Rattle.comparing.proofs.Orders.{plain_orders}
use Rattle.comparing.proofs.Pieces.{key_lowered_twice, held_passes, held_equal, of_parameter}
use Rattle.matching.specs.Alike.{alike, same_property, same_properties, same_trees_by, same_trees}
use Rattle.matching.specs.Meaning.{in_lower_case, TwinProperty, TwinTrees, no_trees, first}

-- ---- parameters

-- a parameter passes beside itself in lower case
lower_case_passes : (p : Parameter) → same_parameter p (in_lower_case p) ≡ true
lower_case_passes p = rw (key_lowered_twice p.key, same_refl (map lowered p.key), held_passes p.value)

-- parameters that pass are equal in lower case
lower_case_equal : (p q : Parameter) → same_parameter p q ≡ true → in_lower_case p ≡ in_lower_case q
lower_case_equal p q e =
    let t = both (same_key p.key q.key) (same_held p.value q.value) e in
    rw (same_eq (map lowered p.key) (map lowered q.key) t.0, held_equal p.value q.value t.1)

-- the parameters of two properties are the same exactly if, with keys in lower case, they are the same in some order
pub parameters_mean : (ps qs : List Parameter) → (same_parameters ps qs ≡ true) ↔ Reordered (map in_lower_case ps) (map in_lower_case qs)
parameters_mean = plain_orders of_parameter in_lower_case lower_case_passes lower_case_equal

-- ---- properties

property_is_twin : (p q : Property) → same_property p q ≡ true → TwinProperty p q
property_is_twin p q e =
    let t = both (same_key p.key q.key) _ e in
    let u = both (same_value p.value q.value) (same_parameters p.parameters q.parameters) t.1 in
    record {
      key = same_eq (map lowered p.key) (map lowered q.key) t.0;
      value = same_eq p.value q.value u.0;
      parameters = (parameters_mean p.parameters q.parameters).0 u.1;
    }

twin_property_passes : (p q : Property) → TwinProperty p q → same_property p q ≡ true
twin_property_passes p q t =
    rw (
      t.key,
      same_refl (map lowered q.key),
      t.value,
      same_refl q.value,
      (parameters_mean p.parameters q.parameters).1 t.parameters,
    )

properties_are_twins : (ps qs : List Property) → same_properties ps qs ≡ true → OneByOne TwinProperty ps qs
unfolding alike
properties_are_twins [] [] e = both_end
properties_are_twins [] (q ∷ qs) e = absurd (false≢true e)
properties_are_twins (p ∷ ps) [] e = absurd (false≢true e)
properties_are_twins (p ∷ ps) (q ∷ qs) e =
    let t = both (same_property p q) (same_properties ps qs) e in
    each (property_is_twin p q t.0) (properties_are_twins ps qs t.1)

twin_properties_pass : {ps qs : List Property} → OneByOne TwinProperty ps qs → same_properties ps qs ≡ true
unfolding alike
twin_properties_pass both_end = refl
twin_properties_pass (each {x} {y} t rest) = rw (twin_property_passes x y t) (twin_properties_pass rest)

-- lists of properties pass exactly if their properties are twins in order
properties_mean : (ps qs : List Property) → (same_properties ps qs ≡ true) ↔ OneByOne TwinProperty ps qs
properties_mean ps qs = (properties_are_twins ps qs, twin_properties_pass)

-- ---- trees

-- the second name is the first, so one name serves both
under_one_name : (name name' : List ℕ) → name ≡ name' → {ps qs : List Property} {children children' rest rest' : Trees} → OneByOne TwinProperty ps qs
    → TwinTrees children children' → TwinTrees rest rest' → TwinTrees (tree name ps children rest) (tree name' qs children' rest')
under_one_name name name' e properties children rest = rw e (first properties children rest)

trees_are_twins : (a b : Trees) → same_trees a b ≡ true → TwinTrees a b
unfolding same_trees_by
trees_are_twins none none e = no_trees
trees_are_twins none (tree name properties children rest) e = absurd (false≢true e)
trees_are_twins (tree name properties children rest) none e = absurd (false≢true e)
trees_are_twins (tree n ps cs ts) (tree n' ps' cs' ts') e =
    let t = both (same_name n n') _ e in
    let u = both (same_properties ps ps') _ t.1 in
    let w = both (same_trees cs cs') (same_trees ts ts') u.1 in
    under_one_name n n' (same_eq n n' t.0) ((properties_mean ps ps').0 u.0) (trees_are_twins cs cs' w.0) (trees_are_twins ts ts' w.1)

twin_trees_pass : {a b : Trees} → TwinTrees a b → same_trees a b ≡ true
unfolding same_trees_by
twin_trees_pass no_trees = refl
twin_trees_pass (first {name} {ps} {qs} properties children rest) =
    rw (same_refl name, (properties_mean ps qs).1 properties, twin_trees_pass children, twin_trees_pass rest)

-- so the twin test says what twins are
pub twins_mean : (a b : Trees) → (same_trees a b ≡ true) ↔ TwinTrees a b
twins_mean a b = (trees_are_twins a b, twin_trees_pass)
