-- Laws of lists and trees that are alike, one of each at a time; an equivalence whatever equivalences compare values and parameters. Assumes nothing.
use mathlib.Core.Path.{◌≡◌, refl}
use mathlib.Core.Bool.{Bool, true, false, ◌&&◌, and-true, and_assoc}
use mathlib.Core.List.{List, [], ◌∷◌}
use Prim.Native.Nat.{ℕ}
use native.Mathlib.Omega.{arith}
use Rattle.octets.proofs.Bools.{both}
use Rattle.octets.proofs.Words.{same_refl}
use Rattle.tables.specs.Sizes.{component_count}
use Rattle.tables.specs.Trees.{Parameter, Property, Trees, none, tree}
use Rattle.comparing.specs.Pieces.{same_name, same_key}
use Rattle.comparing.proofs.Equivalences.{Equivalence, of_bytes, and_both, of_parts, of_both}
use Rattle.comparing.proofs.Pieces.{of_keys}
use Rattle.matching.specs.Alike.{alike, same_property_by, same_trees_by}

-- ---- lists

module _ {A : Type 0} (same : A → A → Bool) where
  module _ (xs ys rest rest' : List A) (x y : A) (e : xs ≡ x ∷ rest) (f : ys ≡ y ∷ rest') where
    -- the first ones agree: what is left compares as the whole does
    pub first_same : same x y ≡ true → alike same rest rest' ≡ alike same xs ys
    unfolding alike
    first_same t = rw (e, f, t)

    -- they do not
    pub first_other : same x y ≡ false → false ≡ alike same xs ys
    unfolding alike
    first_other t = rw (e, f, t)

  -- one list ends, or both
  pub both_end : (xs ys : List A) → xs ≡ [] → ys ≡ [] → true ≡ alike same xs ys
  unfolding alike
  both_end xs ys e f = rw (e, f)

  pub one_ends : (xs ys rest : List A) (y : A) → xs ≡ [] → ys ≡ y ∷ rest → false ≡ alike same xs ys
  unfolding alike
  one_ends xs ys rest y e f = rw (e, f)

  pub other_ends : (xs ys rest : List A) (x : A) → xs ≡ x ∷ rest → ys ≡ [] → false ≡ alike same xs ys
  unfolding alike
  other_ends xs ys rest x e f = rw (e, f)

module _ {A : Type 0} {same : A → A → Bool} (s : Equivalence same) where
  list_itself : (xs : List A) → alike same xs xs ≡ true
  unfolding alike
  list_itself [] = refl
  list_itself (x ∷ xs) = and_both (same x x) (alike same xs xs) (s.itself x) (list_itself xs)

  list_turned : (xs ys : List A) → alike same xs ys ≡ true → alike same ys xs ≡ true
  unfolding alike
  list_turned [] [] e = refl
  list_turned [] (y ∷ ys) e = cc
  list_turned (x ∷ xs) [] e = cc
  list_turned (x ∷ xs) (y ∷ ys) e =
      let p = both (same x y) (alike same xs ys) e in
      and_both (same y x) (alike same ys xs) (s.turned x y p.0) (list_turned xs ys p.1)

  list_joined : (xs ys zs : List A) → alike same xs ys ≡ true → alike same ys zs ≡ true → alike same xs zs ≡ true
  unfolding alike
  list_joined [] [] zs e f = f
  list_joined [] (y ∷ ys) zs e f = absurd (let z : ◌≡◌ {A = ℕ} 0 1 = cc in omega arith)
  list_joined (x ∷ xs) [] zs e f = absurd (let z : ◌≡◌ {A = ℕ} 0 1 = cc in omega arith)
  list_joined (x ∷ xs) (y ∷ ys) [] e f = f
  list_joined (x ∷ xs) (y ∷ ys) (z ∷ zs) e f =
      let p = both (same x y) (alike same xs ys) e in
      let q = both (same y z) (alike same ys zs) f in
      and_both (same x z) (alike same xs zs) (s.joined x y z p.0 q.0) (list_joined xs ys zs p.1 q.1)

  pub of_lists : Equivalence (alike same)
  of_lists = record { itself = list_itself; turned = list_turned; joined = list_joined }

-- a test that passes wherever another does passes lists that the other does
list_weaker : {A : Type 0} {same also : A → A → Bool} → ((x y : A) → same x y ≡ true → also x y ≡ true) → (xs ys : List A) → alike same xs ys ≡ true → alike also xs ys ≡ true
unfolding alike
list_weaker w [] [] e = refl
list_weaker w [] (y ∷ ys) e = cc
list_weaker w (x ∷ xs) [] e = cc
list_weaker {A} {same} {also} w (x ∷ xs) (y ∷ ys) e =
    let p = both (same x y) (alike same xs ys) e in
    and_both (also x y) (alike also xs ys) (w x y p.0) (list_weaker w xs ys p.1)

-- ---- properties

-- key and value first, and then the parameters
pub by_key_and_value : (values : List ℕ → List ℕ → Bool) (parameters : List Parameter → List Parameter → Bool) (p q : Property)
    → same_property_by values parameters p q ≡ (same_key p.key q.key && values p.value q.value) && parameters p.parameters q.parameters
by_key_and_value values parameters p q = simp and_assoc

-- ---- trees

module _ {values : List ℕ → List ℕ → Bool} {parameters : List Parameter → List Parameter → Bool} (v : Equivalence values) (p : Equivalence parameters) where
  of_properties : Equivalence (same_property_by values parameters)
  of_properties =
      of_both (of_parts (λ (p : Property). p.key) of_keys)
      (of_both (of_parts (λ (p : Property). p.value) v) (of_parts (λ (p : Property). p.parameters) p))

  properties_are : Equivalence (alike (same_property_by values parameters))
  properties_are = of_lists of_properties

  trees_itself : (a : Trees) → same_trees_by values parameters a a ≡ true
  unfolding same_trees_by
  trees_itself none = refl
  trees_itself (tree name properties children rest) =
      rw (same_refl name, properties_are.itself properties, trees_itself children, trees_itself rest)

  trees_turned : (a b : Trees) → same_trees_by values parameters a b ≡ true → same_trees_by values parameters b a ≡ true
  unfolding same_trees_by
  trees_turned none none e = refl
  trees_turned none (tree name properties children rest) e = cc
  trees_turned (tree name properties children rest) none e = cc
  trees_turned (tree n ps cs ts) (tree n' ps' cs' ts') e =
      let t = both (same_name n n') _ e in
      let u = both (alike (same_property_by values parameters) ps ps') _ t.1 in
      let w = both (same_trees_by values parameters cs cs') (same_trees_by values parameters ts ts') u.1 in
      rw (of_bytes.turned n n' t.0, properties_are.turned ps ps' u.0, trees_turned cs cs' w.0, trees_turned ts ts' w.1)

  trees_joined : (a b c : Trees) → same_trees_by values parameters a b ≡ true → same_trees_by values parameters b c ≡ true → same_trees_by values parameters a c ≡ true
  unfolding same_trees_by
  trees_joined none none c e f = f
  trees_joined none (tree name properties children rest) c e f = absurd (let z : ◌≡◌ {A = ℕ} 0 1 = cc in omega arith)
  trees_joined (tree name properties children rest) none c e f = absurd (let z : ◌≡◌ {A = ℕ} 0 1 = cc in omega arith)
  trees_joined (tree n ps cs ts) (tree n' ps' cs' ts') none e f = f
  trees_joined (tree n ps cs ts) (tree n' ps' cs' ts') (tree n'' ps'' cs'' ts'') e f =
      let t = both (same_name n n') _ e in
      let u = both (alike (same_property_by values parameters) ps ps') _ t.1 in
      let w = both (same_trees_by values parameters cs cs') (same_trees_by values parameters ts ts') u.1 in
      let t' = both (same_name n' n'') _ f in
      let u' = both (alike (same_property_by values parameters) ps' ps'') _ t'.1 in
      let w' = both (same_trees_by values parameters cs' cs'') (same_trees_by values parameters ts' ts'') u'.1 in
      rw (
        of_bytes.joined n n' n'' t.0 t'.0,
        properties_are.joined ps ps' ps'' u.0 u'.0,
        trees_joined cs cs' cs'' w.0 w'.0,
        trees_joined ts ts' ts'' w.1 w'.1,
      )

  -- trees are compared by an equivalence, if values and parameters are
  pub of_trees : Equivalence (same_trees_by values parameters)
  of_trees = record { itself = trees_itself; turned = trees_turned; joined = trees_joined }

-- and so with a test of values
module _ {values other : List ℕ → List ℕ → Bool} (w : (v u : List ℕ) → values v u ≡ true → other v u ≡ true) (parameters : List Parameter → List Parameter → Bool) where
  property_weaker : (p q : Property) → same_property_by values parameters p q ≡ true → same_property_by other parameters p q ≡ true
  property_weaker p q e =
      let t = both (same_key p.key q.key) _ e in
      let u = both (values p.value q.value) (parameters p.parameters q.parameters) t.1 in
      rw (t.0, w p.value q.value u.0, u.1)

  pub trees_weaker : (a b : Trees) → same_trees_by values parameters a b ≡ true → same_trees_by other parameters a b ≡ true
  unfolding same_trees_by
  trees_weaker none none e = refl
  trees_weaker none (tree name properties children rest) e = cc
  trees_weaker (tree name properties children rest) none e = cc
  trees_weaker (tree n ps cs ts) (tree n' ps' cs' ts') e =
      let t = both (same_name n n') _ e in
      let u = both (alike (same_property_by values parameters) ps ps') _ t.1 in
      let x = both (same_trees_by values parameters cs cs') (same_trees_by values parameters ts ts') u.1 in
      rw (t.0, list_weaker property_weaker ps ps' u.0, trees_weaker cs cs' x.0, trees_weaker ts ts' x.1)

-- ---- trees side by side

module _ (values : List ℕ → List ℕ → Bool) (parameters : List Parameter → List Parameter → Bool) where
  -- trees that are alike have equally many components, whatever the tests are
  as_many : (a b : Trees) → same_trees_by values parameters a b ≡ true → component_count a ≡ component_count b
  unfolding same_trees_by component_count
  as_many none none e = refl
  as_many none (tree name properties children rest) e = absurd (let z : ◌≡◌ {A = ℕ} 0 1 = cc in omega arith)
  as_many (tree name properties children rest) none e = absurd (let z : ◌≡◌ {A = ℕ} 0 1 = cc in omega arith)
  as_many (tree n ps cs ts) (tree n' ps' cs' ts') e =
      let t = both (same_name n n') _ e in
      let u = both (alike (same_property_by values parameters) ps ps') _ t.1 in
      let w = both (same_trees_by values parameters cs cs') (same_trees_by values parameters ts ts') u.1 in
      rw (as_many cs cs' w.0, as_many ts ts' w.1)

  pub other_count : (a b : Trees) → (component_count a ≡ component_count b → ⊥) → same_trees_by values parameters a b ≡ false
  other_count a b h = go (same_trees_by values parameters a b) refl
    where
      go : (t : Bool) → same_trees_by values parameters a b ≡ t → t ≡ false
      go true e = absurd (h (as_many a b e))
      go false e = refl

  -- two trees alone: names and properties, and then children
  pub alone : (n n' : List ℕ) (ps ps' : List Property) (cs cs' : Trees)
      → same_trees_by values parameters (tree n ps cs none) (tree n' ps' cs' none)
      ≡ (same_name n n' && alike (same_property_by values parameters) ps ps') && same_trees_by values parameters cs cs'
  unfolding same_trees_by
  alone n n' ps ps' cs cs' = simp (and-true, and_assoc)

  -- the first of each side, and then the rest of each
  pub first_then : (n n' : List ℕ) (ps ps' : List Property) (cs cs' ts ts' : Trees)
      → same_trees_by values parameters (tree n ps cs ts) (tree n' ps' cs' ts')
      ≡ same_trees_by values parameters (tree n ps cs none) (tree n' ps' cs' none) && same_trees_by values parameters ts ts'
  unfolding same_trees_by
  first_then n n' ps ps' cs cs' ts ts' = simp (and-true, and_assoc)

  -- none on one side or on both
  pub none_both : same_trees_by values parameters none none ≡ true
  unfolding same_trees_by
  none_both = refl

  pub none_first : (n : List ℕ) (ps : List Property) (cs ts : Trees) → same_trees_by values parameters none (tree n ps cs ts) ≡ false
  unfolding same_trees_by
  none_first n ps cs ts = refl

  pub none_second : (n : List ℕ) (ps : List Property) (cs ts : Trees) → same_trees_by values parameters (tree n ps cs ts) none ≡ false
  unfolding same_trees_by
  none_second n ps cs ts = refl
