-- What the answer of a twin test means: when it is Done with 1 and when with 0, that twins and loose twins are equivalences, and that the trees that are
-- compared are those that whole tables stand for. Assumes nothing.
use mathlib.Core.Path.{◌≡◌, refl, sym, ap, ◌∙◌}
use mathlib.Core.Bool.{Bool, true, false}
use mathlib.Core.List.{List, [], ◌∷◌}
use mathlib.Core.Logic.{◌↔◌}
use Prim.Native.Nat.{ℕ, suc, ◌+◌, ◌≤◌, ◌<◌}
use native.Mathlib.Nat.{add_comm}
use native.Mathlib.Numerals.{add-one}
use native.Mathlib.Omega.{arith}
use lib.ListN.{length, drop, length-drop}
use lib.Seq.{drop-cons}
use lib.Dec.{eqb, ltb}
use borrow.Author.Tests.{ltb-true, ltb-false}
use Rattle.octets.specs.Choice.{pick}
use Rattle.octets.specs.Answers.{done, bad_table, deepest}
use Rattle.tables.specs.Rows.{no_parent, component_at}
use Rattle.tables.specs.Lent.{Lent, broken_in, tree_in, trees_in}
use Rattle.tables.specs.Trees.{Trees, none, gather, grown, forest}
use Rattle.tables.specs.declared.ComponentRow.{ComponentRow}
use Rattle.std.specs.Prelude.{Option, Some, None}
use Rattle.tables.proofs.Levels.{tree_enough}
use Rattle.tables.proofs.Nested.{component_of, depth_of, rows_nested}
use Rattle.tables.proofs.Rule.{meets}
use Rattle.walking.proofs.Along.{comps, props, params}
use Rattle.escapes.specs.Loose.{same_text}
use Rattle.comparing.specs.Pieces.{same_value, same_parameters}
use Rattle.comparing.proofs.Equivalences.{Equivalence, of_bytes}
use Rattle.comparing.proofs.Pieces.{of_parameters}
use Rattle.matching.specs.Alike.{same_trees_by}
use Rattle.matching.specs.Meaning.{TwinTrees}
use Rattle.matching.proofs.Alike.{of_trees}
use Rattle.matching.proofs.Meaning.{twins_mean}
use Rattle.matching.proofs.Texts.{of_texts, twins_are_loose}
use Rattle.twins.specs.Answers.{compared, levels, rows_alike_by, compared_by, twin_rows, twins_answer, loose_twins_answer}
use Rattle.twins.specs.Tops.{before, trees_at, top_rows}
use Rattle.twins.specs.declared.Compared.{Compared}
use Rattle.twins.proofs.Answers.{broken_row, no_first, no_second, told}

-- ---- when it answers Done

-- the question can be asked: the table rule is met, and both numbers are below the count
pub record Asked (b : Lent) (first second : ℕ) : Type 0 where
  pub sound : broken_in b ≡ None
  pub first_there : first < length (comps b)
  pub second_there : second < length (comps b)

-- 1 for twins, 0 for others
abbrev as_number : Bool → ℕ
as_number t = pick t 1 0

-- over any test of values
module _ (values : List ℕ → List ℕ → Bool) (b : Lent) (first second : ℕ) where
  abbrev answer : Compared
  answer = compared_by values b first second

  -- a refusal is not Done
  refused : {n place : ℕ} → answer ≡ compared done 0 n → answer ≡ compared bad_table place 0 → ⊥
  refused e f = omega (arith, ap (λ (c : Compared). c.answer) (sym e ∙ f))

  asked : {n : ℕ} → answer ≡ compared done 0 n → Asked b first second
  asked e = by_rule (broken_in b) refl
    where
      by_second : broken_in b ≡ None → first < length (comps b) → (t : Bool) → ltb second (length (comps b)) ≡ t → Asked b first second
      by_second s h true t = record { sound = s; first_there = h; second_there = ltb-true second (length (comps b)) t }
      by_second s h false t = absurd (refused e (no_second values b first second s h (ltb-false second (length (comps b)) t)))

      by_first : broken_in b ≡ None → (t : Bool) → ltb first (length (comps b)) ≡ t → Asked b first second
      by_first s true t = by_second s (ltb-true first (length (comps b)) t) (ltb second (length (comps b))) refl
      by_first s false t = absurd (refused e (no_first values b first second s (ltb-false first (length (comps b)) t)))

      by_rule : (f : Option ℕ) → broken_in b ≡ f → Asked b first second
      by_rule None s = by_first s (ltb first (length (comps b))) refl
      by_rule (Some row) s = absurd (refused e (broken_row values b first second s))

  -- then it tells whether the trees are alike
  tells : Asked b first second → {t : Bool} → rows_alike_by values b first second ≡ t → answer ≡ compared done 0 (as_number t)
  tells a t = told values b first second a.sound a.first_there a.second_there ∙ rw t

  number : {n : ℕ} → answer ≡ compared done 0 n → {t : Bool} → rows_alike_by values b first second ≡ t → as_number t ≡ n
  number e t = ap (λ (c : Compared). c.twins) (sym (tells (asked e) t) ∙ e)

  -- Done with 1 exactly if the question can be asked and the trees are alike, and with 0 exactly if it can and they are not
  pub told_exactly : (t : Bool) → (answer ≡ compared done 0 (as_number t)) ↔ (Asked b first second × (rows_alike_by values b first second ≡ t))
  told_exactly t = (λ e. (asked e, is (rows_alike_by values b first second) t (number e refl)), λ a. tells a.0 a.1)
    where
      is : (t u : Bool) → as_number t ≡ as_number u → t ≡ u
      is true true e = refl
      is true false e = absurd (omega (arith, e))
      is false true e = absurd (omega (arith, e))
      is false false e = refl

-- what the answer of the twin test means
module _ (b : Lent) (first second : ℕ) where
  abbrev AreTwins : Type 0
  AreTwins = TwinTrees (tree_in b levels first) (tree_in b levels second)

  meaning : (twin_rows b first second ≡ true) ↔ AreTwins
  meaning = twins_mean (tree_in b levels first) (tree_in b levels second)

  -- Done with 1 exactly if the question can be asked and the trees are twins
  pub twins_exactly : (twins_answer b first second ≡ compared done 0 1) ↔ (Asked b first second × AreTwins)
  twins_exactly =
      let so = told_exactly same_value b first second true in
      (λ e. let a = so.0 e in (a.0, meaning.0 a.1), λ a. so.1 (a.0, meaning.1 a.1))

  -- Done with 0 exactly if it can be asked and they are not
  pub strangers_exactly : (twins_answer b first second ≡ compared done 0 0) ↔ (Asked b first second × (AreTwins → ⊥))
  strangers_exactly =
      let so = told_exactly same_value b first second false in
      (λ e. let a = so.0 e in (a.0, λ same. apart a.1 (meaning.1 same)), λ a. so.1 (a.0, unlike a.1 (twin_rows b first second) refl))
    where
      apart : twin_rows b first second ≡ false → twin_rows b first second ≡ true → ⊥
      apart e f = let z : ◌≡◌ {A = ℕ} 0 1 = cc in omega arith

      unlike : (AreTwins → ⊥) → (t : Bool) → twin_rows b first second ≡ t → t ≡ false
      unlike h true t = absurd (h (meaning.0 t))
      unlike h false t = refl

  -- rows of equal trees are twins
  pub equal_are_twins : Asked b first second → tree_in b levels first ≡ tree_in b levels second → twins_answer b first second ≡ compared done 0 1
  equal_are_twins a e = (told_exactly same_value b first second true).1 (a, rw e ((of_trees of_bytes of_parameters).itself (tree_in b levels second)))

-- ---- an equivalence of the rows of tables that meet the rule, if values are compared by one

-- two rows are alike, by a test of values
abbrev pub AlikeBy : (List ℕ → List ℕ → Bool) → Lent → ℕ → ℕ → Type 0
AlikeBy values b first second = compared_by values b first second ≡ compared done 0 1

module _ {values : List ℕ → List ℕ → Bool} (v : Equivalence values) (b : Lent) where
  abbrev trees : Equivalence (same_trees_by values same_parameters)
  trees = of_trees v of_parameters

  row_itself : (row : ℕ) → broken_in b ≡ None → row < length (comps b) → AlikeBy values b row row
  row_itself row s h = (told_exactly values b row row true).1 (record { sound = s; first_there = h; second_there = h }, trees.itself (tree_in b levels row))

  row_turned : (first second : ℕ) → AlikeBy values b first second → AlikeBy values b second first
  row_turned first second e =
      let a = (told_exactly values b first second true).0 e in
      (told_exactly values b second first true).1 (
        record { sound = a.0.sound; first_there = a.0.second_there; second_there = a.0.first_there },
        trees.turned (tree_in b levels first) (tree_in b levels second) a.1,
      )

  row_joined : (first second third : ℕ) → AlikeBy values b first second → AlikeBy values b second third → AlikeBy values b first third
  row_joined first second third e f =
      let a = (told_exactly values b first second true).0 e in
      let c = (told_exactly values b second third true).0 f in
      (told_exactly values b first third true).1 (
        record { sound = a.0.sound; first_there = a.0.first_there; second_there = c.0.second_there },
        trees.joined (tree_in b levels first) (tree_in b levels second) (tree_in b levels third) a.1 c.1,
      )

-- two rows are twins, or loose twins
abbrev pub Twins : Lent → ℕ → ℕ → Type 0
Twins b first second = twins_answer b first second ≡ compared done 0 1

abbrev pub LooseTwins : Lent → ℕ → ℕ → Type 0
LooseTwins b first second = loose_twins_answer b first second ≡ compared done 0 1

module _ (b : Lent) where
  pub twin_itself : (row : ℕ) → broken_in b ≡ None → row < length (comps b) → Twins b row row
  twin_itself = row_itself of_bytes b

  pub twin_turned : (first second : ℕ) → Twins b first second → Twins b second first
  twin_turned = row_turned of_bytes b

  pub twin_joined : (first second third : ℕ) → Twins b first second → Twins b second third → Twins b first third
  twin_joined = row_joined of_bytes b

  pub loose_itself : (row : ℕ) → broken_in b ≡ None → row < length (comps b) → LooseTwins b row row
  loose_itself = row_itself of_texts b

  pub loose_turned : (first second : ℕ) → LooseTwins b first second → LooseTwins b second first
  loose_turned = row_turned of_texts b

  pub loose_joined : (first second third : ℕ) → LooseTwins b first second → LooseTwins b second third → LooseTwins b first third
  loose_joined = row_joined of_texts b

  -- twins are loose twins
  pub twin_is_loose : (first second : ℕ) → Twins b first second → LooseTwins b first second
  twin_is_loose first second e =
      let a = (told_exactly same_value b first second true).0 e in
      (told_exactly same_text b first second true).1 (a.0, twins_are_loose (tree_in b levels first) (tree_in b levels second) a.1)

  -- ---- the trees that are compared

  -- the tree of a row is the same with every level that is enough below it, and 63 are
  pub level_enough : (level row : ℕ) → broken_in b ≡ None → row < length (comps b) → deepest ≤ depth_of (comps b) row + level
      → tree_in b level row ≡ tree_in b levels row
  level_enough level row s h e =
      let m = meets (length b.text) (comps b) (props b) (params b) s in
      let fits = m.components_fit in
      let more : (n k : ℕ) → deepest ≤ depth_of (comps b) row + n → tree_in b (n + k) row ≡ tree_in b n row =
      λ n k d. tree_enough b.text (comps b) (props b) (params b) (length b.text) fits n k row h d
      in
      sym (more level levels e)
      ∙ (ap (λ (n : ℕ). tree_in b n row) (add_comm level levels)
      ∙ more levels level (omega (arith, (rows_nested (comps b) (length b.text) fits row h).some)))

  -- the tree of a row before others
  abbrev put : ℕ → ComponentRow → Trees → Trees
  put = grown b.text (comps b) (props b) (params b) (forest b.text (comps b) (props b) (params b) levels)

  abbrev tops_from : ℕ → List ComponentRow → List ℕ
  tops_from = gather (λ (c : ComponentRow). c.parent) (λ row c rest. row ∷ rest) [] no_parent

  gathered : (xs : List ComponentRow) (i : ℕ) → xs ≡ drop i (comps b) → gather (λ (c : ComponentRow). c.parent) put none no_parent i xs ≡ trees_at b (tops_from i xs)
  unfolding gather before trees_at
  gathered [] i e = refl
  gathered (x ∷ xs) i e = go (eqb x.parent no_parent) (tops_from (i + 1) xs) (gathered xs (i + 1) (cc here))
    where
      l : i < length (comps b)
      l = omega (arith, length-drop i (comps b), ap length e)

      here : drop i (comps b) ≡ component_of (comps b) i ∷ drop (i + 1) (comps b)
      here = rw (add-one, drop-cons (comps b) i (component_at [] 0) l)

      first : x ≡ component_of (comps b) i
      first = cc here

      go : (t : Bool) (rows : List ℕ) {ts : Trees} → ts ≡ trees_at b rows → pick t (put i x ts) ts ≡ trees_at b (pick t (i ∷ rows) rows)
      go true rows same = rw (same, first)
      go false rows same = same

  one_level : (level parent : ℕ)
      → forest b.text (comps b) (props b) (params b) (suc level) parent
      ≡ gather (λ (c : ComponentRow). c.parent) (grown b.text (comps b) (props b) (params b) (forest b.text (comps b) (props b) (params b) level)) none parent 0 (comps b)
  unfolding forest
  one_level level parent = refl

  -- the trees of the tables are those of their top rows in turn
  pub tops_in_turn : trees_in b ≡ trees_at b (top_rows b)
  tops_in_turn = one_level levels no_parent ∙ gathered (comps b) 0 refl
