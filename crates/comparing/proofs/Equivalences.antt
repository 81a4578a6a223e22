-- Tests that are equivalences: equal bytes, a part of each, and two tests in turn. Assumes nothing.
use mathlib.Core.Path.{◌≡◌}
use mathlib.Core.Bool.{Bool, true, ◌&&◌}
use Rattle.octets.proofs.Bools.{both}
use Rattle.octets.specs.Words.{same_bytes}
use Rattle.octets.proofs.Words.{same_eq, same_refl}

pub record Equivalence {A : Type 0} (same : A → A → Bool) : Type 0 where
  pub itself : (x : A) → same x x ≡ true
  pub turned : (x y : A) → same x y ≡ true → same y x ≡ true
  pub joined : (x y z : A) → same x y ≡ true → same y z ≡ true → same x z ≡ true

-- a test that passes exactly where the two are equal is one
module _ {A : Type 0} {same : A → A → Bool} (passes : (x : A) → same x x ≡ true) (equal : (x y : A) → same x y ≡ true → x ≡ y) where
  pub of_equals : Equivalence same
  of_equals =
      record {
        itself = passes;
        turned = λ x y e. rw (equal x y e) (passes y);
        joined = λ x y z e f. rw (equal x y e) f;
      }

pub of_bytes : Equivalence same_bytes
of_bytes = of_equals same_refl same_eq

pub and_both : (a b : Bool) → a ≡ true → b ≡ true → a && b ≡ true
and_both a b e f = rw (e, f)

module _ {A B : Type 0} (part : A → B) {same : B → B → Bool} (s : Equivalence same) where
  -- of a part of each
  pub of_parts : Equivalence (λ (x y : A). same (part x) (part y))
  of_parts =
      record {
        itself = λ x. s.itself (part x);
        turned = λ x y. s.turned (part x) (part y);
        joined = λ x y z. s.joined (part x) (part y) (part z);
      }

module _ {A : Type 0} {same also : A → A → Bool} (s : Equivalence same) (t : Equivalence also) where
  pub of_both : Equivalence (λ (x y : A). same x y && also x y)
  of_both =
      record {
        itself = λ x. and_both (same x x) (also x x) (s.itself x) (t.itself x);
        turned = λ x y e. let p = both (same x y) (also x y) e in and_both (same y x) (also y x) (s.turned x y p.0) (t.turned x y p.1);
        joined = λ x y z e f.
            let p = both (same x y) (also x y) e in
            let q = both (same y z) (also y z) f in
            and_both (same x z) (also x z) (s.joined x y z p.0 q.0) (t.joined x y z p.1 q.1);
      }
