-- Laws of the parameters of a line: one turn of reading them, and how many bytes they take.
-- Assumes nothing.
use Prim.Native.Nat.{ℕ, zero, suc, ◌+◌, ◌-◌, ◌≤◌}
use mathlib.Core.Path.{◌≡◌, refl, sym, ap, ◌∙◌}
use mathlib.Core.List.{List, [], ◌∷◌, map}
use native.Mathlib.Omega.{arith}
use native.Mathlib.Nat.{add-zero, add_assoc}
use lib.ListN.{length, drop, length-drop, drop_of_length-le, length-map}
use lib.Seq.{drop-drop}
use Rattle.octets.specs.Bytes.{semicolon}
use Rattle.parameters.specs.declared.Value.{Value}
use Rattle.parameters.specs.declared.Value.TheVariants.{Absent, Present}
use Rattle.parameters.specs.declared.Param.{Param}
use Rattle.std.specs.Prelude.{Option, Some, None}
use Rattle.parameters.specs.Parameter.{front_of}
use Rattle.parameters.specs.Parameters.{value_moved, moved, front_used, and_later, params_after, params_of, params_used, passed, passed_of}
use Rattle.parameters.proofs.Laws.{value_len, found_is, found_inside}

-- the bytes of a parameter that has begun are passed over
params_skip : (at k : ℕ) (xs : List ℕ) → params_after at k xs ≡ params_after (at + k) 0 (drop k xs)
unfolding params_after
params_skip at zero xs = rw add-zero
params_skip at (suc k) [] = refl
params_skip at (suc k) (x ∷ xs) =
    let e : at + 1 + k ≡ at + suc k = omega arith in
    params_skip (at + 1) k xs ∙ rw e

front_empty : (p : Param) → front_of [] ≡ Some p → ⊥
front_empty p h = let z : ◌≡◌ {A = ℕ} 0 semicolon = (found_is [] h).0 in omega arith

pub turn : (at : ℕ) (xs : List ℕ) (p : Param) → front_of xs ≡ Some p → params_after at 0 xs ≡ moved at p ∷ params_after (at + p.used) 0 (drop p.used xs)
unfolding params_after
turn at [] p h = absurd (front_empty p h)
turn at (x ∷ xs) p h =
    let i = found_inside (x ∷ xs) h in
    let u : p.used ≡ suc (p.used - 1) = omega (arith, i.some) in
    let e : at + 1 + (p.used - 1) ≡ at + p.used = omega (arith, i.some) in
    rw h (ap (◌∷◌ (moved at p)) (params_skip (at + 1) (p.used - 1) xs ∙ rw e (ap (λ (n : ℕ). params_after (at + p.used) 0 (drop n (x ∷ xs))) (sym u))))

pub stop : (at : ℕ) (xs : List ℕ) → front_of xs ≡ None → params_after at 0 xs ≡ []
unfolding params_after
stop at [] h = refl
stop at (x ∷ xs) h = rw h

-- ---- one turn, at the offset `at` of a line

pub params_found : (line : List ℕ) (at : ℕ) (p : Param) → front_of (drop at line) ≡ Some p → params_of line at ≡ moved at p ∷ params_of line (at + p.used)
params_found line at p h = turn at (drop at line) p h ∙ rw drop-drop

pub params_none : (line : List ℕ) (at : ℕ) → front_of (drop at line) ≡ None → params_of line at ≡ []
params_none line at h = stop at (drop at line) h

pub params_end : (line : List ℕ) (at : ℕ) → length line ≤ at → params_of line at ≡ []
unfolding params_after
params_end line at h = rw (drop_of_length-le line h)

-- ---- a line's parameters, read from its rest

value_twice : (a b : ℕ) (v : Value) → value_moved (a + b) v ≡ value_moved a (value_moved b v)
value_twice a b Absent = refl
value_twice a b (Present s) = rw add_assoc

moved_twice : (a b : ℕ) (p : Param) → moved (a + b) p ≡ moved a (moved b p)
moved_twice a b p = rw (value_twice a b p.value, add_assoc)

pub params_moved : (by at k : ℕ) (xs : List ℕ) → params_after (by + at) k xs ≡ map (moved by) (params_after at k xs)
unfolding params_after
params_moved by at k [] = refl
params_moved by at zero (x ∷ xs) = go (front_of (x ∷ xs)) (λ k. rw add_assoc (params_moved by (at + 1) k xs))
  where
    go : (f : Option Param) → ((k : ℕ) → params_after (by + at + 1) k xs ≡ map (moved by) (params_after (at + 1) k xs))
        → and_later f (by + at) (params_after (by + at + 1) (front_used f - 1) xs) ≡ map (moved by) (and_later f at (params_after (at + 1) (front_used f - 1) xs))
    go None ih = refl
    go (Some p) ih = rw (moved_twice by at p, ih (p.used - 1))
params_moved by at (suc k) (x ∷ xs) = rw add_assoc (params_moved by (at + 1) k xs)

pub params_rest : (line : List ℕ) (at : ℕ) → params_of line at ≡ map (moved at) (params_of (drop at line) 0)
params_rest line at =
    let e : at + 0 ≡ at = omega arith in
    rw e at (params_moved at 0 0 (drop at line))

map_used : (by : ℕ) (ps : List Param) → params_used (map (moved by) ps) ≡ params_used ps
unfolding params_used
map_used by [] = refl
map_used by (p ∷ ps) = ap (◌+◌ p.used) (map_used by ps)

-- how many they are, and how many bytes they take, is the same seen from the line as from its rest
pub params_passed : (line : List ℕ) (at : ℕ) → passed (length (params_of line at)) (params_used (params_of line at)) ≡ passed_of (drop at line)
params_passed line at = rw (params_rest line at, length-map, map_used)

pub used_moved : (by : ℕ) (xs : List ℕ) → params_used (params_after by 0 xs) ≡ params_used (params_of xs 0)
used_moved by xs =
    let e : by + 0 ≡ by = omega arith in
    ap params_used (rw e at (params_moved by 0 0 xs)) ∙ map_used by (params_after 0 0 xs)

-- ---- how many bytes they take

used_within : (at k : ℕ) (xs : List ℕ) → k ≤ length xs → k + params_used (params_after at k xs) ≤ length xs
unfolding params_after params_used
used_within at k [] h = omega arith
used_within at zero (x ∷ xs) h = go (front_of (x ∷ xs)) refl (λ k. used_within (at + 1) k xs)
  where
    go : (f : Option Param) → front_of (x ∷ xs) ≡ f → ((k : ℕ) → k ≤ length xs → k + params_used (params_after (at + 1) k xs) ≤ length xs)
        → 0 + params_used (and_later f at (params_after (at + 1) (front_used f - 1) xs)) ≤ suc (length xs)
    go None e ih = omega arith
    go (Some p) e ih =
        let i = found_inside (x ∷ xs) e in
        let u : p.used - 1 ≤ length xs = omega (arith, i.all) in
        omega (arith, i.some, ih (p.used - 1) u)
used_within at (suc k) (x ∷ xs) h = omega (arith, used_within (at + 1) k xs (omega arith))

used_few : (at k : ℕ) (xs : List ℕ) → length (params_after at k xs) ≤ params_used (params_after at k xs)
unfolding params_after params_used
used_few at k [] = omega arith
used_few at zero (x ∷ xs) = go (front_of (x ∷ xs)) refl (λ k. used_few (at + 1) k xs)
  where
    go : (f : Option Param) → front_of (x ∷ xs) ≡ f → ((k : ℕ) → length (params_after (at + 1) k xs) ≤ params_used (params_after (at + 1) k xs))
        → length (and_later f at (params_after (at + 1) (front_used f - 1) xs)) ≤ params_used (and_later f at (params_after (at + 1) (front_used f - 1) xs))
    go None e ih = omega arith
    go (Some p) e ih = omega (arith, (found_inside (x ∷ xs) e).some, ih (p.used - 1))
used_few at (suc k) (x ∷ xs) = used_few (at + 1) k xs

-- the bytes of their keys and values, of which none is counted twice
unfoldable pub params_len : List Param → ℕ
params_len [] = 0
params_len (p ∷ ps) = p.key.len + value_len p.value + params_len ps

pub params_apart : (at k : ℕ) (xs : List ℕ) → params_len (params_after at k xs) ≤ params_used (params_after at k xs)
unfolding params_after params_used params_len
params_apart at k [] = omega arith
params_apart at zero (x ∷ xs) = go (front_of (x ∷ xs)) refl (λ k. params_apart (at + 1) k xs)
  where
    same : (v : Value) → value_len (value_moved at v) ≡ value_len v
    same Absent = refl
    same (Present s) = refl

    go : (f : Option Param) → front_of (x ∷ xs) ≡ f → ((k : ℕ) → params_len (params_after (at + 1) k xs) ≤ params_used (params_after (at + 1) k xs))
        → params_len (and_later f at (params_after (at + 1) (front_used f - 1) xs)) ≤ params_used (and_later f at (params_after (at + 1) (front_used f - 1) xs))
    go None e ih = omega arith
    go (Some p) e ih = omega (arith, (found_inside (x ∷ xs) e).apart, same p.value, ih (p.used - 1))
params_apart at (suc k) (x ∷ xs) = params_apart (at + 1) k xs

pub params_within : (line : List ℕ) (at : ℕ) → at ≤ length line → at + params_used (params_of line at) ≤ length line
params_within line at h = omega (arith, used_within at 0 (drop at line) (omega arith), length-drop at line)

pub params_few : (line : List ℕ) (at : ℕ) → length (params_of line at) ≤ params_used (params_of line at)
params_few line at = used_few at 0 (drop at line)

-- ---- a loop over the parameters

-- `count` parameters are passed, and `at` bytes with them
pub record Passing (rest : List ℕ) (count at : ℕ) : Type 0 where
  pub inside : at ≤ length rest
  pub few : count ≤ at
  pub counts : count + length (params_of rest at) ≡ length (params_of rest 0)
  pub bytes : at + params_used (params_of rest at) ≡ params_used (params_of rest 0)

pub passing_start : (rest : List ℕ) → Passing rest 0 0
passing_start rest = record { inside = omega arith; few = omega arith; counts = omega arith; bytes = omega arith }

module _ {rest : List ℕ} {count at : ℕ} (g : Passing rest count at) where
  pub passing_more : (p : Param) → front_of (drop at rest) ≡ Some p → Passing rest (count + 1) (at + p.used)
  unfolding params_used
  passing_more p h =
      let i = found_inside (drop at rest) h in
      let next = params_found rest at p h in
      record {
        inside = omega (arith, g.inside, i.all, length-drop at rest);
        few = omega (arith, g.few, i.some);
        counts = omega (arith, g.counts, ap length next);
        bytes = omega (arith, g.bytes, ap params_used next);
      }

  last : params_of rest at ≡ [] → passed count at ≡ passed_of rest
  unfolding params_used
  last e =
      let c : count ≡ length (params_of rest 0) = omega (arith, g.counts, ap length e) in
      let u : at ≡ params_used (params_of rest 0) = omega (arith, g.bytes, ap params_used e) in
      rw (c, u)

  pub passing_none : front_of (drop at rest) ≡ None → passed count at ≡ passed_of rest
  passing_none h = last (params_none rest at h)

  pub passing_end : length rest ≤ at → passed count at ≡ passed_of rest
  passing_end h = last (params_end rest at h)
