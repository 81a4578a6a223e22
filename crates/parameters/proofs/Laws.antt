-- Laws of one parameter: what stands at the front, and that the key and the value lie inside what it uses.
-- Assumes nothing.
use Prim.Native.Nat.{ℕ, ◌+◌, ◌≤◌, ◌<◌}
use mathlib.Core.Path.{◌≡◌, refl, sym}
use mathlib.Core.Bool.{Bool, true, false}
use mathlib.Core.List.{List}
use native.Mathlib.Omega.{arith}
use native.Mathlib.Nat.{add-zero}
use lib.ListN.{length, get_or, drop, length-drop}
use lib.Seq.{get_or-drop}
use lib.Dec.{eqb}
use borrow.Author.Tests.{eqb-true, eq-eqb, ne_eqb}
use Rattle.octets.specs.Choice.{pick}
use Rattle.octets.specs.Bytes.{semicolon, equals, blank, key_byte}
use Rattle.octets.specs.Runs.{run}
use Rattle.octets.specs.Views.{part}
use Rattle.octets.proofs.Runs.{within, whole}
use Rattle.parameters.specs.declared.Form.{Form}
use Rattle.parameters.specs.declared.Form.TheVariants.{Nothing, Bare, Quoted, Listed}
use Rattle.parameters.specs.declared.Value.{Value}
use Rattle.parameters.specs.declared.Value.TheVariants.{Absent, Present}
use Rattle.parameters.specs.declared.Param.{Param}
use Rattle.std.specs.Prelude.{Some, None}
use Rattle.parameters.specs.Values.{span, form_of, form_used, value_at}
use Rattle.parameters.specs.Values.{ValueWithin}
use Rattle.parameters.specs.Parameter.{key_offset, key_end, param, without_value, with_form, param_of, front_of}
use Rattle.parameters.proofs.Values.{inside_of, form_le}

-- ---- what stands at the front

pub front_none : (rest : List ℕ) → (get_or rest 0 0 ≡ semicolon → ⊥) → None ≡ front_of rest
unfolding front_of
front_none rest h = rw (ne_eqb _ _ h)

-- where another byte stands than `;`
pub front_other : (line : List ℕ) (at : ℕ) → (get_or line at 0 ≡ semicolon → ⊥) → front_of (drop at line) ≡ None
front_other line at h = sym (front_none (drop at line) (λ e. h (rw (get_or-drop, add-zero) at e)))

module _ (rest : List ℕ) (opens : get_or rest 0 0 ≡ semicolon) (start : ℕ) (starts : start ≡ key_offset rest) where
  pub key_starts : start ≤ length rest
  key_starts = omega (arith, inside_of rest 0 opens, within blank (drop 1 rest), length-drop 1 rest)

  module _ (len : ℕ) (runs : len ≡ run key_byte (drop start rest)) where
    pub key_ends : start + len ≤ length rest
    key_ends = omega (arith, key_starts, within key_byte (drop start rest), length-drop start rest)

    pub front_bare : (get_or rest (start + len) 0 ≡ equals → ⊥) → Some (param (span start len) Absent (start + len)) ≡ front_of rest
    unfolding param_of front_of
    front_bare h = rw (eq-eqb _ _ opens, ← starts, ← runs, ne_eqb _ _ h)

    pub front_form : get_or rest (start + len) 0 ≡ equals → (form : Form) → form ≡ form_of (drop (start + len + 1) rest)
        → Some (param (span start len) (value_at (start + len + 1) form) (start + len + 1 + form_used form)) ≡ front_of rest
    unfolding param_of front_of
    front_form h form is = rw (eq-eqb _ _ opens, ← starts, ← runs, eq-eqb _ _ h, ← is)

-- ---- where key and value lie

abbrev pub value_len : Value → ℕ
value_len Absent = 0
value_len (Present s) = s.len

pub record Inside (rest : List ℕ) (p : Param) : Type 0 where
  pub some : 0 < p.used
  pub all : p.used ≤ length rest
  pub key : p.key.start + p.key.len ≤ p.used
  pub value : ValueWithin p.value p.used
  -- they do not overlap
  pub apart : p.key.len + value_len p.value ≤ p.used
  -- every byte of the key is a key byte
  pub keyed : run key_byte (part rest p.key.start p.key.len) ≡ length (part rest p.key.start p.key.len)

value_within : (at : ℕ) (form : Form) → ValueWithin (value_at at form) (at + form_used form)
value_within at Nothing = tt
value_within at (Bare n) = omega arith
value_within at (Quoted n) = omega arith
value_within at (Listed n) = omega arith

value_len_holds : (at : ℕ) (form : Form) → value_len (value_at at form) ≤ form_used form
value_len_holds at Nothing = omega arith
value_len_holds at (Bare n) = omega arith
value_len_holds at (Quoted n) = omega arith
value_len_holds at (Listed n) = omega arith

module _ (rest : List ℕ) (opens : get_or rest 0 0 ≡ semicolon) where
  inside_bare : Inside rest (without_value rest)
  inside_bare = record {
    some = omega arith;
    all = key_ends rest opens _ refl _ refl;
    key = omega arith;
    value = tt;
    apart = omega arith;
    keyed = whole key_byte (drop (key_offset rest) rest);
  }

  inside_form : get_or rest (key_end rest) 0 ≡ equals → Inside rest (with_form rest (form_of (drop (key_end rest + 1) rest)))
  inside_form e = record {
    some = omega arith;
    all = omega (arith, inside_of rest (key_end rest) e, form_le (drop (key_end rest + 1) rest), length-drop (key_end rest + 1) rest);
    key = omega arith;
    value = value_within (key_end rest + 1) (form_of (drop (key_end rest + 1) rest));
    apart = omega (arith, value_len_holds (key_end rest + 1) (form_of (drop (key_end rest + 1) rest)));
    keyed = whole key_byte (drop (key_offset rest) rest);
  }

  param_inside : Inside rest (param_of rest)
  unfolding param_of
  param_inside = go (eqb (get_or rest (key_end rest) 0) equals) refl
    where
      go : (t : Bool) → eqb (get_or rest (key_end rest) 0) equals ≡ t → Inside rest (pick t (with_form rest (form_of (drop (key_end rest + 1) rest))) (without_value rest))
      go true e = inside_form (eqb-true _ _ e)
      go false e = inside_bare

-- a parameter that was found begins with `;`
pub found_is : (rest : List ℕ) {p : Param} → front_of rest ≡ Some p → (get_or rest 0 0 ≡ semicolon) × (param_of rest ≡ p)
unfolding front_of
found_is rest {p} h = go (eqb (get_or rest 0 0) semicolon) refl h
  where
    go : (t : Bool) → eqb (get_or rest 0 0) semicolon ≡ t → pick t (Some (param_of rest)) None ≡ Some p → (get_or rest 0 0 ≡ semicolon) × (param_of rest ≡ p)
    go true e q = (eqb-true _ _ e, cc)
    go false e q = let z : ◌≡◌ {A = ℕ} 0 1 = cc in absurd (omega arith)

pub found_inside : (rest : List ℕ) {p : Param} → front_of rest ≡ Some p → Inside rest p
found_inside rest {p} h = let f = found_is rest h in rw f.1 at (param_inside rest f.0)
