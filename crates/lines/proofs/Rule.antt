-- Laws of what a line is: by what its code finds, and what follows for its parts. Assumes nothing.
use mathlib.Core.Path.{◌≡◌, refl, sym, ap, ◌∙◌}
use mathlib.Core.Bool.{Bool, true, false, ◌&&◌}
use mathlib.Core.List.{List}
use Prim.Native.Nat.{ℕ, ◌+◌, ◌-◌, ◌≤◌}
use native.Mathlib.Omega.{arith}
use lib.ListN.{length, get_or, drop, length-drop}
use lib.Dec.{eqb, ltb}
use borrow.Author.Tests.{eq-eqb, ne_eqb}
use Rattle.octets.specs.Choice.{pick}
use Rattle.octets.specs.Bytes.{key_byte, colon}
use Rattle.octets.specs.Runs.{run}
use Rattle.octets.specs.Words.{starts_word}
use Rattle.octets.specs.Keys.{key_of, opens_reserved}
use Rattle.std.specs.Prelude.{Some, None}
use Rattle.octets.proofs.Runs.{within}
use Rattle.octets.proofs.Keys.{run_of, no_word}
use Rattle.parameters.specs.Values.{span}
use Rattle.parameters.specs.Parameters.{passed_of}
use Rattle.parameters.specs.declared.Passed.{Passed}
use Rattle.parameters.proofs.Lists.{params_within}
use Rattle.lines.specs.declared.Fault.TheVariants.{ReservedKey, EmptyKey, StrayByte}
use Rattle.lines.specs.declared.Line.TheVariants.{Empty, Begin, BadBegin, End, Bad}
use Rattle.lines.specs.Rule.{after_begin, after_end, begin_of, property, value_from, after_key, by_key, begin_mark, end_mark, line_of}

pub begun : (line : List ℕ) (n : ℕ) (t : Bool) → n ≡ run key_byte (drop after_begin line) → (ltb 0 (length line - after_begin) && eqb n (length line - after_begin)) ≡ t
    → begin_of line ≡ pick t (Begin (span after_begin (length line - after_begin))) BadBegin
begun line n t e p =
    let q : (ltb 0 (length line - after_begin) && eqb (run key_byte (drop after_begin line)) (length line - after_begin)) ≡ t = cc in
    ap (λ (u : Bool). pick u (Begin (span after_begin (length line - after_begin))) BadBegin) q

-- ---- the property rule, by its key

pub refused_key : (line : List ℕ) → key_of line ≡ None → by_key (key_of line) line ≡ Bad ReservedKey
refused_key line e = rw e

pub empty_key : (line : List ℕ) (n : ℕ) → key_of line ≡ Some n → n ≡ 0 → by_key (key_of line) line ≡ Bad EmptyKey
empty_key line n e z = rw (e, eq-eqb n 0 z)

pub key_within : (line : List ℕ) (n : ℕ) → key_of line ≡ Some n → n ≤ length line
key_within line n e = omega (arith, run_of line n e, within key_byte line)

pub passed_within : (line : List ℕ) (n : ℕ) (q : Passed) → n ≤ length line → q ≡ passed_of (drop n line) → n + q.used ≤ length line
passed_within line n q h e =
    omega (arith, ap (λ (p : Passed). p.used) e, params_within (drop n line) 0 (omega arith), length-drop n line)

module _ (line : List ℕ) (n : ℕ) (q : Passed) (e : key_of line ≡ Some n) (some : n ≡ 0 → ⊥) (passed : q ≡ passed_of (drop n line)) where
  behind_key : by_key (key_of line) line ≡ value_from n q.count (n + q.used) line
  behind_key = rw (e, ne_eqb n 0 some) (sym (ap (λ (p : Passed). after_key n p line) passed))

  pub at_end : n + q.used ≡ length line → by_key (key_of line) line ≡ property n q.count (span (n + q.used) 0)
  at_end h = behind_key ∙ rw (eq-eqb (n + q.used) (length line) h)

  module _ (short : n + q.used ≡ length line → ⊥) where
    pub stray : (get_or line (n + q.used) 0 ≡ colon → ⊥) → by_key (key_of line) line ≡ Bad (StrayByte (n + q.used))
    stray h = behind_key ∙ rw (ne_eqb (n + q.used) (length line) short, ne_eqb (get_or line (n + q.used) 0) colon h)

    pub valued : get_or line (n + q.used) 0 ≡ colon
        → by_key (key_of line) line ≡ property n q.count (span (n + q.used + 1) (length line - (n + q.used + 1)))
    valued h = behind_key ∙ rw (ne_eqb (n + q.used) (length line) short, eq-eqb (get_or line (n + q.used) 0) colon h)

  -- the value reaches from its start to the end of the line, wherever it begins
  module _ (start : ℕ) where
    pub from_end : start ≡ n + q.used → n + q.used ≡ length line → property n q.count (span start (length line - start)) ≡ by_key (key_of line) line
    from_end is h =
        let none : length line - start ≡ 0 = omega arith in
        rw (none, is) (sym (at_end h))

    pub from_colon : start ≡ n + q.used + 1 → (n + q.used ≡ length line → ⊥) → get_or line (n + q.used) 0 ≡ colon
        → property n q.count (span start (length line - start)) ≡ by_key (key_of line) line
    from_colon is short h = rw is (sym (valued short h))

-- ---- the line rule, by its mark

pub is_empty : (line : List ℕ) → length line ≡ 0 → line_of line ≡ Empty
unfolding line_of
is_empty line h = rw (eq-eqb (length line) 0 h)

module _ (line : List ℕ) (some : length line ≡ 0 → ⊥) where
  pub is_begin : starts_word begin_mark line ≡ true → line_of line ≡ begin_of line
  unfolding line_of
  is_begin h = rw (ne_eqb (length line) 0 some, h)

  pub is_end : starts_word begin_mark line ≡ false → starts_word end_mark line ≡ true → line_of line ≡ End (span after_end (length line - after_end))
  unfolding line_of
  is_end b h = rw (ne_eqb (length line) 0 some, b, h)

  pub is_other : starts_word begin_mark line ≡ false → starts_word end_mark line ≡ false → line_of line ≡ by_key (key_of line) line
  unfolding line_of
  is_other b h = rw (ne_eqb (length line) 0 some, b, h)

  -- a line whose first byte begins neither mark
  pub is_neither : opens_reserved (get_or line 0 0) ≡ false → line_of line ≡ by_key (key_of line) line
  is_neither h = is_other (no_word begin_mark line refl refl h) (no_word end_mark line refl refl h)
