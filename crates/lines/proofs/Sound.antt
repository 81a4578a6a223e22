-- What a line tells of itself lies within it. Assumes nothing.
use mathlib.Core.Path.{◌≡◌, refl}
use mathlib.Core.Bool.{Bool, true, false, ◌&&◌}
use mathlib.Core.List.{List}
use Prim.Native.Nat.{ℕ, ◌+◌, ◌-◌, ◌≤◌}
use native.Mathlib.Omega.{arith}
use lib.ListN.{length, get_or, drop}
use lib.Dec.{eqb, ltb}
use borrow.Author.Tests.{eqb-false}
use Rattle.octets.specs.Choice.{pick}
use Rattle.octets.specs.Bytes.{key_byte, colon}
use Rattle.octets.specs.Runs.{run}
use Rattle.octets.specs.Words.{starts_word}
use Rattle.octets.specs.Keys.{key_of}
use Rattle.std.specs.Prelude.{Option, Some, None}
use Rattle.octets.proofs.Words.{starts_length}
use Rattle.parameters.specs.Values.{span}
use Rattle.parameters.specs.Parameters.{passed_of}
use Rattle.parameters.specs.declared.Passed.{Passed}
use Rattle.parameters.proofs.Lists.{params_few}
use Rattle.lines.specs.declared.Fault.TheVariants.{EmptyKey, StrayByte}
use Rattle.lines.specs.declared.Line.TheVariants.{Empty, Begin, BadBegin, End, Content, Bad}
use Rattle.lines.specs.Sound.{Sound}
use Rattle.lines.specs.Rule.{after_begin, after_end, begin_of, value_from, by_key, begin_mark, end_mark, line_of}
use Rattle.lines.proofs.Rule.{key_within, passed_within}

sound_begin : (line : List ℕ) → after_begin ≤ length line → Sound line (begin_of line)
sound_begin line h = go (ltb 0 (length line - after_begin) && eqb (run key_byte (drop after_begin line)) (length line - after_begin))
  where
    go : (t : Bool) → Sound line (pick t (Begin (span after_begin (length line - after_begin))) BadBegin)
    go true = (refl, omega arith)
    go false = tt

module _ (line : List ℕ) (n : ℕ) (some : n ≡ 0 → ⊥) (h : n ≤ length line) where
  abbrev q : Passed
  q = passed_of (drop n line)

  at_most : n + q.used ≤ length line
  at_most = passed_within line n q h refl

  few : n + q.count ≤ length line
  few = omega (arith, at_most, params_few (drop n line) 0)

  sound_value : Sound line (value_from n q.count (n + q.used) line)
  sound_value = go (eqb (n + q.used) (length line)) refl (eqb (get_or line (n + q.used) 0) colon)
    where
      go : (t : Bool) → eqb (n + q.used) (length line) ≡ t → (u : Bool)
          → Sound line (pick t (Content (record { key = span 0 n; parameters = q.count; value = span (n + q.used) 0 }))
          (pick u (Content (record { key = span 0 n; parameters = q.count; value = span (n + q.used + 1) (length line - (n + q.used + 1)) })) (Bad (StrayByte (n + q.used)))))
      go true e u = record { front = refl; some = omega arith; count = refl; fewer = few; behind = omega arith; value = omega (arith, at_most) }
      go false e true =
          let ne = eqb-false (n + q.used) (length line) e in
          record { front = refl; some = omega arith; count = refl; fewer = few; behind = omega arith; value = omega (arith, at_most, ne) }
      go false e false = omega (arith, at_most, eqb-false (n + q.used) (length line) e)

sound_key : (line : List ℕ) (k : Option ℕ) → key_of line ≡ k → Sound line (by_key k line)
sound_key line None e = tt
sound_key line (Some n) e = go (eqb n 0) refl
  where
    go : (t : Bool) → eqb n 0 ≡ t → Sound line (pick t (Bad EmptyKey) (value_from n (passed_of (drop n line)).count (n + (passed_of (drop n line)).used) line))
    go true p = tt
    go false p = sound_value line n (eqb-false n 0 p) (key_within line n e)

pub sound : (line : List ℕ) → Sound line (line_of line)
unfolding line_of
sound line = go (eqb (length line) 0) (starts_word begin_mark line) refl (starts_word end_mark line) refl
  where
    go : (t b : Bool) → starts_word begin_mark line ≡ b → (e : Bool) → starts_word end_mark line ≡ e
        → Sound line (pick t Empty (pick b (begin_of line) (pick e (End (span after_end (length line - after_end))) (by_key (key_of line) line))))
    go true b p e q = tt
    go false true p e q = sound_begin line (starts_length begin_mark line p)
    go false false p true q = (refl, omega (arith, starts_length end_mark line q))
    go false false p false q = sound_key line (key_of line) refl
