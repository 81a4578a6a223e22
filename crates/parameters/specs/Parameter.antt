-- One parameter at the front of the rest of a line (document 01, "One parameter"; RFC 5545, section 3.1, `param`).
-- All offsets are relative to the rest, which begins with the `;`.
-- Here document 01 departs from the RFC: docs/DIFFERENCES.md, R-6 to R-9.
-- Assumes nothing.
use Rattle.std.specs.Prelude.{ℕ, ◌+◌, List, get_or, drop, eqb, Option, Some, None}
use Rattle.octets.specs.Choice.{pick}
use Rattle.octets.specs.Bytes.{semicolon, equals, blank, key_byte}
use Rattle.octets.specs.Runs.{run}
use Rattle.octets.specs.declared.Span.{Span}
use Rattle.parameters.specs.declared.Form.{Form}
use Rattle.parameters.specs.declared.Value.{Value}
use Rattle.parameters.specs.declared.Value.TheVariants.{Absent}
use Rattle.parameters.specs.declared.Param.{Param}
use Rattle.parameters.specs.Values.{span, form_of, form_used, value_at}

-- the key begins behind the `;` and any spaces and tabs
abbrev pub key_offset : List ℕ → ℕ
key_offset rest = 1 + run blank (drop 1 rest)

-- it is the longest run of key bytes, which may be empty
abbrev pub key_length : List ℕ → ℕ
key_length rest = run key_byte (drop (key_offset rest) rest)

abbrev pub key_end : List ℕ → ℕ
key_end rest = key_offset rest + key_length rest

abbrev pub param : Span → Value → ℕ → Param
param key value used = record { key = key; value = value; used = used }

-- a key that no `=` follows
abbrev pub without_value : List ℕ → Param
without_value rest = param (span (key_offset rest) (key_length rest)) Absent (key_end rest)

-- a key with `=`, and what stands behind that
abbrev pub with_form : List ℕ → Form → Param
with_form rest form =
    param (span (key_offset rest) (key_length rest)) (value_at (key_end rest + 1) form) (key_end rest + 1 + form_used form)

-- the value is read behind an `=` that stands directly behind the key: without it the value is absent
unfoldable pub param_of : List ℕ → Param
param_of rest =
    pick (eqb (get_or rest (key_end rest) 0) equals)
    (with_form rest (form_of (drop (key_end rest + 1) rest)))
    (without_value rest)

-- a parameter begins with `;`
unfoldable pub front_of : List ℕ → Option Param
front_of rest = pick (eqb (get_or rest 0 0) semicolon) (Some (param_of rest)) None
