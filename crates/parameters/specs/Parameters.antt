-- The parameters of a line, one behind the other (document 01, "One parameter"): reading stops, without refusal, at a byte that is
-- not `;` and at the end. Spans are relative to the line.
-- Assumes nothing.
use Rattle.std.specs.Prelude.{ℕ, zero, suc, ◌+◌, ◌-◌, List, [], ◌∷◌, length, drop, Option, Some, None}
use Rattle.octets.specs.declared.Span.{Span}
use Rattle.parameters.specs.declared.Value.{Value}
use Rattle.parameters.specs.declared.Value.TheVariants.{Absent, Present}
use Rattle.parameters.specs.declared.Param.{Param}
use Rattle.parameters.specs.declared.Passed.{Passed}
use Rattle.parameters.specs.Values.{span}
use Rattle.parameters.specs.Parameter.{param, front_of}

abbrev pub span_moved : ℕ → Span → Span
span_moved by s = span (by + s.start) s.len

abbrev pub value_moved : ℕ → Value → Value
value_moved by Absent = Absent
value_moved by (Present s) = Present (span_moved by s)

-- a parameter as seen from `by` bytes further in front
abbrev pub moved : ℕ → Param → Param
moved by p = param (span_moved by p.key) (value_moved by p.value) p.used

-- what a parameter at the front takes
abbrev pub front_used : Option Param → ℕ
front_used None = 0
front_used (Some p) = p.used

-- the parameter at the front before the later ones: none without it
abbrev pub and_later : Option Param → ℕ → List Param → List Param
and_later None at later = []
and_later (Some p) at later = moved at p ∷ later

-- the parameters in the bytes of a line from `at` on, of which the first k belong to a parameter that has begun
unfoldable pub params_after : ℕ → ℕ → List ℕ → List Param
params_after at k [] = []
params_after at zero (x ∷ xs) = and_later (front_of (x ∷ xs)) at (params_after (at + 1) (front_used (front_of (x ∷ xs)) - 1) xs)
params_after at (suc k) (x ∷ xs) = params_after (at + 1) k xs

-- the parameters of a line from the offset `at` on
abbrev pub params_of : List ℕ → ℕ → List Param
params_of line at = params_after at 0 (drop at line)

-- how many bytes parameters take
unfoldable pub params_used : List Param → ℕ
params_used [] = 0
params_used (p ∷ ps) = p.used + params_used ps

abbrev pub passed : ℕ → ℕ → Passed
passed count used = record { count = count; used = used }

-- the parameters at the front of the rest of a line: how many they are, and how many bytes they take
abbrev pub passed_of : List ℕ → Passed
passed_of rest = passed (length (params_of rest 0)) (params_used (params_of rest 0))
