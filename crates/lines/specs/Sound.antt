-- Serves inner contracts only. What a line tells of itself lies within it: the parts that the reading goes by.
-- Assumes nothing.
use Rattle.std.specs.Prelude.{ℕ, ◌+◌, ◌≤◌, ◌<◌, ◌≡◌, List, length, drop}
use Rattle.parameters.specs.Parameters.{params_of, params_used}
use Rattle.lines.specs.Rule.{after_begin, after_end}
use Rattle.lines.specs.declared.Property.{Property}
use Rattle.lines.specs.declared.Fault.{Fault}
use Rattle.lines.specs.declared.Fault.TheVariants.{ReservedKey, EmptyKey, StrayByte}
use Rattle.lines.specs.declared.Line.{Line}
use Rattle.lines.specs.declared.Line.TheVariants.{Empty, Begin, BadBegin, End, Content, Bad}

pub record SoundProperty (line : List ℕ) (p : Property) : Type 0 where
  pub front : p.key.start ≡ 0
  pub some : 0 < p.key.len
  pub count : p.parameters ≡ length (params_of (drop p.key.len line) 0)
  pub fewer : p.key.len + p.parameters ≤ length line
  pub behind : p.key.len + params_used (params_of (drop p.key.len line) 0) ≤ p.value.start
  pub value : p.value.start + p.value.len ≤ length line

-- a stray byte is a byte of the line
abbrev pub SoundFault : List ℕ → Fault → Type 0
SoundFault line ReservedKey = Unit
SoundFault line EmptyKey = Unit
SoundFault line (StrayByte at) = at < length line

abbrev pub Sound : List ℕ → Line → Type 0
Sound line Empty = Unit
Sound line (Begin name) = (name.start ≡ after_begin) × (after_begin + name.len ≡ length line)
Sound line BadBegin = Unit
Sound line (End rest) = (rest.start ≡ after_end) × (after_end + rest.len ≡ length line)
Sound line (Content p) = SoundProperty line p
Sound line (Bad fault) = SoundFault line fault
