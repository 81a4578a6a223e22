-- What a line is, by itself (document 01, "Lines and nesting"; RFC 5545, section 3.1, `contentline`), and what is wrong with one that is no property
-- (document 02, request 2). Offsets count in the line.
-- Here document 01 departs from the RFC: docs/DIFFERENCES.md, R-4, R-5, R-15, R-16, R-17.
-- Assumes nothing.
use Rattle.std.specs.Prelude.{ℕ, ◌+◌, ◌-◌, ◌&&◌, List, [], ◌∷◌, ◌++◌, Option, Some, None, Result, Ok, Err, length, get_or, drop, eqb, ltb}
use Rattle.octets.specs.Choice.{pick}
use Rattle.octets.specs.Bytes.{colon, key_byte}
use Rattle.octets.specs.Runs.{run}
use Rattle.octets.specs.Words.{starts_word, begin_word, end_word}
use Rattle.octets.specs.Keys.{key_of}
use Rattle.octets.specs.declared.Span.{Span}
use Rattle.parameters.specs.Values.{span}
use Rattle.parameters.specs.Parameters.{passed_of}
use Rattle.parameters.specs.declared.Passed.{Passed}
use Rattle.lines.specs.declared.Property.{Property}
use Rattle.lines.specs.declared.Fault.{Fault}
use Rattle.lines.specs.declared.Fault.TheVariants.{ReservedKey, EmptyKey, StrayByte}
use Rattle.lines.specs.declared.Line.{Line}
use Rattle.lines.specs.declared.Line.TheVariants.{Empty, Begin, BadBegin, End, Content, Bad}

-- `BEGIN:` and `END:` in any case
abbrev pub begin_mark : List ℕ
begin_mark = begin_word ++ colon ∷ []

abbrev pub end_mark : List ℕ
end_mark = end_word ++ colon ∷ []

-- what stands behind them starts at
abbrev pub after_begin : ℕ
after_begin = length begin_mark

abbrev pub after_end : ℕ
after_end = length end_mark

-- the name behind `BEGIN:` is of key bytes, one or more
abbrev pub begin_of : List ℕ → Line
begin_of line =
    pick (ltb 0 (length line - after_begin) && eqb (run key_byte (drop after_begin line)) (length line - after_begin))
    (Begin (span after_begin (length line - after_begin)))
    BadBegin

abbrev pub property : ℕ → ℕ → Span → Line
property key parameters value = Content (record { key = span 0 key; parameters = parameters; value = value })

-- behind the key and its parameters, at `at`: the end of the line, with an empty value, or `:` and the value; any other byte is stray
abbrev pub value_from : ℕ → ℕ → ℕ → List ℕ → Line
value_from key parameters at line =
    pick (eqb at (length line))
    (property key parameters (span at 0))
    (pick (eqb (get_or line at 0) colon) (property key parameters (span (at + 1) (length line - (at + 1)))) (Bad (StrayByte at)))

abbrev pub after_key : ℕ → Passed → List ℕ → Line
after_key key passed line = value_from key passed.count (key + passed.used) line

-- the property rule: a key that is not reserved and has at least one byte, parameters, and the value
abbrev pub by_key : Option ℕ → List ℕ → Line
by_key None line = Bad ReservedKey
by_key (Some n) line = pick (eqb n 0) (Bad EmptyKey) (after_key n (passed_of (drop n line)) line)

-- a line that has been read as a property, or what is wrong with it
abbrev pub property_or_bad : Result Property Fault → Line
property_or_bad (Ok p) = Content p
property_or_bad (Err fault) = Bad fault

unfoldable pub line_of : List ℕ → Line
line_of line =
    pick (eqb (length line) 0) Empty
    (pick (starts_word begin_mark line) (begin_of line)
    (pick (starts_word end_mark line) (End (span after_end (length line - after_end))) (by_key (key_of line) line)))
