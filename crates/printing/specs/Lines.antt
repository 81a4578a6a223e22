-- The lines that a tree is written as (document 01, "Writing and trees"; RFC 5545, section 3.1, `contentline`).
-- Here document 01 departs from the RFC: docs/DIFFERENCES.md, R-24.
-- Assumes nothing.
use Rattle.std.specs.Prelude.{ℕ, List, [], ◌∷◌, ◌++◌}
use Rattle.octets.specs.Bytes.{cr, lf, colon, semicolon, equals}
use Rattle.octets.specs.Words.{begin_word, end_word}
use Rattle.folding.specs.Strict.{strict}
use Rattle.quoting.specs.Quoting.{quoted}
use Rattle.tables.specs.Trees.{Value, absent, present, Parameter, Property, Trees, none, tree}

-- "each line closed by CRLF", and folded strictly before
abbrev pub closed_line : List ℕ → List ℕ
closed_line line = strict line ++ cr ∷ lf ∷ []

abbrev pub begin_line : List ℕ → List ℕ
begin_line name = begin_word ++ colon ∷ name

abbrev pub end_line : List ℕ → List ℕ
end_line name = end_word ++ colon ∷ name

-- "an absent value writes the key only"; a present one is quoted as `quote_special_chars` does
abbrev pub value_text : Value → List ℕ
value_text absent = []
value_text (present value) = equals ∷ quoted value

abbrev pub parameter_text : Parameter → List ℕ
parameter_text p = semicolon ∷ (p.key ++ value_text p.value)

unfoldable pub parameters_text : List Parameter → List ℕ
parameters_text [] = []
parameters_text (p ∷ ps) = parameter_text p ++ parameters_text ps

-- a property: its key, its parameters, always a colon, and the value as it is
abbrev pub property_line : Property → List ℕ
property_line p = p.key ++ (parameters_text p.parameters ++ colon ∷ p.value)

unfoldable pub property_lines : List Property → List ℕ
property_lines [] = []
property_lines (p ∷ ps) = closed_line (property_line p) ++ property_lines ps

-- "for each component: BEGIN, its properties, its children inside it, END"
unfoldable pub written : Trees → List ℕ
written none = []
written (tree name properties children rest) =
    closed_line (begin_line name)
    ++ (property_lines properties ++ (written children ++ (closed_line (end_line name) ++ written rest)))
