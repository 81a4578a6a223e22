-- Serves laws only. Trees as lines, and which trees come back as they are when they are written and read (document 01, demand 2 and "Writing and trees";
-- RFC 5545, section 3.1, `contentline`).
-- Here document 01 departs from the RFC: docs/DIFFERENCES.md, R-24.
-- Assumes nothing.
use Rattle.std.specs.Prelude.{ℕ, zero, suc, ◌+◌, ◌≤◌, ◌<◌, ◌≡◌, Bool, true, false, ◌&&◌, List, [], ◌∷◌, ◌++◌, map, length, get_or}
use Rattle.octets.specs.Bytes.{cr, lf, blank, key_byte}
use Rattle.octets.specs.Runs.{only}
use Rattle.octets.specs.All.{All}
use Rattle.octets.specs.Views.{viewed}
use Rattle.unfolding.specs.Unfold.{unfolded}
use Rattle.characters.specs.Utf8.{is_utf8}
use Rattle.lines.specs.Split.{Placed}
use Rattle.lines.specs.Rule.{line_of}
use Rattle.lines.specs.declared.Line.TheVariants.{Content}
use Rattle.lines.specs.declared.Property as scanned
use Rattle.tables.specs.Trees.{Parameter, Property, Trees, none, tree, parameter_of, trees_of}
use Rattle.tables.specs.Sizes.{component_count, property_count, parameter_count}
use Rattle.tables.specs.Lent.{Lent, components_in, properties_in, parameters_in}
use Rattle.nesting.specs.Rows.{parameter_rows}
use Rattle.nesting.specs.Steps.{State, nothing, read_lines, finished}
use Rattle.reading.specs.Lent.{room_in}
use Rattle.writable.specs.WritingRule.{name_fits, key_fits, no_break, value_fits, value_utf8}
use Rattle.printing.specs.Lines.{closed_line, begin_line, end_line, property_line, written}
use Rattle.writing.specs.Answers.{written_in}
use Rattle.demands.specs.Readable.{Readable}

-- ---- lines

-- the lines of trees, before they are folded and closed
unfoldable pub lines_of : Trees → List (List ℕ)
lines_of none = []
lines_of (tree name properties children rest) =
    begin_line name ∷ (map property_line properties ++ (lines_of children ++ (end_line name ∷ lines_of rest)))

-- lines one after the other, each folded strictly and closed by CRLF
unfoldable pub folded_lines : List (List ℕ) → List ℕ
folded_lines [] = []
folded_lines (l ∷ ls) = closed_line l ++ folded_lines ls

-- the same without folds
unfoldable pub plain_lines : List (List ℕ) → List ℕ
plain_lines [] = []
plain_lines (l ∷ ls) = l ++ cr ∷ lf ∷ plain_lines ls

-- each by its place, the first one at `at`
unfoldable pub placed_from : ℕ → List (List ℕ) → List Placed
placed_from at [] = []
placed_from at (l ∷ ls) = record { start = at; content = l } ∷ placed_from (at + length l + 2) ls

-- a line that is found again between others: it has bytes, the first is no blank, and none is CR or LF
pub record Plain (line : List ℕ) : Type 0 where
  pub some : 0 < length line
  pub front : blank (get_or line 0 0) ≡ false
  pub whole : only no_break line ≡ true

-- ---- what the writing rule asks of trees

abbrev pub fit_parameter : Parameter → Bool
fit_parameter p = only key_byte p.key && value_fits p.value

pub record FitProperty (p : Property) : Type 0 where
  pub key : key_fits p.key ≡ true
  pub value : only no_break p.value ≡ true
  pub parameters : All (λ (q : Parameter). fit_parameter q ≡ true) p.parameters
  pub utf8 : is_utf8 p.value ≡ true
  pub parameters_utf8 : All (λ (q : Parameter). value_utf8 q.value ≡ true) p.parameters

unfoldable pub Fit : Trees → Type 0
Fit none = Unit {0}
Fit (tree name properties children rest) = (name_fits name ≡ true) × All FitProperty properties × Fit children × Fit rest

-- the values of parameters that are present are UTF-8
unfoldable pub values_utf8 : List Parameter → Bool
values_utf8 [] = true
values_utf8 (p ∷ ps) = value_utf8 p.value && values_utf8 ps

-- trees that nest no deeper than this
unfoldable pub Shallow : ℕ → Trees → Type 0
Shallow level none = Unit {0}
Shallow zero (tree name properties children rest) = ⊥
Shallow (suc level) (tree name properties children rest) = Shallow level children × Shallow (suc level) rest

-- ---- a property line as it is read

-- the line is a property, and wherever it stands in a text the rows that it adds show the property again
pub record Scanned (p : Property) (q : scanned.Property) : Type 0 where
  pub line : line_of (property_line p) ≡ Content q
  pub key : (before after : List ℕ) → viewed (before ++ (property_line p ++ after)) (length before + q.key.start) q.key.len ≡ p.key
  pub value : (before after : List ℕ) → viewed (before ++ (property_line p ++ after)) (length before + q.value.start) q.value.len ≡ p.value
  pub parameters : (before after : List ℕ) (number : ℕ)
      → map (parameter_of (before ++ (property_line p ++ after))) (parameter_rows number (length before) (property_line p) q) ≡ p.parameters

-- ---- reading the lines of trees

-- what the lines of trees are read to: the same trees, with a row for each component, property and parameter
pub record Nests (ts : Trees) (s : State) : Type 0 where
  pub runs : read_lines (plain_lines (lines_of ts)) (placed_from 0 (lines_of ts)) nothing ≡ finished s
  pub closed : s.opens ≡ []
  pub trees : trees_of (plain_lines (lines_of ts)) s.components s.properties s.parameters ≡ ts
  pub components : length s.components ≡ component_count ts
  pub properties : length s.properties ≡ property_count ts
  pub parameters : length s.parameters ≡ parameter_count ts

-- what is written of trees reads to rows that stand for the same trees
pub record ReadsBack (ts : Trees) (s : State) : Type 0 where
  pub readable : Readable (written ts) s
  pub trees : trees_of (unfolded (written ts)) s.components s.properties s.parameters ≡ ts
  pub components : length s.components ≡ component_count ts
  pub properties : length s.properties ≡ property_count ts
  pub parameters : length s.parameters ≡ parameter_count ts

-- room enough to read what is written from tables: as many bytes as were written, and as many rows as the tables have
pub record Enough (b room : Lent) : Type 0 where
  pub text : length (written_in b) ≤ length room.text
  pub components : length (components_in b.components) ≤ (room_in room).components
  pub properties : length (properties_in b.properties) ≤ (room_in room).properties
  pub parameters : length (parameters_in b.parameters) ≤ (room_in room).parameters
