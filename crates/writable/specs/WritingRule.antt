-- The writing rule of document 01, "Writing and trees", and of document 02, request 4: what each row must be like to be written, and the first row that is not.
-- Assumes nothing.
use Rattle.std.specs.Prelude.{ℕ, ◌+◌, Bool, true, not, ◌&&◌, ◌||◌, List, [], ◌∷◌, length, ltb, Result, Ok, Err}
use Rattle.octets.specs.Choice.{pick}
use Rattle.octets.specs.Bytes.{cr, lf, quote, key_byte, other, ascii}
use Rattle.octets.specs.Runs.{only}
use Rattle.octets.specs.Keys.{reserved}
use Rattle.octets.specs.Views.{viewed}
use Rattle.octets.specs.Answers.{unwritable, not_utf8}
use Rattle.parameters.specs.Values.{is_list}
use Rattle.characters.specs.Utf8.{is_utf8}
use Rattle.tables.specs.Trees.{Value, absent, present, value_of}
use Rattle.tables.specs.Lent.{Lent, components_in, properties_in, parameters_in}
use Rattle.tables.specs.declared.ComponentRow.{ComponentRow}
use Rattle.tables.specs.declared.PropertyRow.{PropertyRow}
use Rattle.tables.specs.declared.ParameterRow.{ParameterRow}
use Rattle.writable.specs.declared.Fault.{Fault}
use Rattle.writable.specs.declared.Unfit.{Unfit}

-- one byte or more
abbrev pub some_byte : List ℕ → Bool
some_byte xs = ltb 0 (length xs)

-- "names and keys of key bytes, only parameter keys may be empty"
abbrev pub name_fits : List ℕ → Bool
name_fits name = some_byte name && only key_byte name

-- "no property key BEGIN or END in any case": a reader would take such a line for no property
abbrev pub key_fits : List ℕ → Bool
key_fits key = name_fits key && not (reserved key)

-- "values without CR or LF"
abbrev pub no_break : ℕ → Bool
no_break x = other cr x && other lf x

-- a byte that stops no value, whatever stands beside it
abbrev pub clean : ℕ → Bool
clean x = no_break x && ascii x

-- "a present parameter value is not empty and either has no `"` or is a list of two or more quoted parts"
abbrev pub present_fits : List ℕ → Bool
present_fits value = some_byte value && (only no_break value && (only (other quote) value || is_list value))

abbrev pub value_fits : Value → Bool
value_fits absent = true
value_fits (present value) = present_fits value

-- a value is UTF-8 by itself. That makes its line UTF-8, since keys and what stands between them and values is ASCII
abbrev pub value_utf8 : Value → Bool
value_utf8 absent = true
value_utf8 (present value) = is_utf8 value

-- whether a row can be written, or why not: 15 wins over 19 in one row
abbrev pub verdict : Bool → Bool → Result (Unit {0}) Fault
verdict fits whole = pick fits (pick whole (Ok tt) (Err Fault.NotUtf8)) (Err Fault.Unwritable)

module _ (text : List ℕ) where
  abbrev pub component_verdict : ComponentRow → Result (Unit {0}) Fault
  component_verdict c = verdict (name_fits (viewed text c.name_start c.name_len)) true

  abbrev pub property_verdict : PropertyRow → Result (Unit {0}) Fault
  property_verdict p =
      verdict
      (key_fits (viewed text p.key_start p.key_len) && only no_break (viewed text p.value_start p.value_len))
      (is_utf8 (viewed text p.value_start p.value_len))

  abbrev pub parameter_verdict : ParameterRow → Result (Unit {0}) Fault
  parameter_verdict p =
      verdict (only key_byte (viewed text p.key_start p.key_len) && value_fits (value_of text p)) (value_utf8 (value_of text p))

-- a row that has a fault is told with its number; else those behind it are judged
abbrev pub judged_by : Result (Unit {0}) Fault → ℕ → Result (Unit {0}) Unfit → Result (Unit {0}) Unfit
judged_by (Ok fine) row rest = rest
judged_by (Err fault) row rest = Err (record { row = row; fault = fault })

-- the first of rows numbered from `row` on that has a fault; behind them `rest` is told
unfoldable pub judged_from : {A : Type 0} → (A → Result (Unit {0}) Fault) → ℕ → List A → Result (Unit {0}) Unfit → Result (Unit {0}) Unfit
judged_from verdict_of row [] rest = rest
judged_from verdict_of row (x ∷ xs) rest = judged_by (verdict_of x) row (judged_from verdict_of (row + 1) xs rest)

-- the first row of the three tables, "numbered through the three tables, components first"
unfoldable pub judged_in : Lent → Result (Unit {0}) Unfit
judged_in b =
    judged_from (component_verdict b.text) 0 (components_in b.components)
    (judged_from (property_verdict b.text) (length (components_in b.components)) (properties_in b.properties)
    (judged_from (parameter_verdict b.text) (length (components_in b.components) + length (properties_in b.properties)) (parameters_in b.parameters)
    (Ok tt)))

-- the number that a fault is refused with
abbrev pub number_of : Fault → ℕ
number_of Fault.Unwritable = unwritable
number_of Fault.NotUtf8 = not_utf8
