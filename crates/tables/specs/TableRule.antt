-- The table rule of document 01, "Writing and trees", on rows and the length of the text: one test for each sentence, and the first row that fails one.
-- Assumes nothing.
use Rattle.std.specs.Prelude.{ℕ, ◌+◌, Bool, true, false, ◌&&◌, ◌||◌, List, [], ◌∷◌, length, eqb, leb, ltb, Option, Some, None}
use Rattle.octets.specs.Choice.{pick}
use Rattle.octets.specs.Answers.{deepest}
use Rattle.tables.specs.Rows.{no_parent}
use Rattle.tables.specs.declared.ComponentRow.{ComponentRow}
use Rattle.tables.specs.declared.PropertyRow.{PropertyRow}
use Rattle.tables.specs.declared.ParameterRow.{ParameterRow}

-- "views inside the text"
abbrev pub inside : ℕ → ℕ → ℕ → Bool
inside text_length start len = leb (start + len) text_length

-- a component row that a later one may name as its parent, and its depth
pub record Opened : Type 0 where
  pub row : ℕ
  pub depth : ℕ

-- a row's parent and the parent's ancestors, innermost first, out of the row before it and that row's ancestors; [] where the parent is none of them
unfoldable pub out_from : ℕ → List Opened → List Opened
out_from parent [] = []
out_from parent (o ∷ os) = pick (eqb o.row parent) (o ∷ os) (out_from parent os)

-- the ancestors of a row; 4294967295 is no parent, whatever rows there are
abbrev pub ancestors : List Opened → ComponentRow → List Opened
ancestors opens c = pick (eqb c.parent no_parent) [] (out_from c.parent opens)

abbrev pub some : List Opened → Bool
some [] = false
some (o ∷ os) = true

-- "a component's parent none, the row before it, or one of that row's ancestors (first row: none)"
abbrev pub parent_fits : List Opened → ComponentRow → Bool
parent_fits opens c = eqb c.parent no_parent || some (ancestors opens c)

abbrev pub parent_depth : List Opened → ℕ
parent_depth [] = 0
parent_depth (o ∷ os) = o.depth

-- "depth 1 without a parent, else the parent's plus 1, and at most 64"
abbrev pub depth_fits : List Opened → ComponentRow → Bool
depth_fits opens c = eqb c.depth (parent_depth (ancestors opens c) + 1) && leb c.depth deepest

abbrev pub component_fits : ℕ → List Opened → ComponentRow → Bool
component_fits text_length opens c = inside text_length c.name_start c.name_len && (parent_fits opens c && depth_fits opens c)

-- what the row after c may name as its parent
abbrev pub opens_after : ℕ → List Opened → ComponentRow → List Opened
opens_after row opens c = record { row = row; depth = c.depth } ∷ ancestors opens c

-- "owners in range"
abbrev pub property_fits : ℕ → ℕ → PropertyRow → Bool
property_fits text_length components p =
    inside text_length p.key_start p.key_len
    && (inside text_length p.value_start p.value_len && ltb p.owner components)

-- "parameter rows by rising property row, equal allowed"; the property is a row
abbrev pub rising_in : ℕ → ℕ → ParameterRow → Bool
rising_in properties before p = leb before p.property && ltb p.property properties

-- "the presence word 0 or 1, and 0 only with start and length 0"
abbrev pub presence_fits : ParameterRow → Bool
presence_fits p = eqb p.present 1 || (eqb p.present 0 && (eqb p.value_start 0 && eqb p.value_len 0))

abbrev pub parameter_fits : ℕ → ℕ → ℕ → ParameterRow → Bool
parameter_fits text_length properties before p =
    inside text_length p.key_start p.key_len
    && (inside text_length p.value_start p.value_len && (rising_in properties before p && presence_fits p))

-- the first row that does not fit, of rows numbered from `row` on; each is tested with what those before it leave, at first `seen`
unfoldable pub first_broken : {S A : Type 0} → (S → A → Bool) → (ℕ → S → A → S) → ℕ → S → List A → Option ℕ
first_broken fits after row seen [] = None
first_broken fits after row seen (x ∷ xs) = pick (fits seen x) (first_broken fits after (row + 1) (after row seen x) xs) (Some row)

abbrev pub broken_component : ℕ → ℕ → List Opened → List ComponentRow → Option ℕ
broken_component text_length = first_broken (component_fits text_length) opens_after

-- a property sees nothing of those before it
abbrev pub broken_property : ℕ → ℕ → ℕ → List PropertyRow → Option ℕ
broken_property text_length components row = first_broken (λ (seen : Bool). property_fits text_length components) (λ row seen p. seen) row true

-- a parameter sees the property of the one before
abbrev pub broken_parameter : ℕ → ℕ → ℕ → ℕ → List ParameterRow → Option ℕ
broken_parameter text_length properties = first_broken (parameter_fits text_length properties) (λ row seen p. p.property)

abbrev pub or_else : Option ℕ → Option ℕ → Option ℕ
or_else None next = next
or_else (Some n) next = Some n

-- "at least one component (none: place 0)"; then the first broken row of the three tables, components, properties, parameters
unfoldable pub broken : ℕ → List ComponentRow → List PropertyRow → List ParameterRow → Option ℕ
broken text_length components properties parameters =
    pick (eqb (length components) 0) (Some 0)
    (or_else (broken_component text_length 0 [] components)
    (or_else (broken_property text_length (length components) (length components) properties)
    (broken_parameter text_length (length properties) (length components + length properties) 0 parameters)))

-- ---- in the answers of a call that tests it

-- the refusal of the first row that breaks the rule, or else what comes next
abbrev pub by_table_rule : {A : Type 0} → (ℕ → A) → Option ℕ → A → A
by_table_rule refused None next = next
by_table_rule refused (Some row) next = refused row

-- "then a row number not below the component count"
abbrev pub by_number : {A : Type 0} → (ℕ → A) → ℕ → ℕ → A → A
by_number refused rows number next = pick (ltb number rows) next (refused number)
