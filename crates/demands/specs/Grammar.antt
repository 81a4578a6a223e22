-- Serves laws only. A calendar: a text as lines, and the lines as nested components (document 01, "Lines and nesting" and "Sizes"; RFC 5545, sections 3.1, 3.4 and 3.6),
-- with the rows that they add. A component stands inside another as its lines stand between the other's lines: nothing is kept open here.
-- Here document 01 departs from the RFC: docs/DIFFERENCES.md, R-2, R-4, R-17, R-18, R-25.
-- Assumes nothing.
use Rattle.std.specs.Prelude.{ℕ, suc, ◌+◌, ◌<◌, ◌≡◌, List, [], ◌∷◌, ◌++◌, length}
use Rattle.octets.specs.Bytes.{lf, cr, other}
use Rattle.lines.specs.Split.{Placed}
use Rattle.tables.specs.declared.ComponentRow.{ComponentRow}
use Rattle.tables.specs.declared.PropertyRow.{PropertyRow}
use Rattle.tables.specs.declared.ParameterRow.{ParameterRow}
use Rattle.demands.specs.LineGrammar.{Every, Some, Opens, Closes, PropertyLine}

-- ---- a text as lines

-- a line that starts at `at`
abbrev pub line : ℕ → List ℕ → Placed
line at content = record { start = at; content = content }

-- the last byte is no CR
abbrev pub NoLastCr : List ℕ → Type 0
NoLastCr content = (front : List ℕ) → content ≡ front ++ cr ∷ [] → ⊥

-- "A line ends at LF or at the end of text; one CR directly before the LF belongs to the break." The lines of the bytes from `at` on.
pub data Lines : ℕ → List ℕ → List Placed → Type 0 where
  no_bytes : {at : ℕ} → Lines at [] []
  last_line : {at : ℕ} {content : List ℕ} → Some (other lf) content → Lines at content (line at content ∷ [])
  lf_line : {at : ℕ} (content : List ℕ) {rest : List ℕ} {ls : List Placed} → Every (other lf) content → NoLastCr content
      → Lines (at + length content + 1) rest ls → Lines at (content ++ lf ∷ rest) (line at content ∷ ls)
  crlf_line : {at : ℕ} (content : List ℕ) {rest : List ℕ} {ls : List Placed} → Every (other lf) content
      → Lines (at + length content + 2) rest ls → Lines at (content ++ cr ∷ lf ∷ rest) (line at content ∷ ls)

-- ---- lines as nested components

-- rows in the order of reading
pub record Rows : Type 0 where
  pub components : List ComponentRow
  pub properties : List PropertyRow
  pub parameters : List ParameterRow

abbrev pub no_rows : Rows
no_rows = record { components = []; properties = []; parameters = [] }

-- "parent row or 4294967295 for none, depth, name start, name length": the name stands behind `BEGIN:`, which has 6 bytes
abbrev pub opened_row : ℕ → ℕ → ℕ → List ℕ → ComponentRow
opened_row parent depth at name = record { parent = parent; depth = depth; name_start = at + 6; name_len = length name }

abbrev pub with_component : Rows → ComponentRow → Rows
with_component r c = record { components = r.components ++ c ∷ []; properties = r.properties; parameters = r.parameters }

abbrev pub with_property : Rows → PropertyRow → List ParameterRow → Rows
with_property r p qs = record { components = r.components; properties = r.properties ++ p ∷ []; parameters = r.parameters ++ qs }

-- "4294967295 for none"
abbrev pub no_row : ℕ
no_row = 4294967295

-- A body inside so many components, of which the innermost has the row `owner`: empty lines, property lines and components, in any order;
-- from the rows before it to the rows behind it. A feed is a body inside of none.
pub data Body : ℕ → ℕ → Rows → List Placed → Rows → Type 0 where
  no_line : {depth owner : ℕ} {r : Rows} → Body depth owner r [] r
  -- "empty lines are skipped"
  empty_line : {depth owner at : ℕ} {ls : List Placed} {r r' : Rows} → Body depth owner r ls r' → Body depth owner r (line at [] ∷ ls) r'
  -- a property line stands inside of a component
  a_property : {depth owner at : ℕ} {content : List ℕ} {p : PropertyRow} {qs : List ParameterRow} {ls : List Placed} {r r' : Rows}
      → 0 < depth → PropertyLine at owner (length r.properties) content p qs → Body depth owner (with_property r p qs) ls r'
      → Body depth owner r (line at content ∷ ls) r'
  -- a component: an opening line, a body and a closing line with the same name; 64 of them nest, and no more
  a_component : (at at' : ℕ) {depth owner : ℕ} {name opening closing : List ℕ} {inner ls : List Placed} {r r' r'' : Rows}
      → depth < 64 → Opens name opening
      → Body (suc depth) (length r.components) (with_component r (opened_row owner (suc depth) at name)) inner r'
      → Closes name closing → Body depth owner r' ls r''
      → Body depth owner r (line at opening ∷ (inner ++ line at' closing ∷ ls)) r''

-- the lines of a text are a calendar with these rows: components and empty lines, at least one component
pub record Calendar (text : List ℕ) (r : Rows) : Type 0 where
  pub lines : List Placed
  pub split : Lines 0 text lines
  pub body : Body 0 no_row no_rows lines r
  pub some : 0 < length r.components
