-- Serves laws only. A text that is no calendar: the first line that cannot stand where it does, or the end, and what it is refused for (document 01, "What each number
-- returns and leaves", numbers 3 to 9; document 02, request 2).
-- Assumes nothing.
use Rattle.std.specs.Prelude.{ℕ, suc, ◌≤◌, ◌<◌, ◌≡◌, List, [], ◌∷◌, ◌++◌, length}
use Rattle.octets.specs.Bytes.{key_byte}
use Rattle.octets.specs.All.{All}
use Rattle.lines.specs.Split.{Placed}
use Rattle.demands.specs.LineGrammar.{Some, begin, end, Marked, Opens}
use Rattle.demands.specs.LineFaults.{Faulty}
use Rattle.demands.specs.Grammar.{line, Lines, no_row, Rows, no_rows, opened_row, with_component, Body}

-- Lines that begin a body and may leave components open: lines of the body itself, and then the opening line of a component and lines that begin the body
-- of that one. Behind them so many components are open, the innermost with this name.
pub data Begun : ℕ → ℕ → List ℕ → Rows → List Placed → ℕ → List ℕ → Rows → Type 0 where
  in_this : {depth owner : ℕ} {name : List ℕ} {ls : List Placed} {r r' : Rows} → Body depth owner r ls r' → Begun depth owner name r ls depth name r'
  in_another : (at : ℕ) {depth owner depth' : ℕ} {name other opening name' : List ℕ} {ls inner : List Placed} {r r' r'' : Rows}
      → Body depth owner r ls r' → depth < 64 → Opens other opening
      → Begun (suc depth) (length r'.components) other (with_component r' (opened_row owner (suc depth) at other)) inner depth' name' r''
      → Begun depth owner name r (ls ++ line at opening ∷ inner) depth' name' r''

-- a line that is not empty and begins with neither `BEGIN:` nor `END:` in any case
pub record Other (content : List ℕ) : Type 0 where
  pub some : 0 < length content
  pub no_begin : (rest : List ℕ) → Marked begin rest content → ⊥
  pub no_end : (rest : List ℕ) → Marked end rest content → ⊥

-- what is wrong with a line that is no property: where it stands, its bytes, the number and the place
abbrev pub Rule : Type 1
Rule = ℕ → List ℕ → ℕ → ℕ → Type 0

-- the number and the place that a line at `at` is refused with where so many components are open, the innermost with this name; over any rule of what
-- is wrong with a line that is no property
pub data Refuses (wrong : Rule) (depth : ℕ) (name : List ℕ) (at : ℕ) (content : List ℕ) : ℕ → ℕ → Type 0 where
  -- "after BEGIN: nothing, or a byte that is no key byte"
  bad_begin : {rest : List ℕ} → Marked begin rest content → (Some key_byte rest → ⊥) → Refuses wrong depth name at content 3 at
  -- "a sound BEGIN would be at depth 65"
  too_deep : {rest : List ℕ} → Opens rest content → 64 ≤ depth → Refuses wrong depth name at content 4 at
  -- "nothing open, or the rest differs from the open name"
  none_open : {rest : List ℕ} → Marked end rest content → depth ≡ 0 → Refuses wrong depth name at content 5 at
  other_name : {rest : List ℕ} → Marked end rest content → (rest ≡ name → ⊥) → Refuses wrong depth name at content 5 at
  -- "any other line with nothing open"
  outside : Other content → depth ≡ 0 → Refuses wrong depth name at content 6 at
  -- inside of a component, by the rule
  no_property : {number place : ℕ} → Other content → 0 < depth → wrong at content number place → Refuses wrong depth name at content number place

-- the number that a text is refused with, and the place: that of the first line that is refused, or the text's length
pub data BrokenBy (wrong : Rule) (text : List ℕ) : ℕ → ℕ → Type 0 where
  at_line : {number place at depth : ℕ} {name content : List ℕ} {before : List Placed} {r : Rows} (behind : List Placed)
      → Lines 0 text (before ++ line at content ∷ behind) → Begun 0 no_row [] no_rows before depth name r
      → Refuses wrong depth name at content number place → BrokenBy wrong text number place
  -- "end of text with a component open"
  unclosed : {depth : ℕ} {name : List ℕ} {ls : List Placed} {r : Rows} → Lines 0 text ls → Begun 0 no_row [] no_rows ls depth name r → 0 < depth
      → BrokenBy wrong text 8 (length text)
  -- "no line but empty ones"
  no_component : {ls : List Placed} → Lines 0 text ls → All (λ (l : Placed). l.content ≡ []) ls → BrokenBy wrong text 9 (length text)

abbrev pub Broken : List ℕ → ℕ → ℕ → Type 0
Broken = BrokenBy Faulty
