-- Serves laws only. What one line says, as a grammar (document 01, "Keys", "One parameter", "Lines and nesting", "Sizes"; RFC 5545, section 3.1, `contentline`),
-- with the rows that it adds. It says which parts stand one behind the other, and nothing of how they are found.
-- Here document 01 departs from the RFC: docs/DIFFERENCES.md, R-1, R-5 to R-16.
-- Assumes nothing.
use Rattle.std.specs.Prelude.{ℕ, ◌+◌, ◌<◌, ◌≡◌, Bool, true, List, [], ◌∷◌, ◌++◌, length}
use Rattle.octets.specs.Bytes.{quote, comma, colon, semicolon, equals, blank, key_byte, other, bare}
use Rattle.tables.specs.declared.PropertyRow.{PropertyRow}
use Rattle.tables.specs.declared.ParameterRow.{ParameterRow}

-- ---- bytes and words

-- each byte is of the class
abbrev pub Every : (ℕ → Bool) → List ℕ → Type 0
Every class [] = Unit {0}
Every class (x ∷ xs) = (class x ≡ true) × Every class xs

-- one or more bytes of the class
pub record Some (class : ℕ → Bool) (xs : List ℕ) : Type 0 where
  pub some : 0 < length xs
  pub every : Every class xs

-- the words BEGIN and END
abbrev pub begin : List ℕ
begin = 66 ∷ 69 ∷ 71 ∷ 73 ∷ 78 ∷ []

abbrev pub end : List ℕ
end = 69 ∷ 78 ∷ 68 ∷ []

-- a word of capitals in any case: each letter as it is, or the small one, which is 32 more
pub data AnyCase : List ℕ → List ℕ → Type 0 where
  no_letter : AnyCase [] []
  as_capital : {w : ℕ} {ws xs : List ℕ} → AnyCase ws xs → AnyCase (w ∷ ws) (w ∷ xs)
  as_small : {w : ℕ} {ws xs : List ℕ} → AnyCase ws xs → AnyCase (w ∷ ws) ((w + 32) ∷ xs)

-- ---- the lines of a component

-- a word in any case, a colon, and what stands behind it to the end of the line
pub data Marked (word : List ℕ) : List ℕ → List ℕ → Type 0 where
  marked : {letters rest : List ℕ} → AnyCase word letters → Marked word rest (letters ++ colon ∷ rest)

-- a component begins with BEGIN and a name of one or more key bytes
pub record Opens (name content : List ℕ) : Type 0 where
  pub mark : Marked begin name content
  pub named : Some key_byte name

-- it ends with END and its name, and nothing else
abbrev pub Closes : List ℕ → List ℕ → Type 0
Closes = Marked end

-- ---- quoted parts

-- "one or more bytes other than `"`"
abbrev pub Inside : List ℕ → Type 0
Inside = Some (other quote)

abbrev pub in_quotes : List ℕ → List ℕ
in_quotes inside = quote ∷ (inside ++ quote ∷ [])

-- "further `,"..."` of the same kind": one or more
pub data Further : List ℕ → Type 0 where
  last_part : {inside : List ℕ} → Inside inside → Further (comma ∷ in_quotes inside)
  next_part : {inside later : List ℕ} → Inside inside → Further later → Further (comma ∷ (in_quotes inside ++ later))

-- no quoted part stands at the front
abbrev pub Unquoted : List ℕ → Type 0
Unquoted xs = (inside rest : List ℕ) → Inside inside → xs ≡ in_quotes inside ++ rest → ⊥

-- ---- parameters

-- Behind a parameter stands another one, or what ends the parameters of a line: `;`, `:` or the end. None of these is a blank, a key byte,
-- `=`, a comma or a byte of a bare value. So every run below is the longest one, and every list has all the parts that follow.

-- what stands behind the key of a parameter, at `at`, before the rest of the line; and the row's words for it: 1 if a value is present, its start
-- and its length
pub data Given (at : ℕ) (rest : List ℕ) : List ℕ → ℕ → ℕ → ℕ → Type 0 where
  -- "without `=` the value is absent"
  no_value : Given at rest [] 0 0 0
  -- nor is there one where nothing stands behind the `=`
  no_bytes : Given at rest (equals ∷ []) 0 0 0
  -- "one or more bytes up to `;`, `:` or the end", where no quoted part stands
  as_it_is : {value : List ℕ} → Some bare value → Unquoted (value ++ rest) → Given at rest (equals ∷ value) 1 (at + 1) (length value)
  -- "one alone gives the inside"
  one_part : {inside : List ℕ} → Inside inside → Given at rest (equals ∷ in_quotes inside) 1 (at + 2) (length inside)
  -- "two or more give the whole list with its quotes"
  parts : {inside further : List ℕ} → Inside inside → Further further
      → Given at rest (equals ∷ (in_quotes inside ++ further)) 1 (at + 1) (length (in_quotes inside ++ further))

-- the parameters of the property row `property`, from `at` on, one behind the other before the tail, and their rows
pub data Parameters (property : ℕ) (tail : List ℕ) : ℕ → List ℕ → List ParameterRow → Type 0 where
  no_parameter : {at : ℕ} → Parameters property tail at [] []
  parameter : {at present start len : ℕ} (blanks key : List ℕ) {value later : List ℕ} {rows : List ParameterRow} → Every blank blanks → Every key_byte key
      → Given (at + 1 + length blanks + length key) (later ++ tail) value present start len
      → Parameters property tail (at + 1 + length blanks + length key + length value) later rows
      → Parameters property tail at (semicolon ∷ (blanks ++ (key ++ (value ++ later))))
      (record {
        property = property;
        key_start = at + 1 + length blanks;
        key_len = length key;
        present = present;
        value_start = start;
        value_len = len;
      } ∷ rows)

-- ---- a property line

-- the tail: "`:` and the value to the end of the line, or the end at once, with an empty value"; where the value starts, and its length
pub data Tail (at : ℕ) : List ℕ → ℕ → ℕ → Type 0 where
  at_once : Tail at [] at 0
  valued : {value : List ℕ} → Tail at (colon ∷ value) (at + 1) (length value)

-- "a key of at least one byte", which is neither BEGIN nor END, "parameters, then" the tail; the line stands at `start`
pub data PropertyLine (start owner number : ℕ) : List ℕ → PropertyRow → List ParameterRow → Type 0 where
  a_property_line : {key parameters tail : List ℕ} {rows : List ParameterRow} {value len : ℕ}
      → Some key_byte key → (AnyCase begin key → ⊥) → (AnyCase end key → ⊥)
      → Parameters number tail (start + length key) parameters rows → Tail (start + length key + length parameters) tail value len
      → PropertyLine start owner number (key ++ (parameters ++ tail))
      (record { owner = owner; key_start = start; key_len = length key; value_start = value; value_len = len })
      rows
