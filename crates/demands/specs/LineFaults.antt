-- Serves laws only. What is wrong with a line that is no property, as a grammar (document 02, request 2): its number and its place.
-- Assumes nothing.
use Rattle.std.specs.Prelude.{ℕ, ◌+◌, ◌≤◌, ◌<◌, ◌≡◌, false, List, [], ◌∷◌, ◌++◌, length, get_or}
use Rattle.octets.specs.Bytes.{colon, semicolon, key_byte}
use Rattle.tables.specs.declared.PropertyRow.{PropertyRow}
use Rattle.tables.specs.declared.ParameterRow.{ParameterRow}
use Rattle.demands.specs.LineGrammar.{Some, begin, end, AnyCase, Parameters, PropertyLine}

-- what stands behind a reserved key: `:`, `;` or the end
pub data Stops : List ℕ → Type 0 where
  at_end : Stops []
  at_colon : {rest : List ℕ} → Stops (colon ∷ rest)
  at_semicolon : {rest : List ℕ} → Stops (semicolon ∷ rest)

-- "the line starts with BEGIN or END in any case and then has `:`, `;` or its end"
pub data ReservedLine : List ℕ → Type 0 where
  begin_key : {key rest : List ℕ} → AnyCase begin key → Stops rest → ReservedLine (key ++ rest)
  end_key : {key rest : List ℕ} → AnyCase end key → Stops rest → ReservedLine (key ++ rest)

-- a key of at least one byte and its parameters, and nothing else
pub data Keyed : List ℕ → Type 0 where
  key_parameters : {key parameters : List ℕ} {rows : List ParameterRow} → Some key_byte key → Parameters 0 [] (length key) parameters rows → Keyed (key ++ parameters)

-- "a stray byte after key or parameters": where the longest front of the line that is key and parameters ends stands neither the line's end nor `:` nor `;`
pub record Stray (front line : List ℕ) : Type 0 where
  pub byte : ℕ
  pub rest : List ℕ
  pub is : line ≡ front ++ byte ∷ rest
  pub keyed : Keyed front
  pub longest : (longer behind : List ℕ) → line ≡ longer ++ behind → Keyed longer → length longer ≤ length front
  pub no_colon : byte ≡ colon → ⊥
  pub no_semicolon : byte ≡ semicolon → ⊥

-- "7 then means empty key, 17 ReservedKey is checked before it, 18 StrayByte after it"; "the stray one gives the byte's own offset, the others the line start".
-- The line stands at `at`.
pub data Faulty (at : ℕ) : List ℕ → ℕ → ℕ → Type 0 where
  reserved_key : {line : List ℕ} → ReservedLine line → Faulty at line 17 at
  empty_key : {byte : ℕ} {rest : List ℕ} → (ReservedLine (byte ∷ rest) → ⊥) → key_byte byte ≡ false → Faulty at (byte ∷ rest) 7 at
  a_stray_byte : {front line : List ℕ} → (ReservedLine line → ⊥) → Stray front line → Faulty at line 18 (at + length front)

-- at this place the text has a byte that is neither `:` nor `;`
pub record StrayAt (text : List ℕ) (place : ℕ) : Type 0 where
  pub inside : place < length text
  pub no_colon : get_or text place 0 ≡ colon → ⊥
  pub no_semicolon : get_or text place 0 ≡ semicolon → ⊥

-- the rule before this request: 7 for every line that is no property, at its start
pub data BadLine (at : ℕ) (line : List ℕ) : ℕ → ℕ → Type 0 where
  bad_line : ((start owner number : ℕ) (p : PropertyRow) (qs : List ParameterRow) → PropertyLine start owner number line p qs → ⊥) → BadLine at line 7 at
