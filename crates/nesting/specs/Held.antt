-- Serves inner contracts only. How the reader's state stands for what has been read.
-- Assumes nothing.
use Rattle.std.specs.Prelude.{ℕ, zero, suc, ◌+◌, ◌-◌, ◌≡◌, List, [], ◌∷◌, ◌++◌, Option, Some, None, length, get_or, reverse, replicate, refl}
use Rattle.std.proofs.Common.{ap}
use Rattle.octets.specs.Answers.{deepest}
use Rattle.tables.specs.Rows.{put_row, component_size, property_size, parameter_size, component_words, property_words, parameter_words}
use Rattle.nesting.specs.declared.Entry.{Entry}
use Rattle.nesting.specs.Rows.{no_entry}
use Rattle.nesting.specs.Steps.{State}

-- what an entry of the array reads past its end
abbrev pub zero_entry : Entry
zero_entry = record { row = 0; start = 0; len = 0 }

-- the first d of the 64 entries, the last of them first
unfoldable pub stack : List Entry → ℕ → List Entry
stack entries zero = []
stack entries (suc d) = get_or entries d zero_entry ∷ stack entries d

-- a list tells its depth
pub length_stack : (entries : List Entry) (d : ℕ) → length (stack entries d) ≡ d
unfolding stack
length_stack entries zero = refl
length_stack entries (suc d) = ap suc (length_stack entries d)

-- the 64 entries where these are open: the innermost last, and none behind it
unfoldable pub array_of : List Entry → List Entry
array_of opens = reverse opens ++ replicate (deepest - length opens) no_entry

abbrev pub innermost : List Entry → Option Entry
innermost [] = None
innermost (e ∷ es) = Some e

-- rows put into a table one after the other, from row n on, each where there is room for it
unfoldable pub put_rows : {A : Type 0} → ℕ → (A → List ℕ) → ℕ → List A → List ℕ → List ℕ
put_rows size words n [] table = table
put_rows size words n (r ∷ rs) table = put_rows size words (n + 1) rs (put_row size n (words r) table)

-- the tables hold the rows of s: c, p and q at entry, c', p' and q' now
pub record Tabled (s : State) (c p q c' p' q' : List ℕ) : Type 0 where
  pub components : c' ≡ put_rows component_size component_words 0 s.components c
  pub properties : p' ≡ put_rows property_size property_words 0 s.properties p
  pub parameters : q' ≡ put_rows parameter_size parameter_words 0 s.parameters q
