-- Serves laws only. What a worked case can say, when it holds, and which cases of a table do not. The cases themselves are in the other files: small inputs with what
-- documents 01 and 02 say of them, written by hand, so that a reader can hold each against these alone.
-- Assumes nothing.
use Rattle.std.specs.Prelude.{ℕ, zero, suc, ◌+◌, ◌*◌, Bool, ◌&&◌, replicate, eqb, Option, Some, None}
use Prim.Native.String as strings
use mathlib.Core.List.{List, [], ◌∷◌, ◌++◌}
use Rattle.std.proofs.Math.ListN.{length}
use Rattle.octets.specs.Choice.{pick}
use Rattle.octets.specs.Literals.{bytes}
use Rattle.octets.specs.Laid.{laid}
use Rattle.octets.specs.Words.{same_bytes}
use Rattle.octets.specs.Views.{viewed}
use Rattle.octets.specs.Keys.{key_of}
use Rattle.octets.specs.declared.Output.{Output}
use Rattle.unfolding.specs.Unfold.{unfolded}
use Rattle.parameters.specs.declared.Param.{Param}
use Rattle.parameters.specs.Parameter.{front_of}
use Rattle.parameters.specs.declared.Value.{Value}
use Rattle.parameters.specs.declared.Value.TheVariants.{Absent, Present}
use Rattle.tables.specs.Lent.{Lent, lent}
use Rattle.reading.specs.Answers.{measuring_of, text_after}
use Rattle.reading.specs.Lent.{read_into, left, fill_from, left_filled}
use Rattle.reading.specs.declared.Reading.{Reading}
use Rattle.folding.specs.Answers.{strict_line, repository_line, fold_answer, fold_out}
use Rattle.folding.specs.Repository.{repository}
use Rattle.folding.specs.Strict.{strict}
use Rattle.quoting.specs.Answers.{quote_answer, quote_out}
use Rattle.escapes.specs.Answers.{text_answer, text_out, value_answer, value_out}
use Rattle.escapes.specs.declared.Mode.{Mode}
use Rattle.writing.specs.Answers.{write_answer, write_out}
use Rattle.twins.specs.Answers.{twins_answer, loose_twins_answer}
use Rattle.twins.specs.declared.Compared.{Compared}
use Rattle.neighbours.specs.Counts.{neighbours_answer}
use Rattle.neighbours.specs.declared.Neighbours.{Neighbours}

-- ---- inputs, and what stands in lent buffers before a call

-- so many letters `a`
abbrev pub letters : ℕ → List ℕ
letters n = replicate n 97

-- so many numbers from the first on
unfoldable pub rising : ℕ → ℕ → List ℕ
rising zero first = []
rising (suc n) first = first ∷ rising n (first + 1)

-- so many bytes, from b on up to 249 and again from 170 on
unfoldable pub turning : ℕ → ℕ → List ℕ
turning zero b = []
turning (suc n) b = b ∷ turning n (pick (eqb b 249) 170 (b + 1))

-- what stands in lent buffers before a call, so that what stays is seen: bytes 170, 171 and so on, words 900001, 910001 or 920001 and so on
abbrev pub bytes₀ : ℕ → List ℕ
bytes₀ n = turning n 170

abbrev pub components₀ : ℕ → List ℕ
components₀ n = rising n 900001

abbrev pub properties₀ : ℕ → List ℕ
properties₀ n = rising n 910001

abbrev pub parameters₀ : ℕ → List ℕ
parameters₀ n = rising n 920001

-- a text of so many bytes, and three tables of so many words
abbrev pub room : ℕ → ℕ → ℕ → ℕ → Lent
room text components properties parameters = lent (bytes₀ text) (components₀ components) (properties₀ properties) (parameters₀ parameters)

-- this text, and three tables of so many words
abbrev pub tables_for : List ℕ → ℕ → ℕ → ℕ → Lent
tables_for text components properties parameters = lent text (components₀ components) (properties₀ properties) (parameters₀ parameters)

-- the same with every word zero
abbrev pub new_tables : List ℕ → ℕ → ℕ → ℕ → Lent
new_tables text components properties parameters = lent text (replicate components 0) (replicate properties 0) (replicate parameters 0)

unfoldable pub repeated : ℕ → List ℕ → List ℕ
repeated zero xs = []
repeated (suc n) xs = xs ++ repeated n xs

-- 64 lines `BEGIN:A` of 8 bytes each, and then this
abbrev pub deep : List ℕ → List ℕ
deep rest = repeated 64 (bytes "BEGIN:A\n") ++ rest

-- the words of so many components, each in the one before; the first has this parent and this row, and the name of row i is the byte at step * i + offset
unfoldable pub nested : ℕ → ℕ → ℕ → ℕ → ℕ → List ℕ
nested step offset zero parent row = []
nested step offset (suc n) parent row = parent ∷ (row + 1) ∷ (step * row + offset) ∷ 1 ∷ nested step offset n row (row + 1)

-- ---- what a case can say

pub data Claim : Type 0 where
  -- a feed read into these buffers gives six numbers, and leaves the buffers so
  reads : (feed : List ℕ) (before : Lent) (numbers : List ℕ) (after : Lent) → Claim
  -- a feed measured into this text gives six numbers, and leaves the text so
  measures : (feed before numbers after : List ℕ) → Claim
  -- filling these tables from the text beside them gives six numbers, and leaves text and tables so
  fills : (before : Lent) (numbers : List ℕ) (after : Lent) → Claim
  -- the repository's fold of a line into this buffer gives three numbers, and leaves the buffer so
  folds : (line before numbers after : List ℕ) → Claim
  -- so does the strict fold
  folds_strictly : (line before numbers after : List ℕ) → Claim
  -- so does quoting
  quotes : (value before numbers after : List ℕ) → Claim
  -- so does reading a value as text, in this mode
  reads_text : (mode : Mode) (value before numbers after : List ℕ) → Claim
  -- so does writing a text
  writes_text : (text before numbers after : List ℕ) → Claim
  -- so does the writer, on this text and these tables
  writes : (tables : Lent) (before numbers after : List ℕ) → Claim
  -- the twin test of two rows of this text and these tables gives three numbers
  compares : (tables : Lent) (first second : ℕ) (numbers : List ℕ) → Claim
  -- so does the looser one
  compares_loosely : (tables : Lent) (first second : ℕ) (numbers : List ℕ) → Claim
  -- so does the count of neighbours among the children of a row
  counts : (tables : Lent) (parent : ℕ) (numbers : List ℕ) → Claim
  -- unfolding into this buffer counts so many bytes, and leaves the buffer so
  unfolds : (feed before : List ℕ) (count : ℕ) (after : List ℕ) → Claim
  -- the view of a text has these bytes
  views : (text : List ℕ) (start len : ℕ) (part : List ℕ) → Claim
  -- the key of a line has so many bytes; no number: it is refused
  has_key : (line numbers : List ℕ) → Claim
  -- the parameter at the front has six numbers: key start and length, 1 if a value is present else 0, value start and length, bytes used; no number: there is none
  has_parameter : (rest numbers : List ℕ) → Claim

-- a refusal that leaves the three tables as they were
abbrev pub refuses : List ℕ → Lent → List ℕ → List ℕ → Claim
refuses feed before numbers text = reads feed before numbers (lent text before.components before.properties before.parameters)

-- a refusal of filling, which leaves all as it was
abbrev pub fills_nothing : Lent → List ℕ → Claim
fills_nothing before numbers = fills before numbers before

pub record Case : Type 0 where
  pub name : strings.String
  pub says : Claim

abbrev pub case : strings.String → Claim → Case
case name says = record { name = name; says = says }

-- ---- when it holds

-- "answer, place, text length, then counts of components, properties, parameters"
abbrev pub six_numbers : Reading → List ℕ
six_numbers r = r.answer ∷ r.place ∷ r.length ∷ r.components ∷ r.properties ∷ r.parameters ∷ []

-- "answer, place and the output length"
abbrev pub three_numbers : Output → List ℕ
three_numbers o = o.answer ∷ o.place ∷ o.length ∷ []

-- "answer, place, and 1 for twins, else 0"
abbrev pub compared_numbers : Compared → List ℕ
compared_numbers c = c.answer ∷ c.place ∷ c.twins ∷ []

-- answer, place, and the count
abbrev pub repeat_numbers : Neighbours → List ℕ
repeat_numbers n = n.answer ∷ n.place ∷ n.twins ∷ []

abbrev pub key_numbers : Option ℕ → List ℕ
key_numbers None = []
key_numbers (Some n) = n ∷ []

abbrev pub value_numbers : Value → List ℕ → List ℕ
value_numbers Absent rest = 0 ∷ 0 ∷ 0 ∷ rest
value_numbers (Present s) rest = 1 ∷ s.start ∷ s.len ∷ rest

abbrev pub front_numbers : Option Param → List ℕ
front_numbers None = []
front_numbers (Some p) = p.key.start ∷ p.key.len ∷ value_numbers p.value (p.used ∷ [])

abbrev pub same_lent : Lent → Lent → Bool
same_lent a b =
    same_bytes a.text b.text
    && (same_bytes a.components b.components && (same_bytes a.properties b.properties && same_bytes a.parameters b.parameters))

-- the numbers of an output, and the buffer
abbrev pub comes_out : Output → List ℕ → List ℕ → List ℕ → Bool
comes_out o out numbers after = same_bytes (three_numbers o) numbers && same_bytes out after

unfoldable pub comes_true : Claim → Bool
comes_true (reads feed before numbers after) = same_bytes (six_numbers (read_into feed before)) numbers && same_lent (left feed before) after
comes_true (measures feed before numbers after) =
    same_bytes (six_numbers (measuring_of feed (length before))) numbers && same_bytes (text_after feed before) after
comes_true (fills before numbers after) = same_bytes (six_numbers (fill_from before)) numbers && same_lent (left_filled before) after
comes_true (folds line before numbers after) = comes_out (fold_answer repository_line repository line (length before)) (fold_out repository_line repository line before) numbers after
comes_true (folds_strictly line before numbers after) = comes_out (fold_answer strict_line strict line (length before)) (fold_out strict_line strict line before) numbers after
comes_true (quotes value before numbers after) = comes_out (quote_answer value (length before)) (quote_out value before) numbers after
comes_true (reads_text mode value before numbers after) = comes_out (text_answer mode value (length before)) (text_out mode value before) numbers after
comes_true (writes_text text before numbers after) = comes_out (value_answer text (length before)) (value_out text before) numbers after
comes_true (writes tables before numbers after) = comes_out (write_answer tables (length before)) (write_out tables before) numbers after
comes_true (compares tables first second numbers) = same_bytes (compared_numbers (twins_answer tables first second)) numbers
comes_true (compares_loosely tables first second numbers) = same_bytes (compared_numbers (loose_twins_answer tables first second)) numbers
comes_true (counts tables parent numbers) = same_bytes (repeat_numbers (neighbours_answer tables parent)) numbers
comes_true (unfolds feed before count after) = eqb (length (unfolded feed)) count && same_bytes (laid (unfolded feed) before) after
comes_true (views text start len part) = same_bytes (viewed text start len) part
comes_true (has_key line numbers) = same_bytes (key_numbers (key_of line)) numbers
comes_true (has_parameter rest numbers) = same_bytes (front_numbers (front_of rest)) numbers

-- the names of the cases that do not hold
unfoldable pub wrong : List Case → List strings.String
wrong [] = []
wrong (c ∷ cs) = pick (comes_true c.says) (wrong cs) (c.name ∷ wrong cs)
