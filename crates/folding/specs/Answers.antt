-- What a fold answers, and what the buffer holds then, whichever fold it is (document 01, "What each number returns and leaves"; document 02, request 4).
-- Assumes nothing.
use Rattle.std.specs.Prelude.{ℕ, Bool, ◌&&◌, Result, Ok, Err, ⊤, List, length, eqb, leb}
use Rattle.octets.specs.Choice.{pick}
use Rattle.octets.specs.Bytes.{lf, other, ascii}
use Rattle.octets.specs.Runs.{run, only}
use Rattle.octets.specs.Answers.{longest, done, too_long, has_break, not_ascii, not_utf8, output, room_answer, out_after}
use Rattle.octets.specs.declared.Output.{Output}
use Rattle.characters.specs.Utf8.{utf8_run}

-- a byte that refuses no line
abbrev pub foldable : ℕ → Bool
foldable x = other lf x && ascii x

-- what refuses a line for its bytes: an LF, and then bytes that the fold does not take, told by their number; it takes so many at the front
abbrev pub byte_answer : ℕ → ℕ → List ℕ → Output
byte_answer number sound line =
    pick (only (other lf) line)
    (pick (leb (length line) sound) (output done 0 0) (output number sound 0))
    (output has_break (run (other lf) line) 0)

-- what a check gives of an answer: nothing where it is Done, and else the refusal
abbrev pub passed : Output → Result ⊤ Output
passed told = pick (eqb told.answer done) (Ok tt) (Err told)

-- what refuses a line before it is folded, in the order of document 01: its length, and then its bytes
abbrev pub line_answer : ℕ → ℕ → List ℕ → Output
line_answer number sound line = pick (leb (length line) longest) (byte_answer number sound line) (output too_long 0 0)

-- the strict fold takes UTF-8, and tells of the first ill-formed character
abbrev pub strict_line : List ℕ → Output
strict_line line = line_answer not_utf8 (utf8_run line) line

-- the repository's takes ASCII, and tells of the first byte of 128 or more
abbrev pub repository_line : List ℕ → Output
repository_line line = line_answer not_ascii (run ascii line) line

-- a line that nothing refuses is folded, and room decides
abbrev pub fold_answer : (List ℕ → Output) → (List ℕ → List ℕ) → List ℕ → ℕ → Output
fold_answer checked fold line room =
    pick (eqb (checked line).answer done) (room_answer (length (fold line)) room) (checked line)

abbrev pub fold_out : (List ℕ → Output) → (List ℕ → List ℕ) → List ℕ → List ℕ → List ℕ
fold_out checked fold line old = out_after (fold_answer checked fold line (length old)) (fold line) old
