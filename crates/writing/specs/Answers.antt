-- What the writer answers, and what its buffer holds then (document 01, "What each number returns and leaves").
-- Assumes nothing.
use Rattle.std.specs.Prelude.{ℕ, ◌≡◌, List, length, leb, Result, Ok, Err}
use Rattle.octets.specs.Choice.{pick}
use Rattle.octets.specs.Answers.{longest, done, too_long, bad_table, output, room_answer, out_after}
use Rattle.octets.specs.declared.Output.{Output}
use Rattle.tables.specs.Lent.{Lent, held, broken_in, trees_in}
use Rattle.tables.specs.declared.Tables.{Tables}
use Rattle.tables.specs.TableRule.{by_table_rule}
use Rattle.writable.specs.WritingRule.{judged_in, number_of}
use Rattle.writable.specs.declared.Unfit.{Unfit}
use Rattle.printing.specs.Lines.{written}

-- the bytes that tables are written as: those of the trees that they stand for
abbrev pub written_in : Lent → List ℕ
written_in b = written (trees_in b)

-- 14 with the first row that breaks the table rule
abbrev pub not_written : ℕ → Output
not_written row = output bad_table row 0

-- then the first row with 15 or 19
abbrev pub by_writing_rule : Result (Unit {0}) Unfit → Output → Output
by_writing_rule (Ok fine) next = next
by_writing_rule (Err unfit) next = output (number_of unfit.fault) unfit.row 0

-- then 1 and 13
abbrev pub by_length : ℕ → ℕ → Output
by_length needed room = pick (leb needed longest) (room_answer needed room) (output too_long 0 0)

unfoldable pub write_answer : Lent → ℕ → Output
write_answer b room = by_table_rule not_written (broken_in b) (by_writing_rule (judged_in b) (by_length (length (written_in b)) room))

abbrev pub write_out : Lent → List ℕ → List ℕ
write_out b old = out_after (write_answer b (length old)) (written_in b) old

-- ---- what serves inner contracts only

-- tables that meet both rules
pub record Judged (lent checked : Tables) : Type 0 where
  pub same : checked ≡ lent
  pub fit : judged_in (held lent) ≡ Ok tt

-- what refuses them, whatever the room
pub record Refused (b : Lent) (refusal : Output) : Type 0 where
  pub answers : (room : ℕ) → refusal ≡ write_answer b room
  pub refuses : refusal.answer ≡ done → ⊥
