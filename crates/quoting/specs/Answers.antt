-- What quoting answers, and what the buffer holds then (document 01, "What each number returns and leaves").
-- Assumes nothing.
use Rattle.std.specs.Prelude.{ℕ, List, length, leb}
use Rattle.octets.specs.Choice.{pick}
use Rattle.octets.specs.Answers.{longest, too_long, output, room_answer, out_after}
use Rattle.octets.specs.declared.Output.{Output}
use Rattle.quoting.specs.Quoting.{quoted}

-- too long a value, of any bytes, is refused; else room decides
abbrev pub quote_answer : List ℕ → ℕ → Output
quote_answer value room = pick (leb (length value) longest) (room_answer (length (quoted value)) room) (output too_long 0 0)

abbrev pub quote_out : List ℕ → List ℕ → List ℕ
quote_out value old = out_after (quote_answer value (length old)) (quoted value) old
