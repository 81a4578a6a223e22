-- What reading and writing of text answer, and what the buffer holds then (document 02, request 1: "Refusals").
-- Assumes nothing.
use Rattle.std.specs.Prelude.{ℕ, List, length, leb}
use Rattle.octets.specs.Choice.{pick}
use Rattle.octets.specs.Answers.{longest, too_long, bad_escape, output, room_answer, out_after}
use Rattle.octets.specs.declared.Output.{Output}
use Rattle.escapes.specs.Text.{fine, escapes_fine, text_of, as_value}
use Rattle.escapes.specs.declared.Mode.{Mode}

-- "1 for input or output"
abbrev pub within_limit : ℕ → Output → Output
within_limit n next = pick (leb n longest) next (output too_long 0 0)

-- "16 BadEscape, place of the backslash, for any escape outside the mode and a backslash at the end; then 13"; a text is never longer than its value
abbrev pub text_answer : Mode → List ℕ → ℕ → Output
text_answer mode value room =
    within_limit (length value)
    (pick (escapes_fine mode value) (room_answer (length (text_of value)) room) (output bad_escape (fine mode value) 0))

-- "The output then stays."
abbrev pub text_out : Mode → List ℕ → List ℕ → List ℕ
text_out mode value old = out_after (text_answer mode value (length old)) (text_of value) old

abbrev pub value_answer : List ℕ → ℕ → Output
value_answer text room = within_limit (length text) (within_limit (length (as_value text)) (room_answer (length (as_value text)) room))

abbrev pub value_out : List ℕ → List ℕ → List ℕ
value_out text old = out_after (value_answer text (length old)) (as_value text) old
