-- The numbers of document 01, "What each number returns and leaves", by their names, and the limits of "Sizes".
-- Assumes nothing.
use Rattle.std.specs.Prelude.{ℕ, List, eqb, leb}
use Rattle.octets.specs.Choice.{pick}
use Rattle.octets.specs.Laid.{laid}
use Rattle.octets.specs.declared.Answer.{Answer}
use Rattle.octets.specs.declared.Output.{Output}

abbrev pub longest : ℕ
longest = 1048576

abbrev pub deepest : ℕ
deepest = 64

abbrev pub done : ℕ
done = 0

abbrev pub too_long : ℕ
too_long = 1

abbrev pub no_text_room : ℕ
no_text_room = 2

abbrev pub bad_begin : ℕ
bad_begin = 3

abbrev pub too_deep : ℕ
too_deep = 4

abbrev pub bad_end : ℕ
bad_end = 5

abbrev pub outside : ℕ
outside = 6

-- document 02, request 2: of a line that is no property, with 17 and 18
abbrev pub empty_key : ℕ
empty_key = 7

abbrev pub unclosed : ℕ
unclosed = 8

abbrev pub no_component : ℕ
no_component = 9

abbrev pub no_room : ℕ
no_room = 10

abbrev pub has_break : ℕ
has_break = 11

abbrev pub not_ascii : ℕ
not_ascii = 12

abbrev pub no_out_room : ℕ
no_out_room = 13

abbrev pub bad_table : ℕ
bad_table = 14

abbrev pub unwritable : ℕ
unwritable = 15

-- document 02, request 1
abbrev pub bad_escape : ℕ
bad_escape = 16

-- document 02, request 2
abbrev pub reserved_key : ℕ
reserved_key = 17

abbrev pub stray_byte : ℕ
stray_byte = 18

-- document 02, request 4: in the strict fold and the writer, in the place of 12
abbrev pub not_utf8 : ℕ
not_utf8 = 19

-- the number of each answer
abbrev pub answer_number : Answer → ℕ
answer_number Answer.Done = done
answer_number Answer.TooLong = too_long
answer_number Answer.NoTextRoom = no_text_room
answer_number Answer.BadBegin = bad_begin
answer_number Answer.TooDeep = too_deep
answer_number Answer.BadEnd = bad_end
answer_number Answer.Outside = outside
answer_number Answer.EmptyKey = empty_key
answer_number Answer.Unclosed = unclosed
answer_number Answer.NoComponent = no_component
answer_number Answer.NoRoom = no_room
answer_number Answer.HasBreak = has_break
answer_number Answer.NotAscii = not_ascii
answer_number Answer.NoOutRoom = no_out_room
answer_number Answer.BadTable = bad_table
answer_number Answer.Unwritable = unwritable
answer_number Answer.BadEscape = bad_escape
answer_number Answer.ReservedKey = reserved_key
answer_number Answer.StrayByte = stray_byte
answer_number Answer.NotUtf8 = not_utf8

-- the three numbers of a fold, of quoting and of the writer
abbrev pub output : ℕ → ℕ → ℕ → Output
output answer place length = record { answer = answer; place = place; length = length }

-- so many bytes go into so much room, or are asked for
abbrev pub room_answer : ℕ → ℕ → Output
room_answer needed room = pick (leb needed room) (output done 0 needed) (output no_out_room 0 needed)

-- what the buffer of a fold, of quoting or of the writer holds then: Done lays the bytes over its front, a refusal changes nothing
abbrev pub out_after : Output → List ℕ → List ℕ → List ℕ
out_after told bytes old = pick (eqb told.answer done) (laid bytes old) old
