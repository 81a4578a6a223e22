-- Listings by example, held against document 01, "Examples". Assumes nothing.
use Prim.Native.Nat.{ℕ, ◌<◌}
use mathlib.Core.Path.{◌≡◌, refl}
use mathlib.Core.List.{List}
use lib.ListN.{length, replicate, length-replicate}
use borrow.Author.Tests.{lt-leb}
use Rattle.octets.specs.Literals.{bytes}
use Rattle.octets.specs.Runs as runs
use Rattle.octets.specs.Words.{same_bytes, starts_word}
use Rattle.unfolding.specs.Unfold.{unfolded_after}
use Rattle.parameters.specs.Values.{quoted_len, further_after, form_of}
use Rattle.parameters.specs.Parameter.{param_of, front_of}
use Rattle.parameters.specs.Parameters.{params_after, params_used}
use Rattle.lines.specs.Split.{lines_after}
use Rattle.lines.specs.Rule.{line_of}
use Rattle.tables.specs.Lent.{Lent, lent}
use Rattle.tables.specs.Rows.{flat}
use Rattle.nesting.specs.Steps.{read_lines, outcome_of}
use Rattle.reading.specs.Answers.{reading_of, text_after}
use Rattle.reading.specs.Lent.{room_in}
use Rattle.listing.specs.Texts.{digits}
use Rattle.listing.specs.Lines.{listed_rows}
use Rattle.listing.specs.Listing.{listing, rooms, listing_of}

-- room for 99 bytes of text, two components, three properties and two parameters
abbrev before : Lent
before = lent (replicate 99 0) (replicate 8 0) (replicate 15 0) (replicate 12 0)

-- "Fields: parent or `-`, depth, name; owner, key, value; property row, then key and, if present, `=` and value", "an empty one prints nothing"
listed : listing (bytes "BEGIN:A\r\nBEGIN:B\nUID:7\nATTENDEE;CN=\"A:B\";RSVP:mailto:x\nEND:B\nX:\nEND:A\n") before
    ≡ bytes "components 2\n- 1 A\n0 2 B\nproperties 3\n1 UID 7\n1 ATTENDEE mailto:x\n0 X \nparameters 2\n1 CN=A:B\n1 RSVP\n"
unfolding bytes unfolded_after runs.run same_bytes starts_word quoted_len further_after form_of param_of front_of params_after params_used lines_after line_of flat
    read_lines outcome_of reading_of text_after digits listed_rows
listed = refl

-- "A refusal prints one line, `refused` and the six numbers, spaced alike."
refused : listing (bytes "BEGIN:A\nEND:B\n") before ≡ bytes "refused 5 8 14 0 0 0\n"
unfolding bytes unfolded_after runs.run same_bytes starts_word quoted_len further_after form_of param_of front_of params_after params_used lines_after line_of flat
    read_lines outcome_of reading_of text_after digits listed_rows
refused = refl

-- "standard input to 16,384 bytes (more is refused with 1 and five zeros)"
over : (feed : List ℕ) → 16384 < length feed → listing_of feed ≡ bytes "refused 1 0 0 0 0 0\n"
unfolding bytes digits listing_of
over feed h = rw (lt-leb (length feed) 16384 h)

-- "rows for 128 components, 512 properties and 512 parameters"
rows : (length rooms.text ≡ 16384) × (room_in rooms ≡ record { components = 128; properties = 512; parameters = 512 })
rows = (length-replicate {A = ℕ} 16384 0, refl)
