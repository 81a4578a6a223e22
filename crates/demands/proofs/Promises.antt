-- What Hawniretem promises, in one file: open this first. Above each statement stands what it says and, in brackets, the sentences of
-- docs/SPECIFICATION.md that it answers; docs/COVERAGE.md has the rest of what shows them. Each is proved by naming what stands elsewhere.
-- A number with a letter is a promise that a later request added beside those of the base.
-- Words: `b` is a text and the words of three tables as they are lent (`Lent`); `read_into feed b` are the six numbers of a reading, `left feed b`
-- what it leaves in b; `told_of` cuts that to what the numbers tell of; `trees_in b` are the trees that tables stand for. `measuring_of feed room` are the six
-- numbers of measuring with so many bytes of text, `fill_from b` and `left_filled b` what filling from the text of b into its tables tells and leaves.
-- Assumes nothing.
use mathlib.Core.Path.{◌≡◌, refl, sym}
use mathlib.Core.Bool.{true, ◌&&◌}
use mathlib.Core.List.{List, [], ◌++◌, map}
use mathlib.Core.Logic.{◌↔◌}
use Prim.Native.Nat.{ℕ, ◌*◌, ◌≤◌, ◌<◌}
use lib.ListN.{length, drop}
use Rattle.std.specs.Prelude.{None}
use Rattle.octets.specs.Bytes.{key_byte, ascii}
use Rattle.octets.specs.Runs.{only}
use Rattle.octets.specs.All.{All}
use Rattle.octets.specs.Answers.{longest, done, no_text_room, no_room, bad_escape, stray_byte, not_utf8, output}
use Rattle.unfolding.specs.Unfold.{unfolded}
use Rattle.unfolding.proofs.Laws.{Unbroken}
use Rattle.tables.specs.Rows.{component_size, property_size, parameter_size}
use Rattle.tables.specs.Lent.{Lent, components_in, broken_in, trees_in, tree_in}
use Rattle.tables.specs.Trees.{Parameter, Property}
use Rattle.nesting.specs.Steps.{State, counts_of}
use Rattle.nesting.specs.declared.Counts.{Counts}
use Rattle.reading.specs.Answers.{told, counts_in, refusal, measuring_of}
use Rattle.reading.specs.Lent.{room_in, read_into, left, fill_from, left_filled}
use Rattle.reading.specs.InTurn.{read_in_turn, left_in_turn}
use Rattle.reading.specs.declared.Reading.{Reading}
use Rattle.reading.proofs.Pair.{unfilled, in_turn}
use Rattle.folding.specs.Pieces.{physical, Within}
use Rattle.characters.specs.Utf8.{is_utf8}
use Rattle.characters.specs.Grammar.{Utf8, IllFormedAt}
use Rattle.folding.specs.Strict.{first, strict, strict_pieces, CutAtStarts, bytewise, Full}
use Rattle.folding.specs.Repository.{repository}
use Rattle.folding.specs.Answers.{strict_line, repository_line, fold_answer}
use Rattle.quoting.specs.Quoting.{quoted}
use Rattle.quoting.specs.Answers.{quote_answer}
use Rattle.escapes.specs.Text.{escapes_fine, text_of, as_value}
use Rattle.escapes.specs.Answers.{text_answer, text_out, value_answer, value_out}
use Rattle.escapes.specs.declared.Mode.{Mode}
use Rattle.escapes.specs.Grammar.{StandsFor}
use Rattle.escapes.proofs.Grammar.{reads}
use Rattle.printing.specs.Lines.{property_line, written}
use Rattle.writing.specs.Answers.{written_in, write_answer, write_out}
use Rattle.comparing.specs.Multisets.{many_of}
use Rattle.comparing.specs.Orders.{Reordered}
use Rattle.comparing.specs.Pieces.{same_parameter, same_parameters}
use Rattle.comparing.proofs.Multisets.{as_often_exactly}
use Rattle.comparing.proofs.Pieces.{of_parameter}
use Rattle.matching.specs.Meaning.{in_lower_case, TwinTrees}
use Rattle.matching.proofs.Meaning.{parameters_mean}
use Rattle.twins.specs.Answers.{levels, compared, twins_answer}
use Rattle.twins.proofs.Laws.{Asked, Twins, twins_exactly, equal_are_twins, twin_itself, twin_turned, twin_joined, LooseTwins, twin_is_loose, loose_itself, loose_turned, loose_joined}
use Rattle.demands.specs.Calls.{Determined}
use Rattle.demands.specs.Lent.{Roomier, text_only, told_of}
use Rattle.demands.specs.Outputs.{FitTables, RoomDecides, told_bytes}
use Rattle.demands.specs.Texts.{BadAt}
use Rattle.demands.specs.Readable.{Readable, ReadTo}
use Rattle.demands.specs.Room.{AtMost, Exceeds, SameLeft, Suffices}
use Rattle.demands.specs.Filling.{Needs, MoreRows, MeasuredIn}
use Rattle.demands.specs.Returning.{lines_of, values_utf8, Enough}
use Rattle.demands.specs.Grammar.{Calendar}
use Rattle.demands.specs.LineFaults.{StrayAt, BadLine}
use Rattle.demands.specs.GrammarRefusals.{Broken}
use Rattle.demands.specs.Before.{ToldBy, Became}
use Rattle.demands.specs.Examples.{starred, all_hold}
use Rattle.demands.proofs.Calls as calls
use Rattle.demands.proofs.Readable.{readable_done, done_exactly}
use Rattle.demands.proofs.SaidNesting.{rows}
use Rattle.demands.proofs.Grammar.{readable_calendar, answered_broken, broken_answered, stray_told}
use Rattle.demands.proofs.Before.{told_before, became}
use Rattle.demands.proofs.MeetsRule.{done_meets}
use Rattle.demands.proofs.MoreRoom.{same_reading, two_exactly, ten_exactly, refusals_suffice, one_two_leave, later_leave}
use Rattle.demands.proofs.Filling.{never_ten, never_two, more_rows, fill_ten, fill_suffices, measured_suffices, measured_exactly}
use Rattle.demands.proofs.OutRoom.{strict_room, repository_room, quote_room, text_room, value_room, write_room}
use Rattle.demands.proofs.Folds.{strict_unfolds, repository_unfolds, strict_75, strict_starts, strict_ascii, strict_uncut, ill_told, told_ill}
use Rattle.demands.proofs.Characters.{property_utf8, utf8_lines}
use Rattle.demands.proofs.Fitting.{accepted_fit, accepted}
use Rattle.demands.proofs.Texts.{told_back, bad_escape_at, text_no_longer}
use Rattle.demands.proofs.RoundTrip as trip
use Rattle.demands.proofs.Examples.{all_starred}

-- ---- Demand 1: every feed, row and buffer gets a definite answer

-- 1. Any two results, and any two contents of what is lent, that the contract of a call allows for the same arguments are equal. That no call asks
-- anything of its caller is said beside each of them, in `Calls`. [B-72, B-77]
pub definite : Determined calls.read_components (λ κs r. r) × Determined calls.write_components (λ κs r. r) × Determined calls.compare_twins (λ κs r. r)
    × Determined calls.fold_strict (λ κs r. r) × Determined calls.fold_line (λ κs r. r) × Determined calls.quote_special_chars (λ κs r. r)
    × Determined calls.parameter (λ κs r. r)
definite = (
  calls.read_components_determined,
  calls.write_components_determined,
  calls.compare_twins_determined,
  calls.fold_strict_determined,
  calls.fold_line_determined,
  calls.quote_special_chars_determined,
  calls.parameter_determined,
)

-- 1a. The same of reading and writing text, and of the looser twin test. [R1-01, R1-06]
pub text_definite : Determined calls.read_text (λ κs r. r) × Determined calls.write_text (λ κs r. r) × Determined calls.compare_loose_twins (λ κs r. r)
text_definite = (calls.read_text_determined, calls.write_text_determined, calls.compare_loose_twins_determined)

-- 1b. The same of measuring and filling. [R6-01, R6-02]
pub pair_definite : Determined calls.measure_components (λ κs r. r) × Determined calls.fill_components (λ κs r. r)
pair_definite = (calls.measure_components_determined, calls.fill_components_determined)

-- 2. Refusals 1 and 2 of a reading change nothing lent; 3 to 10, 17 and 18 leave the unfolded text at the front of the text, the bytes behind it as they were,
-- and no table word changed. [B-37, B-38, R2-01]
pub refusals_leave : (feed : List ℕ) (b : Lent) → (0 < (read_into feed b).answer → (read_into feed b).answer ≤ no_text_room → left feed b ≡ b)
    × (no_text_room < (read_into feed b).answer → left feed b ≡ text_only feed b)
refusals_leave feed b = (one_two_leave feed b, later_leave feed b)

-- 2a. Measuring never tells 10, and leaves in the text what the one call leaves, as its contract says; filling never tells 2, leaves the text as it was always,
-- and the tables unless it is Done. [R6-01, R6-02]
pub pair_leaves : ((feed text : List ℕ) → (measuring_of feed (length text)).answer ≡ no_room → ⊥)
    × ((b : Lent) → ((fill_from b).answer ≡ no_text_room → ⊥) × ((left_filled b).text ≡ b.text) × (((fill_from b).answer ≡ done → ⊥) → left_filled b ≡ b))
pair_leaves = (never_ten, λ b. (never_two b.text (room_in b), refl, λ f. sym (unfilled b refl f)))

-- ---- Demand 2: answers are those of the definitions, and a tree comes back

-- 3. A feed is read, Done, exactly where it is readable and there is room for its text and rows. [B-73]
pub done_is_readable : (feed : List ℕ) (b : Lent) → ((read_into feed b).answer ≡ done)
    ↔ ((s : State) × Readable feed s × (length (unfolded feed) ≤ length b.text) × AtMost (counts_of s) (room_in b))
done_is_readable = done_exactly

-- 4. Readable is what the grammar says: a calendar of nested lines, with exactly these rows. [B-54 to B-59, B-73]
pub readable_is_grammar : (feed : List ℕ) (s : State) → Readable feed s ↔ ((length feed ≤ longest) × Calendar (unfolded feed) (rows s) × (s.opens ≡ []))
readable_is_grammar = readable_calendar

-- 5. And where the grammar is broken the answer is the number and the place that the grammar gives, for 3 to 9, 17 and 18: these are the answers from 3 on
-- that are not 10. [B-18 to B-24, B-33, R2-01 to R2-03]
pub refused_is_grammar : (feed : List ℕ) (b : Lent)
    → ((number place : ℕ) → length feed ≤ longest → length (unfolded feed) ≤ length b.text → Broken (unfolded feed) number place
    → read_into feed b ≡ refusal number place (length (unfolded feed)))
    × (no_text_room < (read_into feed b).answer → ((read_into feed b).answer ≡ no_room → ⊥) → Broken (unfolded feed) (read_into feed b).answer (read_into feed b).place)
refused_is_grammar feed b = (λ number place. broken_answered feed b, answered_broken feed b)

-- 5a. 18 is told at a byte of the unfolded text, which is neither `:` nor `;`. [R2-01]
pub stray_byte_told : (feed : List ℕ) (b : Lent) → (read_into feed b).answer ≡ stray_byte → StrayAt (unfolded feed) (read_into feed b).place
stray_byte_told = stray_told

-- 5b. Before 7 was split it was told of every line in a component that is no property, at its start. Each feed had its answer then; exactly those that were 7
-- are 7, 17 or 18 now, with the same length and no counts, and no other answer changed. [R2-02, R2-04]
pub seven_is_split : (feed : List ℕ) (b : Lent) → ((r : Reading) × ToldBy BadLine feed b r) × ((r : Reading) → ToldBy BadLine feed b r → Became r (read_into feed b))
seven_is_split feed b = (told_before feed b, became feed b)

-- 6. The numbers, the bytes and the words that a Done reading gives are those of the definition, and read back as they are. [B-73, B-38]
pub done_gives : (feed : List ℕ) (b : Lent) (s : State) → Readable feed s → length (unfolded feed) ≤ length b.text → AtMost (counts_of s) (room_in b) → ReadTo feed b s
done_gives feed b = readable_done feed b

-- 6a. The one call is the two in turn: measuring and, where that is Done, filling from the first `length` bytes of the text give the same six numbers, the same
-- text and the same tables. So each refuses what it refuses: where measuring refuses, the one call does, and where the one call refuses, the pair does. [R6-03]
pub one_call_is_two : (feed : List ℕ) (b : Lent) → (read_in_turn feed b ≡ read_into feed b) × (left_in_turn feed b ≡ left feed b)
one_call_is_two = in_turn

-- 7. Every Done reading meets the table rule. [B-70]
pub reading_meets_rule : (feed : List ℕ) (b : Lent) → (read_into feed b).answer ≡ done → broken_in (told_of (read_into feed b) (left feed b)) ≡ None
reading_meets_rule = done_meets

-- 8. Unfolding gives back what either fold made of a line without LF; the strict fold has 75 octets at most in a physical line, and cuts each at the
-- last character start that it takes. [B-60, B-62, R4-03, R4-08]
pub folds_come_back : (line : List ℕ) → Unbroken line
    → (unfolded (strict line) ≡ line) × (unfolded (repository line) ≡ line) × Within 75 (physical (strict_pieces line)) × CutAtStarts first (strict_pieces line)
folds_come_back line w = (strict_unfolds line w, repository_unfolds line w, strict_75 line, strict_starts line)

-- 8a. A value is read, and as this text, exactly where the grammar of escaped text says so. [R1-02]
pub text_is_grammar : (mode : Mode) (value text : List ℕ) → ((escapes_fine mode value ≡ true) × (text_of value ≡ text)) ↔ StandsFor mode value text
text_is_grammar = reads

-- 8b. A text that was written comes back: the bytes that writing tells of, read in either mode into a buffer with room for the text, are Done, with the
-- text at its front. [R1-04]
pub text_comes_back : (mode : Mode) (text old out : List ℕ) → length text ≤ length out → (value_answer text (length old)).answer ≡ done →
    let value = told_bytes (value_answer text (length old)) (value_out text old) in
    (text_answer mode value (length out) ≡ output done 0 (length text)) × (text_out mode value out ≡ text ++ drop (length text) out)
text_comes_back = told_back

-- 8c. 16 is told at a backslash that begins no escape of the mode, and all before it is fine; and no text is longer than its value. [R1-05]
pub bad_escape_told : (mode : Mode) (value : List ℕ) (room : ℕ)
    → ((text_answer mode value room).answer ≡ bad_escape → BadAt mode value (text_answer mode value room).place) × ((text_answer mode value room).length ≤ length value)
bad_escape_told mode value room = (bad_escape_at mode value room, text_no_longer mode value room)

-- 8d. A line of ASCII folds as before request 4: byte by byte, and every physical line but the last is full. [R4-04, B-62]
pub ascii_as_before : (line : List ℕ) → only ascii line ≡ true → (strict line ≡ bytewise line) × Full first (strict_pieces line)
ascii_as_before = strict_ascii

-- 8e. No character of a line of UTF-8 is cut: each piece is UTF-8 too, in the words of the grammar of RFC 3629. [R4-01, R4-03]
pub no_character_cut : (line : List ℕ) → Utf8 line → All Utf8 (strict_pieces line)
no_character_cut = strict_uncut

-- 8f. The strict fold tells 19 exactly where the first ill-formed character begins, by the same grammar, if it tells neither 1 nor 11. [R4-01, R4-05]
pub not_utf8_told : (line : List ℕ) (room : ℕ)
    → ((fold_answer strict_line strict line room).answer ≡ not_utf8 → IllFormedAt line (fold_answer strict_line strict line room).place)
    × (length line ≤ longest → Unbroken line → (place : ℕ) → IllFormedAt line place → fold_answer strict_line strict line room ≡ output not_utf8 place 0)
not_utf8_told line room = (ill_told line room, told_ill line room)

-- 8g. A line is UTF-8 just if its values are, each by itself, since its keys and marks are ASCII; and every line that the writer folds is UTF-8, so that
-- nothing it writes has a character cut. [R4-05, R4-07]
pub values_decide : ((p : Property) → only key_byte p.key ≡ true → All (λ (q : Parameter). only key_byte q.key ≡ true) p.parameters
    → is_utf8 (property_line p) ≡ values_utf8 p.parameters && is_utf8 p.value)
    × ((b : Lent) (room : ℕ) → (write_answer b room).answer ≡ done → All Utf8 (lines_of (trees_in b)))
values_decide = (property_utf8, λ b room e. utf8_lines (trees_in b) (accepted_fit b (accepted b room e).1))

-- 9. The round trip: what the writer accepts, written and then read with room enough, is Done and stands for the same trees. Room enough is as many
-- bytes as were written, and as many rows as the tables have. [B-69]
pub round_trip : (b : Lent) (out : List ℕ) → (write_answer b (length out)).answer ≡ done → (b' : Lent) → Enough b b' →
    let feed = told_bytes (write_answer b (length out)) (write_out b out) in
    ((read_into feed b').answer ≡ done) × (trees_in (told_of (read_into feed b') (left feed b')) ≡ trees_in b)
round_trip = trip.round_trip

-- 10. What was read, and is accepted by the writer, can be written and read again to the same trees. [B-69]
pub read_again : (feed : List ℕ) (b : Lent) (out : List ℕ) →
    let t = told_of (read_into feed b) (left feed b) in
    (write_answer t (length out)).answer ≡ done → (b' : Lent) → Enough t b' →
    let again = told_bytes (write_answer t (length out)) (write_out t out) in
    ((read_into again b').answer ≡ done) × (trees_in (told_of (read_into again b') (left again b')) ≡ trees_in t)
read_again = trip.read_write_read

-- 11. Components that are written alike are equal, in whichever tables they stand, and so are twins: the written form is a key by which copies are found
-- across any number of feeds. Twins need not be written alike: keys may differ in case, and parameters in order. [B-69, B-71, R5-02]
pub written_is_key : (b b' : Lent) (room room' : ℕ) → (write_answer b room).answer ≡ done → (write_answer b' room').answer ≡ done
    → (row row' : ℕ) → row < length (components_in b.components) → row' < length (components_in b'.components)
    → written (tree_in b levels row) ≡ written (tree_in b' levels row') → tree_in b levels row ≡ tree_in b' levels row'
written_is_key = trip.written_key

-- 12. The twin test answers 1 exactly where the table rule is met, both rows are there, and their trees are twins: equal names, properties and children in
-- order, keys equal in lower case, values equal, and parameters equal in some order, with keys in lower case. [B-14, B-36, B-71, R5-01, R5-02, R5-04]
pub twins_are_twins : (b : Lent) (one other : ℕ) → (twins_answer b one other ≡ compared done 0 1) ↔ (Asked b one other × TwinTrees (tree_in b levels one) (tree_in b levels other))
twins_are_twins = twins_exactly

-- 12a. Rows whose trees are equal are twins. [B-71, R5-02]
pub equal_trees : (b : Lent) (one other : ℕ) → Asked b one other → tree_in b levels one ≡ tree_in b levels other → twins_answer b one other ≡ compared done 0 1
equal_trees = equal_are_twins

-- 12b. The parameters of two properties are the same exactly if each parameter, taken by its key without case and its value, stands in both as often; and
-- exactly if some order of the one, keys in lower case, is the other. [R5-01]
pub parameters_are_multisets : (ps qs : List Parameter)
    → ((same_parameters ps qs ≡ true) ↔ ((p : Parameter) → many_of same_parameter p ps ≡ many_of same_parameter p qs))
    × ((same_parameters ps qs ≡ true) ↔ Reordered (map in_lower_case ps) (map in_lower_case qs))
parameters_are_multisets ps qs = (as_often_exactly of_parameter ps qs, parameters_mean ps qs)

-- 13. Twins is an equivalence on the rows of one table. [B-71, R5-01]
pub twins_are_alike : (b : Lent) → ((row : ℕ) → broken_in b ≡ None → row < length (components_in b.components) → Twins b row row)
    × ((one other : ℕ) → Twins b one other → Twins b other one)
    × ((one other third : ℕ) → Twins b one other → Twins b other third → Twins b one third)
twins_are_alike b = (twin_itself b, twin_turned b, twin_joined b)

-- 13a. Twins are loose twins, and loose twins too are an equivalence on the rows of one table. [R1-06]
pub loose_twins : (b : Lent) → ((one other : ℕ) → Twins b one other → LooseTwins b one other)
    × ((row : ℕ) → broken_in b ≡ None → row < length (components_in b.components) → LooseTwins b row row)
    × ((one other : ℕ) → LooseTwins b one other → LooseTwins b other one)
    × ((one other third : ℕ) → LooseTwins b one other → LooseTwins b other third → LooseTwins b one third)
loose_twins b = (twin_is_loose b, loose_itself b, loose_turned b, loose_joined b)

-- 14. The starred examples. [B-79]
pub examples : all_hold starred ≡ true
examples = all_starred

-- ---- Demand 3: room

-- 15. More room changes no answer of a reading other than 2 and 10: the same numbers, the same bytes and rows. [B-74]
pub more_room : (feed : List ℕ) (b b' : Lent) → Roomier b b' → ((read_into feed b).answer ≡ no_text_room → ⊥) → ((read_into feed b).answer ≡ no_room → ⊥)
    → (read_into feed b' ≡ read_into feed b) × SameLeft (read_into feed b) b (left feed b) b' (left feed b')
more_room = same_reading

-- 16. 2 and 10 are told exactly where there is too little. [B-75]
pub too_little : (feed : List ℕ) (b : Lent) → (((read_into feed b).answer ≡ no_text_room) ↔ ((length feed ≤ longest) × (length b.text < length (unfolded feed))))
    × (((read_into feed b).answer ≡ no_room) ↔ ((length (unfolded feed) ≤ length b.text) × ((s : State) × Readable feed s × Exceeds (counts_of s) (room_in b))))
too_little feed b = (two_exactly feed (length b.text) (room_in b), ten_exactly feed (length b.text) (room_in b))

-- 17. What they name is enough. [B-76]
pub counts_are_enough : (feed : List ℕ) (b : Lent) → Suffices feed b
counts_are_enough = refusals_suffice

-- 17a. The same of filling: more rows change no answer other than 10, no byte and no row; 10 is told exactly where a count exceeds its rows; with the counts
-- that it names as rows, and the same text, the answer is Done with just them. [R6-04]
pub rows_decide : ((b b' : Lent) → MoreRows b b' → ((fill_from b).answer ≡ no_room → ⊥)
    → (fill_from b' ≡ fill_from b) × SameLeft (fill_from b) b (left_filled b) b' (left_filled b'))
    × ((b : Lent) → ((fill_from b).answer ≡ no_room) ↔ ((counts : Counts) × Needs b.text counts × Exceeds counts (room_in b)))
    × ((b b' : Lent) → (fill_from b).answer ≡ no_room → b'.text ≡ b.text → AtMost (counts_in (fill_from b)) (room_in b')
    → fill_from b' ≡ told done 0 (fill_from b).length (counts_in (fill_from b)))
rows_decide = (more_rows, λ b. fill_ten b.text (room_in b), λ b b' e t a. rw t (fill_suffices b.text (room_in b) e (room_in b') a))

-- 17b. And the counts that measuring names are enough for filling from the text that it left, which then tells the same six numbers: at least so many rows,
-- or exactly so many. [R6-04]
pub measured_is_enough : (feed text : List ℕ) → (measuring_of feed (length text)).answer ≡ done → (b : Lent) → MeasuredIn feed text b →
    let m = measuring_of feed (length text) in
    (AtMost (counts_in m) (room_in b) → fill_from b ≡ m)
    × (length b.components ≡ component_size * m.components → length b.properties ≡ property_size * m.properties
    → length b.parameters ≡ parameter_size * m.parameters → fill_from b ≡ m)
measured_is_enough feed text e b is = (measured_suffices feed text e b is, measured_exactly feed text e b is)

-- 18. The same of the writer, of both folds and of quoting: more room changes nothing but 13, which is told exactly where there is too little, with
-- the length that is enough; a refusal leaves the buffer as it was. [B-39, B-74 to B-76]
pub output_room : ((b : Lent) → RoomDecides (FitTables b) (written_in b) (write_answer b))
    × ((line : List ℕ) → RoomDecides ((strict_line line).answer ≡ done) (strict line) (fold_answer strict_line strict line))
    × ((line : List ℕ) → RoomDecides ((repository_line line).answer ≡ done) (repository line) (fold_answer repository_line repository line))
    × ((value : List ℕ) → RoomDecides (length value ≤ longest) (quoted value) (quote_answer value))
output_room = (write_room, strict_room, repository_room, quote_room)

-- 18a. And of reading and writing text: room decides where value and text are within the limit and every escape is of the mode. [R1-05]
pub text_room_decides : ((mode : Mode) (value : List ℕ)
    → RoomDecides ((length value ≤ longest) × (escapes_fine mode value ≡ true)) (text_of value) (text_answer mode value))
    × ((text : List ℕ) → RoomDecides ((length text ≤ longest) × (length (as_value text) ≤ longest)) (as_value text) (value_answer text))
text_room_decides = (text_room, value_room)
