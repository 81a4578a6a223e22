-- Answer 1: what is over 1,048,576 bytes is refused before all else but a broken or unwritable row, and changes nothing. No such input can stand in a table,
-- so these are laws over all of them. One byte less is read by the law `within`, and run by the programs `limits`, `writer_trial` and `twin_trial`. Assumes nothing.
use Prim.Native.Nat.{ℕ, ◌≤◌, ◌<◌}
use mathlib.Core.Path.{◌≡◌, refl}
use mathlib.Core.Bool.{Bool, true, false, ◌&&◌}
use mathlib.Core.List.{List, [], ◌∷◌}
use lib.ListN.{length}
use lib.Dec.{leb}
use borrow.Author.Tests.{le-leb, lt-leb}
use Rattle.std.specs.Prelude.{None, Ok}
use Rattle.octets.specs.Choice.{pick}
use Rattle.octets.specs.Answers.{output, out_after}
use Rattle.octets.specs.Words.{same_bytes}
use Rattle.octets.specs.declared.Output.{Output}
use Rattle.unfolding.specs.Unfold.{unfolded}
use Rattle.tables.specs.Lent.{Lent, broken_in}
use Rattle.reading.specs.Answers.{measure_text, read_text, reading_of, measuring_of, filling_of, text_after}
use Rattle.reading.specs.Lent.{room_in, read_into, left, fill_from, left_filled}
use Rattle.folding.specs.Answers.{line_answer, fold_answer, fold_out}
use Rattle.quoting.specs.Answers.{quote_answer, quote_out}
use Rattle.escapes.specs.Text.{text_of, as_value}
use Rattle.escapes.specs.Answers.{text_answer, text_out, value_answer, value_out}
use Rattle.escapes.specs.Loose.{strictly_read, same_text}
use Rattle.escapes.specs.declared.Mode.{Mode}
use Rattle.writable.specs.WritingRule.{judged_in}
use Rattle.writing.specs.Answers.{written_in, write_answer, write_out}
use Rattle.worked.specs.Cases.{six_numbers, three_numbers}

-- a reading: "over the byte limit"; "0; rest 0"; "Refusals 1 and 2 change nothing lent."
module _ (feed : List ℕ) (b : Lent) where
  pub when_too_long : 1048576 < length feed → six_numbers (read_into feed b) ≡ 1 ∷ 0 ∷ 0 ∷ 0 ∷ 0 ∷ 0 ∷ []
  unfolding reading_of
  when_too_long over = rw (lt-leb (length feed) 1048576 over)

  pub too_long_leaves : 1048576 < length feed → left feed b ≡ b
  unfolding reading_of text_after
  too_long_leaves over = rw (lt-leb (length feed) 1048576 over)

  -- at the limit the feed is read: "1,048,576 bytes are read, one more refused"
  pub within : length feed ≤ 1048576 → length (unfolded feed) ≤ length b.text → read_into feed b ≡ read_text (unfolded feed) (room_in b)
  unfolding reading_of
  within feed-fits text_fits = rw (le-leb (length feed) 1048576 feed-fits, le-leb (length (unfolded feed)) (length b.text) text_fits)

-- measuring: "measuring gives 1 to 9 and later line refusals, with the same changes to the text"
module _ (feed text : List ℕ) where
  pub measured_too_long : 1048576 < length feed → six_numbers (measuring_of feed (length text)) ≡ 1 ∷ 0 ∷ 0 ∷ 0 ∷ 0 ∷ 0 ∷ []
  unfolding measuring_of
  measured_too_long over = rw (lt-leb (length feed) 1048576 over)

  pub measured_too_long_leaves : 1048576 < length feed → text_after feed text ≡ text
  unfolding text_after
  measured_too_long_leaves over = rw (lt-leb (length feed) 1048576 over)

  -- at the limit the feed is measured
  pub measured_within : length feed ≤ 1048576 → length (unfolded feed) ≤ length text → measuring_of feed (length text) ≡ measure_text (unfolded feed)
  unfolding measuring_of
  measured_within feed-fits text_fits = rw (le-leb (length feed) 1048576 feed-fits, le-leb (length (unfolded feed)) (length text) text_fits)

-- filling: "filling gives 1, 3 to 10 and those too, and leaves the text unchanged always": the limit is on the text that is lent (C-74)
module _ (b : Lent) where
  pub filled_too_long : 1048576 < length b.text → six_numbers (fill_from b) ≡ 1 ∷ 0 ∷ 0 ∷ 0 ∷ 0 ∷ 0 ∷ []
  unfolding filling_of
  filled_too_long over = rw (lt-leb (length b.text) 1048576 over)

  pub filled_too_long_leaves : 1048576 < length b.text → left_filled b ≡ b
  unfolding filling_of
  filled_too_long_leaves over = rw (lt-leb (length b.text) 1048576 over)

  -- at the limit the text is read
  pub filled_within : length b.text ≤ 1048576 → fill_from b ≡ read_text b.text (room_in b)
  unfolding filling_of
  filled_within fits = rw (le-leb (length b.text) 1048576 fits)

-- either fold, whatever bytes it takes: "Order in a fold: 1, 11, 12, 13", and 19 in the place of 12
module _ (number : ℕ) (sound : List ℕ → ℕ) (fold : List ℕ → List ℕ) (line old : List ℕ) (over : 1048576 < length line) where
  abbrev checked : List ℕ → Output
  checked l = line_answer number (sound l) l

  pub line_too_long : three_numbers (fold_answer checked fold line (length old)) ≡ 1 ∷ 0 ∷ 0 ∷ []
  line_too_long = rw (lt-leb (length line) 1048576 over)

  pub line_too_long_leaves : fold_out checked fold line old ≡ old
  line_too_long_leaves = rw (lt-leb (length line) 1048576 over)

-- quoting: "in quoting, of any bytes: 1, 13"
module _ (value old : List ℕ) (over : 1048576 < length value) where
  pub value_too_long : three_numbers (quote_answer value (length old)) ≡ 1 ∷ 0 ∷ 0 ∷ []
  value_too_long = rw (lt-leb (length value) 1048576 over)

  pub value_too_long_leaves : quote_out value old ≡ old
  value_too_long_leaves = rw (lt-leb (length value) 1048576 over)

-- reading text, in either mode: "1 for input or output; 16 BadEscape ..; then 13"; "The output then stays."
module _ (mode : Mode) (value old : List ℕ) (over : 1048576 < length value) where
  pub text_value_too_long : three_numbers (text_answer mode value (length old)) ≡ 1 ∷ 0 ∷ 0 ∷ []
  text_value_too_long = rw (lt-leb (length value) 1048576 over)

  pub text_value_too_long_leaves : text_out mode value old ≡ old
  text_value_too_long_leaves = rw (lt-leb (length value) 1048576 over)

-- writing text: the text, and the value that is written for it
module _ (text old : List ℕ) where
  pub text_to_write_too_long : 1048576 < length text → three_numbers (value_answer text (length old)) ≡ 1 ∷ 0 ∷ 0 ∷ []
  text_to_write_too_long over = rw (lt-leb (length text) 1048576 over)

  pub text_to_write_too_long_leaves : 1048576 < length text → value_out text old ≡ old
  text_to_write_too_long_leaves over = rw (lt-leb (length text) 1048576 over)

  pub written_value_too_long : 1048576 < length (as_value text) → three_numbers (value_answer text (length old)) ≡ 1 ∷ 0 ∷ 0 ∷ []
  written_value_too_long over = rw (lt-leb (length (as_value text)) 1048576 over) (go (leb (length text) 1048576))
    where
      go : (t : Bool) → three_numbers (pick t (output 1 0 0) (output 1 0 0)) ≡ 1 ∷ 0 ∷ 0 ∷ []
      go true = refl
      go false = refl

  pub written_value_too_long_leaves : 1048576 < length (as_value text) → value_out text old ≡ old
  written_value_too_long_leaves over = rw (lt-leb (length (as_value text)) 1048576 over) (go (leb (length text) 1048576))
    where
      go : (t : Bool) → out_after (pick t (output 1 0 0) (output 1 0 0)) (as_value text) old ≡ old
      go true = refl
      go false = refl

-- the looser twin test: a value that is too long is refused, "or as bytes if either is refused there"
module _ (v w : List ℕ) where
  pub first_as_bytes : 1048576 < length v → same_text v w ≡ same_bytes v w
  first_as_bytes over = rw (lt-leb (length v) 1048576 over)

  pub second_as_bytes : 1048576 < length w → same_text v w ≡ same_bytes v w
  second_as_bytes over = rw (lt-leb (length w) 1048576 over) (go (strictly_read v))
    where
      go : (t : Bool) → pick (t && false) (same_bytes (text_of v) (text_of w)) (same_bytes v w) ≡ same_bytes v w
      go true = refl
      go false = refl

-- the writer: behind 14, 15 and 19, and before 13: "then 1, 13"
module _ (b : Lent) (old : List ℕ) (sound : broken_in b ≡ None) (writable : judged_in b ≡ Ok tt) (over : 1048576 < length (written_in b)) where
  pub output_too_long : three_numbers (write_answer b (length old)) ≡ 1 ∷ 0 ∷ 0 ∷ []
  unfolding write_answer
  output_too_long = rw (sound, writable, lt-leb (length (written_in b)) 1048576 over)

  pub output_too_long_leaves : write_out b old ≡ old
  unfolding write_answer
  output_too_long_leaves = rw (sound, writable, lt-leb (length (written_in b)) 1048576 over)
