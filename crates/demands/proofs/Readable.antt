-- The definition in both directions: Done is answered exactly to a readable feed with room enough, with exactly its rows. Assumes nothing.
use mathlib.Core.Path.{◌≡◌, refl, ap, ◌∙◌}
use mathlib.Core.List.{List, [], ◌∷◌, ◌++◌}
use mathlib.Core.Logic.{◌↔◌}
use Prim.Native.Nat.{ℕ, ◌*◌, ◌/◌, ◌≤◌}
use native.Mathlib.Omega.{arith}
use lib.ListN.{length, take, drop}
use borrow.Author.Tests.{le-leb}
use Rattle.octets.specs.Answers.{done}
use Rattle.octets.specs.Laid.{laid}
use Rattle.octets.proofs.Laid.{whole}
use Rattle.octets.specs.Runs.{run as byte_run}
use Rattle.octets.specs.Words.{starts_word, same_bytes}
use Rattle.unfolding.specs.Unfold.{unfolded, unfolded_after}
use Rattle.parameters.specs.Parameter.{front_of}
use Rattle.parameters.specs.Parameters.{params_after, params_used}
use Rattle.lines.specs.Split.{lines_after}
use Rattle.lines.specs.Rule.{line_of}
use Rattle.tables.specs.Rows.{no_parent, flat, row_at, rows_of}
use Rattle.tables.proofs.Laws.{Shape, length_flat, rows_back, component_shape, property_shape, parameter_shape}
use Rattle.nesting.specs.Steps.{State, counts_of, read_lines}
use Rattle.reading.specs.Answers.{told, text_after}
use Rattle.reading.specs.declared.Reading.{Reading}
use Rattle.tables.specs.Lent.{Lent}
use Rattle.reading.specs.Lent.{room_in, read_into}
use Rattle.demands.specs.Readable.{Readable, ReadTo}
use Rattle.demands.specs.Room.{AtMost}
use Rattle.demands.proofs.Cases.{Answered, cases, exactly}
use Rattle.demands.proofs.Cases.Answered.{when_too_long, when_no_text_room, not_readable, when_no_room, all_read}
use Rattle.demands.proofs.Fronts.{rows_fit}
use Rattle.demands.proofs.MoreRoom.{refusal_number}

-- a feed reads to one thing
pub reads_once : {feed : List ℕ} {s s' : State} → Readable feed s → Readable feed s' → s ≡ s'
reads_once r r' = let e = r.reads in let e' = r'.reads in cc

module _ {A : Type 0} {size : ℕ} {words : A → List ℕ} {from : List ℕ → ℕ → A} (shape : Shape size words from)
    (rows : List A) (old : List ℕ) (room : length rows ≤ length old / size) where
  rows_laid : laid (flat words rows) old ≡ flat words rows ++ drop (size * length rows) old
  rows_laid = let n = length_flat shape rows in whole (flat words rows) old (rw n (rows_fit shape rows old room)) ∙ rw n

  read_again : take (length rows) (rows_of size (row_at size from) (laid (flat words rows) old)) ≡ rows
  read_again = rows_back shape rows old (rows_fit shape rows old room)

module _ (feed : List ℕ) (b : Lent) where
  -- what is readable is read, where there is room
  pub readable_done : (s : State) → Readable feed s → length (unfolded feed) ≤ length b.text → AtMost (counts_of s) (room_in b) → ReadTo feed b s
  unfolding text_after
  readable_done s r l a =
      let e : read_into feed b ≡ told done 0 (length (unfolded feed)) (counts_of s) = exactly feed (length b.text) (room_in b) (all_read s r l a) in
      record {
        numbers = e;
        text = rw (le-leb _ _ r.short, le-leb _ _ l) (whole (unfolded feed) b.text l);
        components = rw (e, r.reads) (rows_laid component_shape s.components b.components a.components);
        properties = rw (e, r.reads) (rows_laid property_shape s.properties b.properties a.properties);
        parameters = rw (e, r.reads) (rows_laid parameter_shape s.parameters b.parameters a.parameters);
        components_back = rw (e, r.reads) (read_again component_shape s.components b.components a.components);
        properties_back = rw (e, r.reads) (read_again property_shape s.properties b.properties a.properties);
        parameters_back = rw (e, r.reads) (read_again parameter_shape s.parameters b.parameters a.parameters);
      }

  was_readable : {r : Reading} → Answered feed (length b.text) (room_in b) r → r.answer ≡ done
      → (s : State) × Readable feed s × (length (unfolded feed) ≤ length b.text) × AtMost (counts_of s) (room_in b)
  was_readable (when_too_long h) e = absurd (omega arith)
  was_readable (when_no_text_room h l) e = absurd (omega arith)
  was_readable (not_readable h l r place x) e = absurd (omega (arith, refusal_number r))
  was_readable (when_no_room s r l x) e = absurd (omega arith)
  was_readable (all_read s r l a) e = (s, r, l, a)

  -- what is answered Done is readable, with exactly these rows
  pub done_readable : (read_into feed b).answer ≡ done → (s : State) × Readable feed s × ReadTo feed b s
  done_readable e =
      let w = was_readable (cases feed (length b.text) (room_in b)) e in
      (w.0, w.1, readable_done w.0 w.1 w.2 w.3)

  pub done_exactly : ((read_into feed b).answer ≡ done)
      ↔ ((s : State) × Readable feed s × (length (unfolded feed) ≤ length b.text) × AtMost (counts_of s) (room_in b))
  done_exactly = (
    λ e. was_readable (cases feed (length b.text) (room_in b)) e,
    λ w. ap (λ (r : Reading). r.answer) (readable_done w.0 w.1 w.2 w.3).numbers,
  )

-- there are readable feeds: BEGIN:A, K:v and END:A, each with LF
abbrev feed_of_three : List ℕ
feed_of_three = 66 ∷ 69 ∷ 71 ∷ 73 ∷ 78 ∷ 58 ∷ 65 ∷ 10 ∷ 75 ∷ 58 ∷ 118 ∷ 10 ∷ 69 ∷ 78 ∷ 68 ∷ 58 ∷ 65 ∷ 10 ∷ []

pub some_readable : Readable feed_of_three
    (record {
      opens = [];
      components = record { parent = no_parent; depth = 1; name_start = 6; name_len = 1 } ∷ [];
      properties = record { owner = 0; key_start = 8; key_len = 1; value_start = 10; value_len = 1 } ∷ [];
      parameters = [];
    })
unfolding unfolded_after lines_after byte_run starts_word same_bytes line_of front_of params_after params_used read_lines
some_readable = record { short = omega arith; reads = refl; closed = refl; some = omega arith }
