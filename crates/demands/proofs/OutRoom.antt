-- Room for the output of a fold, of quoting, of reading and writing text, and of the writer: where it was not what was missing, more of it changes nothing; 13 is told exactly
-- where it is missing; the length told suffices; and what each answer leaves. One law for all of them. Assumes nothing.
use mathlib.Core.Path.{◌≡◌, refl, ap, sym, ◌∙◌}
use mathlib.Core.Bool.{Bool, true, false}
use mathlib.Core.List.{List, ◌++◌}
use Prim.Native.Nat.{ℕ, ◌≤◌, ◌<◌}
use native.Mathlib.Nat.{le_trans}
use native.Mathlib.Omega.{arith}
use lib.ListN.{length, drop}
use lib.Dec.{eqb, leb}
use borrow.Author.Tests.{le-leb, lt-leb, ne_eqb, leb-true, leb-false, eqb-true, eqb-false}
use Rattle.std.specs.Prelude.{Option, Some, None, Result, Ok, Err}
use Rattle.octets.specs.Choice.{pick}
use Rattle.octets.specs.Bytes.{lf, other, ascii}
use Rattle.octets.specs.Runs.{run, only}
use Rattle.octets.specs.Answers.{longest, done, too_long, has_break, not_ascii, not_utf8, no_out_room, bad_table, bad_escape, output, room_answer, out_after}
use Rattle.octets.specs.declared.Output.{Output}
use Rattle.octets.proofs.Laid.{whole}
use Rattle.characters.specs.Utf8.{utf8_run}
use Rattle.folding.specs.Strict.{strict}
use Rattle.folding.specs.Repository.{repository}
use Rattle.folding.specs.Answers.{line_answer, strict_line, repository_line, fold_answer}
use Rattle.quoting.specs.Quoting.{quoted}
use Rattle.quoting.specs.Answers.{quote_answer}
use Rattle.escapes.specs.Text.{fine, escapes_fine, text_of, as_value}
use Rattle.escapes.specs.Answers.{text_answer, value_answer}
use Rattle.escapes.specs.declared.Mode.{Mode}
use Rattle.tables.specs.TableRule.{by_table_rule}
use Rattle.tables.specs.Lent.{Lent, broken_in}
use Rattle.writable.specs.WritingRule.{number_of, judged_in}
use Rattle.writable.specs.declared.Fault.{Fault}
use Rattle.writable.specs.declared.Unfit.{Unfit}
use Rattle.writing.specs.Answers.{written_in, not_written, by_writing_rule, by_length, write_answer}
use Rattle.demands.specs.Outputs.{FitTables, RoomDecides}
use Rattle.demands.proofs.Fronts.{untouched, same_laid}

-- a refusal that is not for room
record Fixed (o : Output) : Type 0 where
  not_done : o.answer ≡ done → ⊥
  not_room : o.answer ≡ no_out_room → ⊥
  nothing : o.length ≡ 0

fixed : (answer place : ℕ) → (answer ≡ done → ⊥) → (answer ≡ no_out_room → ⊥) → Fixed (output answer place 0)
fixed answer place n m = record { not_done = n; not_room = m; nothing = refl }

-- either it is refused whatever the room, or room decides
data ByRoom (Fine : Type 0) (needed : ℕ) (answer : ℕ → Output) : Type 0 where
  refused : (o : Output) → Fixed o → (Fine → ⊥) → ((room : ℕ) → answer room ≡ o) → ByRoom Fine needed answer
  decided : Fine → ((room : ℕ) → answer room ≡ room_answer needed room) → ByRoom Fine needed answer

module _ (Fine : Type 0) (bytes : List ℕ) (answer : ℕ → Output) where
  -- a refusal leaves the buffer as it was
  unwritten : (old : List ℕ) → ((answer (length old)).answer ≡ done → ⊥) → out_after (answer (length old)) bytes old ≡ old
  unwritten old n = rw (ne_eqb (answer (length old)).answer done n)

  -- ---- a refusal that is not for room

  module _ (o : Output) (always : Fixed o) (not_fine : Fine → ⊥) (is : (room : ℕ) → answer room ≡ o) where
    unchanged : (old : List ℕ) → out_after (answer (length old)) bytes old ≡ old
    unchanged old = unwritten old (λ e. always.not_done (rw (is (length old)) at e))

    no_thirteen : (room : ℕ) → (answer room).answer ≡ no_out_room → ⊥
    no_thirteen room e = always.not_room (rw (is room) at e)

    as_refused : RoomDecides Fine bytes answer
    as_refused = record {
      more = λ old old' h n. (
        is (length old') ∙ sym (is (length old)),
        rw (unchanged old, unchanged old', is (length old), always.nothing) (untouched old old'),
      );
      exactly = λ room. (λ e. absurd (no_thirteen room e), λ w. absurd (not_fine w.0));
      needed = λ room e. absurd (no_thirteen room e);
      suffices = λ room room' e h. absurd (no_thirteen room e);
      otherwise = λ room n m. rw (is room) always.nothing;
      refused = unwritten;
      written = λ old e. absurd (always.not_done (rw (is (length old)) at e));
    }

  -- ---- room decides

  module _ (fine : Fine) (is : (room : ℕ) → answer room ≡ room_answer (length bytes) room) where
    -- what fits is Done, and what does not is 13, both with the length of all bytes
    enough : (room : ℕ) → length bytes ≤ room → answer room ≡ output done 0 (length bytes)
    enough room h = is room ∙ rw (le-leb (length bytes) room h)

    too_little : (room : ℕ) → room < length bytes → answer room ≡ output no_out_room 0 (length bytes)
    too_little room h = is room ∙ rw (lt-leb (length bytes) room h)

    -- so 13 says that something is missing
    missing : (room : ℕ) → (answer room).answer ≡ no_out_room → room < length bytes
    missing room e = go (leb (length bytes) room) refl
      where
        go : (t : Bool) → leb (length bytes) room ≡ t → room < length bytes
        go true h = absurd (omega (arith, rw (enough room (leb-true _ _ h)) at e))
        go false h = leb-false _ _ h

    -- and any other answer that nothing is
    there : (room : ℕ) → ((answer room).answer ≡ no_out_room → ⊥) → length bytes ≤ room
    there room n = go (leb (length bytes) room) refl
      where
        go : (t : Bool) → leb (length bytes) room ≡ t → length bytes ≤ room
        go true h = leb-true _ _ h
        go false h = absurd (n (ap (λ (o : Output). o.answer) (too_little room (leb-false _ _ h))))

    laid_whole : (old : List ℕ) → length bytes ≤ length old → out_after (answer (length old)) bytes old ≡ bytes ++ drop (length bytes) old
    laid_whole old h = rw (enough (length old) h) (whole bytes old h)

    as_decided : RoomDecides Fine bytes answer
    as_decided = record {
      more = λ old old' h n.
          let l = there (length old) n in
          let l' : length bytes ≤ length old' = le_trans l h in
          (enough (length old') l' ∙ sym (enough (length old) l), rw (enough (length old) l, enough (length old') l') (same_laid bytes old old' l l'));
      exactly = λ room. (λ e. (fine, missing room e), λ w. ap (λ (o : Output). o.answer) (too_little room w.1));
      needed = λ room e. ap (λ (o : Output). o.length) (too_little room (missing room e));
      suffices = λ room room' e h.
          let n : (answer room).length ≡ length bytes = ap (λ (o : Output). o.length) (too_little room (missing room e)) in
          rw n (enough room' (rw n at h));
      otherwise = λ room n m. absurd (n (ap (λ (o : Output). o.answer) (enough room (there room m))));
      refused = unwritten;
      written = λ old e. laid_whole old (there (length old) (λ z. omega arith));
    }

  room_decides : ByRoom Fine (length bytes) answer → RoomDecides Fine bytes answer
  room_decides (refused o always n is) = as_refused o always n is
  room_decides (decided fine is) = as_decided fine is

-- ---- both folds

-- a line that is refused, for its length or for its bytes
line_refused : (number sound : ℕ) (line : List ℕ) → (number ≡ no_out_room → ⊥) → ((line_answer number sound line).answer ≡ done → ⊥) → Fixed (line_answer number sound line)
line_refused number sound line other-than n = by (leb (length line) longest) (only (other lf) line) (leb (length line) sound) n
  where
    bytes : Bool → Bool → Output
    bytes t u = pick t (pick u (output done 0 0) (output number sound 0)) (output has_break (run (other lf) line) 0)

    by : (s t u : Bool) → ((pick s (bytes t u) (output too_long 0 0)).answer ≡ done → ⊥) → Fixed (pick s (bytes t u) (output too_long 0 0))
    by true true true n = absurd (n refl)
    by true true false n = fixed number sound n other-than
    by true false u n = fixed has_break (run (other lf) line) n (λ e. omega arith)
    by false t u n = fixed too_long 0 n (λ e. omega arith)

module _ (checked : List ℕ → Output) (fold : List ℕ → List ℕ) (line : List ℕ) (always : ((checked line).answer ≡ done → ⊥) → Fixed (checked line)) where
  fold_room : RoomDecides ((checked line).answer ≡ done) (fold line) (fold_answer checked fold line)
  fold_room = room_decides ((checked line).answer ≡ done) (fold line) (fold_answer checked fold line) (go (eqb (checked line).answer done) refl)
    where
      go : (t : Bool) → eqb (checked line).answer done ≡ t → ByRoom ((checked line).answer ≡ done) (length (fold line)) (fold_answer checked fold line)
      go true h = decided (eqb-true _ _ h) (λ room. rw h)
      go false h = refused (checked line) (always (eqb-false _ _ h)) (eqb-false _ _ h) (λ room. rw h)

pub strict_room : (line : List ℕ) → RoomDecides ((strict_line line).answer ≡ done) (strict line) (fold_answer strict_line strict line)
strict_room line = fold_room strict_line strict line (line_refused not_utf8 (utf8_run line) line (λ e. omega arith))

pub repository_room : (line : List ℕ) → RoomDecides ((repository_line line).answer ≡ done) (repository line) (fold_answer repository_line repository line)
repository_room line = fold_room repository_line repository line (line_refused not_ascii (run ascii line) line (λ e. omega arith))

-- ---- quoting

pub quote_room : (value : List ℕ) → RoomDecides (length value ≤ longest) (quoted value) (quote_answer value)
quote_room value = room_decides (length value ≤ longest) (quoted value) (quote_answer value) (go (leb (length value) longest) refl)
  where
    go : (t : Bool) → leb (length value) longest ≡ t → ByRoom (length value ≤ longest) (length (quoted value)) (quote_answer value)
    go true h = decided (leb-true _ _ h) (λ room. rw h)
    go false h = refused (output too_long 0 0) (fixed too_long 0 (λ e. omega arith) (λ e. omega arith)) (λ n. omega (arith, leb-false (length value) longest h)) (λ room. rw h)

-- ---- reading and writing of text

pub text_room : (mode : Mode) (value : List ℕ) → RoomDecides ((length value ≤ longest) × (escapes_fine mode value ≡ true)) (text_of value) (text_answer mode value)
text_room mode value = room_decides Short (text_of value) (text_answer mode value) (go (leb (length value) longest) refl (escapes_fine mode value) refl)
  where
    Short : Type 0
    Short = (length value ≤ longest) × (escapes_fine mode value ≡ true)

    go : (s : Bool) → leb (length value) longest ≡ s → (t : Bool) → escapes_fine mode value ≡ t → ByRoom Short (length (text_of value)) (text_answer mode value)
    go true h true k = decided (leb-true _ _ h, k) (λ room. rw (h, k))
    go true h false k =
        refused (output bad_escape (fine mode value) 0) (fixed bad_escape (fine mode value) (λ e. omega arith) (λ e. omega arith))
        (λ f. let z : ◌≡◌ {A = ℕ} 0 1 = cc (k, f.1) in omega arith) (λ room. rw (h, k))
    go false h t k =
        refused (output too_long 0 0) (fixed too_long 0 (λ e. omega arith) (λ e. omega arith)) (λ f. omega (arith, f.0, leb-false (length value) longest h)) (λ room. rw h)

pub value_room : (text : List ℕ) → RoomDecides ((length text ≤ longest) × (length (as_value text) ≤ longest)) (as_value text) (value_answer text)
value_room text = room_decides Short (as_value text) (value_answer text) (go (leb (length text) longest) refl (leb (length (as_value text)) longest) refl)
  where
    Short : Type 0
    Short = (length text ≤ longest) × (length (as_value text) ≤ longest)

    none : Fixed (output too_long 0 0)
    none = fixed too_long 0 (λ e. omega arith) (λ e. omega arith)

    go : (s : Bool) → leb (length text) longest ≡ s → (t : Bool) → leb (length (as_value text)) longest ≡ t → ByRoom Short (length (as_value text)) (value_answer text)
    go true h true k = decided (leb-true _ _ h, leb-true _ _ k) (λ room. rw (h, k))
    go true h false k = refused (output too_long 0 0) none (λ f. omega (arith, f.1, leb-false (length (as_value text)) longest k)) (λ room. rw (h, k))
    go false h t k = refused (output too_long 0 0) none (λ f. omega (arith, f.0, leb-false (length text) longest h)) (λ room. rw h)

-- ---- the writer

-- a fault of the writing rule is a refusal, and not for room
pub fault_not_done : (f : Fault) → number_of f ≡ done → ⊥
fault_not_done Fault.Unwritable e = omega arith
fault_not_done Fault.NotUtf8 e = omega arith

fault_not_room : (f : Fault) → number_of f ≡ no_out_room → ⊥
fault_not_room Fault.Unwritable e = omega arith
fault_not_room Fault.NotUtf8 e = omega arith

module _ (b : Lent) where
  answers : {f : Option ℕ} {j : Result (Unit {0}) Unfit} → broken_in b ≡ f → judged_in b ≡ j → (room : ℕ)
      → write_answer b room ≡ by_table_rule not_written f (by_writing_rule j (by_length (length (written_in b)) room))
  unfolding write_answer
  answers x y room = rw (x, y)

  pub write_room : RoomDecides (FitTables b) (written_in b) (write_answer b)
  write_room = room_decides (FitTables b) (written_in b) (write_answer b) (by_table (broken_in b) refl)
    where
      by_length_holds : broken_in b ≡ None → judged_in b ≡ Ok tt → (t : Bool) → leb (length (written_in b)) longest ≡ t
          → ByRoom (FitTables b) (length (written_in b)) (write_answer b)
      by_length_holds x y true h = decided (record { table_rule = x; writing_rule = y; short = leb-true _ _ h }) (λ room. answers x y room ∙ rw h)
      by_length_holds x y false h =
          refused (output too_long 0 0) (fixed too_long 0 (λ e. omega arith) (λ e. omega arith))
          (λ f. omega (arith, f.short, leb-false (length (written_in b)) longest h)) (λ room. answers x y room ∙ rw h)

      by_rule : broken_in b ≡ None → (j : Result (Unit {0}) Unfit) → judged_in b ≡ j → ByRoom (FitTables b) (length (written_in b)) (write_answer b)
      by_rule x (Ok fine) y = by_length_holds x y (leb (length (written_in b)) longest) refl
      by_rule x (Err unfit) y =
          refused (output (number_of unfit.fault) unfit.row 0) (fixed (number_of unfit.fault) unfit.row (fault_not_done unfit.fault) (fault_not_room unfit.fault))
          (λ f. let z : ◌≡◌ {A = ℕ} 0 1 = cc (y, f.writing_rule) in omega arith) (answers x y)

      by_table : (f : Option ℕ) → broken_in b ≡ f → ByRoom (FitTables b) (length (written_in b)) (write_answer b)
      by_table None x = by_rule x (judged_in b) refl
      by_table (Some row) x =
          refused (output bad_table row 0) (fixed bad_table row (λ e. omega arith) (λ e. omega arith))
          (λ f. let z : ◌≡◌ {A = ℕ} 0 1 = cc (x, f.table_rule) in omega arith) (answers x refl)
