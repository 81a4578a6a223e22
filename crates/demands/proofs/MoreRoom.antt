-- More room (document 01, "What each number returns and leaves"): where room was not what was missing, more of it changes nothing; the
-- answers 2 and 10 are given exactly where room is missing; the length and the counts that they name suffice; and what each refusal leaves.
-- Assumes nothing.
use mathlib.Core.Path.{◌≡◌, refl, ap}
use mathlib.Core.Bool.{false}
use mathlib.Core.List.{List}
use mathlib.Core.Logic.{◌↔◌}
use Prim.Native.Nat.{ℕ, ◌*◌, ◌≤◌, ◌<◌}
use native.Mathlib.Nat.{le_refl, le_trans, mul-div_cancel_left}
use native.Mathlib.Omega.{arith}
use lib.ListN.{length}
use lib.Dec.{eqb}
use borrow.Author.Tests.{le-leb, lt-leb, ne_eqb}
use Rattle.octets.specs.Answers.{longest, done, no_text_room, no_room}
use Rattle.octets.proofs.Laid.{whole}
use Rattle.unfolding.specs.Unfold.{unfolded}
use Rattle.tables.specs.Rows.{component_size, property_size, parameter_size}
use Rattle.tables.proofs.Laws.{component_shape, property_shape, parameter_shape}
use Rattle.nesting.specs.Steps.{State, counts_of}
use Rattle.nesting.specs.declared.Counts.{Counts}
use Rattle.nesting.specs.declared.Refusal.{Refusal}
use Rattle.lines.specs.declared.Fault.TheVariants.{ReservedKey, EmptyKey, StrayByte}
use Rattle.reading.specs.Answers.{number_of, told, counts_in, room_for, reading_of, text_after}
use Rattle.reading.specs.declared.Reading.{Reading}
use Rattle.demands.specs.Readable.{Readable}
use Rattle.tables.specs.Lent.{Lent}
use Rattle.reading.specs.Lent.{room_in, read_into, left}
use Rattle.demands.specs.Lent.{Roomier, text_only}
use Rattle.demands.specs.Room.{AtMost, Exceeds, SameLeft, Suffices}
use Rattle.demands.proofs.Cases.{Answered, cases, exactly}
use Rattle.demands.proofs.Cases.Answered.{when_too_long, when_no_text_room, not_readable, when_no_room, all_read}
use Rattle.demands.proofs.Fronts.{untouched, same_laid, same_rows}

-- a refusal of the text is none of 0, 2 and 10
pub refusal_number : (r : Refusal) → (3 ≤ number_of r) × (number_of r ≡ no_room → ⊥)
refusal_number Refusal.BadBegin = (omega arith, λ z. omega arith)
refusal_number Refusal.TooDeep = (omega arith, λ z. omega arith)
refusal_number Refusal.BadEnd = (omega arith, λ z. omega arith)
refusal_number Refusal.Outside = (omega arith, λ z. omega arith)
refusal_number (Refusal.Line ReservedKey) = (omega arith, λ z. omega arith)
refusal_number (Refusal.Line EmptyKey) = (omega arith, λ z. omega arith)
refusal_number (Refusal.Line (StrayByte at)) = (omega arith, λ z. omega arith)
refusal_number Refusal.Unclosed = (omega arith, λ z. omega arith)
refusal_number Refusal.NoComponent = (omega arith, λ z. omega arith)

pub more : {a b c : Counts} → AtMost a b → AtMost b c → AtMost a c
more x y =
    record {
      components = le_trans x.components y.components;
      properties = le_trans x.properties y.properties;
      parameters = le_trans x.parameters y.parameters;
    }

-- ---- more room gives the same

module _ (feed : List ℕ) (t t' : ℕ) (room room' : Counts) (text : t ≤ t') (rows : AtMost room room') where
  kept : {r : Reading} → Answered feed t room r → (r.answer ≡ no_text_room → ⊥) → (r.answer ≡ no_room → ⊥) → Answered feed t' room' r
  kept (when_too_long h) two ten = when_too_long h
  kept (when_no_text_room h l) two ten = absurd (two refl)
  kept (not_readable h l r from e) two ten = not_readable h (le_trans l text) r from e
  kept (when_no_room s r l x) two ten = absurd (ten refl)
  kept (all_read s r l a) two ten = all_read s r (le_trans l text) (more a rows)

  -- the six numbers
  pub same_numbers : ((reading_of feed t room).answer ≡ no_text_room → ⊥) → ((reading_of feed t room).answer ≡ no_room → ⊥)
      → reading_of feed t' room' ≡ reading_of feed t room
  same_numbers two ten = exactly feed t' room' (kept (cases feed t room) two ten)

module _ (feed : List ℕ) (b b' : Lent) (roomier : Roomier b b') where
  leaves : {r : Reading} → Answered feed (length b.text) (room_in b) r → (r.answer ≡ no_text_room → ⊥) → (r.answer ≡ no_room → ⊥)
      → read_into feed b ≡ r → read_into feed b' ≡ r → SameLeft r b (left feed b) b' (left feed b')
  unfolding text_after
  leaves (when_too_long h) two ten e e' =
      rw (lt-leb _ _ h, e, e')
      (record {
        text = untouched b.text b'.text;
        components = untouched b.components b'.components;
        properties = untouched b.properties b'.properties;
        parameters = untouched b.parameters b'.parameters;
      })
  leaves (when_no_text_room h l) two ten e e' = absurd (two refl)
  leaves (not_readable h l r from x) two ten e e' =
      let l' : length (unfolded feed) ≤ length b'.text = le_trans l roomier.text in
      let n : eqb (number_of r) done ≡ false = ne_eqb (number_of r) done (λ z. omega (arith, refusal_number r)) in
      rw (le-leb _ _ h, le-leb _ _ l, le-leb _ _ l', e, e', n)
      (record {
        text = same_laid (unfolded feed) b.text b'.text l l';
        components = untouched b.components b'.components;
        properties = untouched b.properties b'.properties;
        parameters = untouched b.parameters b'.parameters;
      })
  leaves (when_no_room s r l x) two ten e e' = absurd (ten refl)
  leaves (all_read s r l a) two ten e e' =
      let l' : length (unfolded feed) ≤ length b'.text = le_trans l roomier.text in
      let a' = more a roomier.rows in
      rw (le-leb _ _ r.short, le-leb _ _ l, le-leb _ _ l', e, e', r.reads)
      (record {
        text = same_laid (unfolded feed) b.text b'.text l l';
        components = same_rows component_shape s.components b.components b'.components a.components a'.components;
        properties = same_rows property_shape s.properties b.properties b'.properties a.properties a'.properties;
        parameters = same_rows parameter_shape s.parameters b.parameters b'.parameters a.parameters a'.parameters;
      })

  -- the six numbers, and the bytes and rows written
  pub same_reading : ((read_into feed b).answer ≡ no_text_room → ⊥) → ((read_into feed b).answer ≡ no_room → ⊥)
      → (read_into feed b' ≡ read_into feed b) × SameLeft (read_into feed b) b (left feed b) b' (left feed b')
  same_reading two ten =
      let e = same_numbers feed (length b.text) (length b'.text) (room_in b) (room_in b') roomier.text roomier.rows two ten in
      (e, leaves (cases feed (length b.text) (room_in b)) two ten refl e)

-- ---- 2 and 10 are given exactly where room is missing

module _ (feed : List ℕ) (t : ℕ) (room : Counts) where
  missing_text : {r : Reading} → Answered feed t room r → r.answer ≡ no_text_room
      → (length feed ≤ longest) × (t < length (unfolded feed)) × (r.length ≡ length (unfolded feed))
  missing_text (when_too_long h) e = absurd (omega arith)
  missing_text (when_no_text_room h l) e = (h, l, refl)
  missing_text (not_readable h l r from x) e = absurd (omega (arith, refusal_number r))
  missing_text (when_no_room s r l x) e = absurd (omega arith)
  missing_text (all_read s r l a) e = absurd (omega arith)

  pub two_exactly : ((reading_of feed t room).answer ≡ no_text_room) ↔ ((length feed ≤ longest) × (t < length (unfolded feed)))
  two_exactly = (
    λ e. let w = missing_text (cases feed t room) e in (w.0, w.1),
    λ w. ap (λ (r : Reading). r.answer) (exactly feed t room (when_no_text_room w.0 w.1)),
  )

  missing_rows : {r : Reading} → Answered feed t room r → r.answer ≡ no_room
      → (s : State) × Readable feed s × (length (unfolded feed) ≤ t) × Exceeds (counts_of s) room × (counts_in r ≡ counts_of s)
  missing_rows (when_too_long h) e = absurd (omega arith)
  missing_rows (when_no_text_room h l) e = absurd (omega arith)
  missing_rows (not_readable h l r from x) e = absurd (omega (arith, refusal_number r))
  missing_rows (when_no_room s r l x) e = (s, r, l, x, refl)
  missing_rows (all_read s r l a) e = absurd (omega arith)

  pub ten_exactly : ((reading_of feed t room).answer ≡ no_room)
      ↔ ((length (unfolded feed) ≤ t) × ((s : State) × Readable feed s × Exceeds (counts_of s) room))
  ten_exactly = (
    λ e. let w = missing_rows (cases feed t room) e in (w.2, (w.0, w.1, w.3)),
    λ w. ap (λ (r : Reading). r.answer) (exactly feed t room (when_no_room w.1.0 w.1.1 w.0 w.1.2)),
  )

-- ---- what they name is the definition's, and suffices

module _ (feed : List ℕ) (t : ℕ) (room : Counts) where
  pub length_named : (reading_of feed t room).answer ≡ no_text_room → (reading_of feed t room).length ≡ length (unfolded feed)
  length_named e = (missing_text feed t room (cases feed t room) e).2

  pub counts_named : (reading_of feed t room).answer ≡ no_room → (s : State) × Readable feed s × (counts_in (reading_of feed t room) ≡ counts_of s)
  counts_named e = let w = missing_rows feed t room (cases feed t room) e in (w.0, w.1, w.4)

  module _ (t' : ℕ) (room' : Counts) where
    -- with the length that 2 names as text, 2 is not answered again
    pub length_suffices : (reading_of feed t room).answer ≡ no_text_room → (reading_of feed t room).length ≤ t' → (reading_of feed t' room').answer ≡ no_text_room → ⊥
    length_suffices e h e' = omega (arith, length_named e, ((two_exactly feed t' room').0 e').1)

    named : {r : Reading} → Answered feed t room r → r.answer ≡ no_room → r.length ≤ t' → AtMost (counts_in r) room'
        → reading_of feed t' room' ≡ told done 0 r.length (counts_in r)
    named (when_too_long h) e l' a = absurd (omega arith)
    named (when_no_text_room h l) e l' a = absurd (omega arith)
    named (not_readable h l r from x) e l' a = absurd (omega (arith, refusal_number r))
    named (when_no_room s r l x) e l' a = exactly feed t' room' (all_read s r l' a)
    named (all_read s r l a) e l' a' = absurd (omega arith)

    -- with the length that 10 names as text and the counts that it names as rows, the answer is Done with just these
    pub counts_suffice : (reading_of feed t room).answer ≡ no_room → (reading_of feed t room).length ≤ t' → AtMost (counts_in (reading_of feed t room)) room'
        → reading_of feed t' room' ≡ told done 0 (reading_of feed t room).length (counts_in (reading_of feed t room))
    counts_suffice = named (cases feed t room)

-- on 10 the text fits
fitted : (feed : List ℕ) (t : ℕ) (room : Counts) {r : Reading} → Answered feed t room r → r.answer ≡ no_room → r.length ≤ t
fitted feed t room (when_too_long h) e = absurd (omega arith)
fitted feed t room (when_no_text_room h l) e = absurd (omega arith)
fitted feed t room (not_readable h l r from x) e = absurd (omega (arith, refusal_number r))
fitted feed t room (when_no_room s r l x) e = l
fitted feed t room (all_read s r l a) e = absurd (omega arith)

-- the refusals for room name what is enough
pub refusals_suffice : (feed : List ℕ) (b : Lent) → Suffices feed b
refusals_suffice feed b = record {
  two = λ e b' h e'. length_suffices feed (length b.text) (room_in b) (length b'.text) (room_in b') e h e';
  ten = λ e b' h a.
      counts_suffice feed (length b.text) (room_in b) (length b'.text) (room_in b') e
      (le_trans (fitted feed (length b.text) (room_in b) (cases feed (length b.text) (room_in b)) e) h) a;
}

-- tables of exactly so many rows have that room
pub exact_room : (c : Counts) → room_for (component_size * c.components) (property_size * c.properties) (parameter_size * c.parameters) ≡ c
exact_room c =
    rw (
      mul-div_cancel_left c.components component_shape.some,
      mul-div_cancel_left c.properties property_shape.some,
      mul-div_cancel_left c.parameters parameter_shape.some,
    )

-- exactly the rows that 10 names, with a text that is long enough: the same one, or one of just the length told
pub exact_suffices : (feed : List ℕ) (b b' : Lent) → (read_into feed b).answer ≡ no_room
    → (read_into feed b).length ≤ length b'.text → length b'.components ≡ component_size * (read_into feed b).components
    → length b'.properties ≡ property_size * (read_into feed b).properties → length b'.parameters ≡ parameter_size * (read_into feed b).parameters
    → read_into feed b' ≡ told done 0 (read_into feed b).length (counts_in (read_into feed b))
exact_suffices feed b b' e t c p q =
    let room : room_in b' ≡ counts_in (read_into feed b) = rw (c, p, q) (exact_room (counts_in (read_into feed b))) in
    counts_suffice feed (length b.text) (room_in b) (length b'.text) (room_in b') e t
    (rw room (record { components = le_refl _; properties = le_refl _; parameters = le_refl _ }))

-- ---- what a refusal leaves

module _ (feed : List ℕ) (b : Lent) where
  nothing_laid : {r : Reading} → Answered feed (length b.text) (room_in b) r → 0 < r.answer → r.answer ≤ no_text_room → read_into feed b ≡ r → left feed b ≡ b
  unfolding text_after
  nothing_laid (when_too_long h) some few e = rw (lt-leb _ _ h, e)
  nothing_laid (when_no_text_room h l) some few e = rw (le-leb _ _ h, lt-leb _ _ l, e)
  nothing_laid (not_readable h l r from x) some few e = absurd (omega (arith, refusal_number r))
  nothing_laid (when_no_room s r l x) some few e = absurd (omega arith)
  nothing_laid (all_read s r l a) some few e = absurd (omega arith)

  text_laid : {r : Reading} → Answered feed (length b.text) (room_in b) r → no_text_room < r.answer → read_into feed b ≡ r → left feed b ≡ text_only feed b
  unfolding text_after
  text_laid (when_too_long h) many e = absurd (omega arith)
  text_laid (when_no_text_room h l) many e = absurd (omega arith)
  text_laid (not_readable h l r from x) many e =
      let n : eqb (number_of r) done ≡ false = ne_eqb (number_of r) done (λ z. omega (arith, refusal_number r)) in
      rw (le-leb _ _ h, le-leb _ _ l, e, n, whole (unfolded feed) b.text l)
  text_laid (when_no_room s r l x) many e = rw (le-leb _ _ r.short, le-leb _ _ l, e, whole (unfolded feed) b.text l)
  text_laid (all_read s r l a) many e = absurd (omega arith)

  -- "Refusals 1 and 2 change nothing lent"
  pub one_two_leave : 0 < (read_into feed b).answer → (read_into feed b).answer ≤ no_text_room → left feed b ≡ b
  one_two_leave some few = nothing_laid (cases feed (length b.text) (room_in b)) some few refl

  -- "3 to 10 leave the unfolded text at the front of the text buffer, the bytes behind it as they were, and no table word changed"; so do 17 and 18
  pub later_leave : no_text_room < (read_into feed b).answer → left feed b ≡ text_only feed b
  later_leave many = text_laid (cases feed (length b.text) (room_in b)) many refl

  pub two_leaves : (read_into feed b).answer ≡ no_text_room → left feed b ≡ b
  two_leaves e = one_two_leave (omega arith) (omega arith)

  pub ten_leaves : (read_into feed b).answer ≡ no_room → left feed b ≡ text_only feed b
  ten_leaves e = later_leave (omega arith)
