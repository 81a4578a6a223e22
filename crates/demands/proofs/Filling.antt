-- Filling and room (document 02, request 6: "Demand 3's claims on rows hold for the filling call"): more rows change nothing, 10 is told exactly where a
-- count exceeds its rows, the counts that it names suffice, and so do those that measuring names.
-- Assumes nothing.
use mathlib.Core.Path.{◌≡◌, refl, sym, ap, ◌∙◌}
use mathlib.Core.Bool.{Bool, true, false}
use mathlib.Core.List.{List, []}
use mathlib.Core.Logic.{◌↔◌}
use Prim.Native.Nat.{ℕ, ◌*◌, ◌/◌, ◌≤◌, zero-le}
use native.Mathlib.Nat.{le_refl}
use native.Mathlib.Omega.{arith}
use lib.ListN.{length}
use lib.Dec.{leb}
use borrow.Author.Tests.{le-leb, leb-true}
use Rattle.std.specs.Prelude.{Result, Ok, Err}
use Rattle.octets.specs.Choice.{pick}
use Rattle.octets.specs.Laid.{laid}
use Rattle.octets.specs.Answers.{longest, done, too_long, no_text_room, no_room}
use Rattle.unfolding.specs.Unfold.{unfolded}
use Rattle.unfolding.proofs.Laws.{length_unfolded}
use Rattle.tables.specs.Rows.{flat, component_size, property_size, parameter_size}
use Rattle.tables.specs.Lent.{Lent, lent}
use Rattle.tables.proofs.Laws.{Shape, component_shape, property_shape, parameter_shape}
use Rattle.nesting.specs.Steps.{outcome_of}
use Rattle.nesting.specs.declared.Counts.{Counts}
use Rattle.nesting.specs.declared.Refused.{Refused}
use Rattle.reading.specs.Answers.{number_of, place_of, told, counts_in, refusal, fits, answered, measure_text, measuring_of, filling_of}
use Rattle.reading.specs.Lent.{room_in, fill_from, left_filled}
use Rattle.reading.specs.declared.Reading.{Reading}
use Rattle.reading.proofs.Laws.{read_to_end, was_counted, counted_text}
use Rattle.reading.proofs.Unfolds.{text_answers, lent_text}
use Rattle.reading.proofs.Pair.{unfilled, measured}
use Rattle.demands.specs.Room.{AtMost, Exceeds, SameFront, SameLeft}
use Rattle.demands.specs.Filling.{Needs, MoreRows, MeasuredIn}
use Rattle.demands.proofs.Cases.{enough, too_few, fitting, exceeding}
use Rattle.demands.proofs.Fronts.{untouched, same_rows}
use Rattle.demands.proofs.MoreRoom.{refusal_number, more, exact_room}

-- a text is refused whatever rows are lent, and not for room; or it needs so many
data Case (text : List ℕ) : Type 0 where
  refuses : (number place size : ℕ) → (number ≡ done → ⊥) → (number ≡ no_text_room → ⊥) → (number ≡ no_room → ⊥) → size ≤ length text
      → ((room : Counts) → filling_of text room ≡ refusal number place size) → Case text
  needs : (counts : Counts) → Needs text counts → Case text

case_of : (text : List ℕ) → Case text
unfolding filling_of
case_of text = go (leb (length text) longest) refl (outcome_of text) refl
  where
    go : (t : Bool) → leb (length text) longest ≡ t → (o : Result Counts Refused) → outcome_of text ≡ o → Case text
    go false e o f = refuses too_long 0 0 (λ z. omega arith) (λ z. omega arith) (λ z. omega arith) zero-le (λ room. rw e)
    go true e (Err x) f =
        let n = refusal_number x.refusal in
        refuses (number_of x.refusal) (place_of x.refusal x.from) (length text) (λ z. omega (arith, n)) (λ z. omega (arith, n)) n.1 (le_refl (length text)) (λ room. rw (e, f))
    go true e (Ok counts) f = needs counts (record { short = leb-true _ _ e; reads = f })

module _ {text : List ℕ} {counts : Counts} (w : Needs text counts) (room : Counts) where
  answers : (t : Bool) → fits counts room ≡ t → filling_of text room ≡ told (pick t done no_room) 0 (length text) counts
  unfolding filling_of
  answers t e = rw (le-leb _ _ w.short, w.reads, e)

  all_put : AtMost counts room → filling_of text room ≡ told done 0 (length text) counts
  all_put a = answers true (enough counts room a)

  none_put : Exceeds counts room → filling_of text room ≡ told no_room 0 (length text) counts
  none_put x = answers false (too_few counts room x)

  -- where 10 is not told there is room
  had_room : ((filling_of text room).answer ≡ no_room → ⊥) → AtMost counts room
  had_room f = go (fits counts room) refl
    where
      go : (t : Bool) → fits counts room ≡ t → AtMost counts room
      go true e = fitting counts room e
      go false e = absurd (f (ap (λ (r : Reading). r.answer) (answers false e)))

  -- and where it is, there is not
  lacked_room : (filling_of text room).answer ≡ no_room → Exceeds counts room
  lacked_room f = go (fits counts room) refl
    where
      go : (t : Bool) → fits counts room ≡ t → Exceeds counts room
      go true e = absurd (let z = ap (λ (r : Reading). r.answer) (answers true e) in omega arith)
      go false e = exceeding counts room e

module _ (text : List ℕ) (room : Counts) where
  -- 2 is for the text of a feed: filling never tells it
  pub never_two : (filling_of text room).answer ≡ no_text_room → ⊥
  never_two e = go (case_of text)
    where
      go : Case text → ⊥
      go (refuses number place size f g h l is) = g (sym (ap (λ (r : Reading). r.answer) (is room)) ∙ e)
      go (needs counts w) = by (fits counts room) refl
        where
          by : (t : Bool) → fits counts room ≡ t → ⊥
          by true f = let z = ap (λ (r : Reading). r.answer) (answers w room true f) in omega arith
          by false f = let z = ap (λ (r : Reading). r.answer) (answers w room false f) in omega arith

  needed : (filling_of text room).answer ≡ no_room → (counts : Counts) × Needs text counts × Exceeds counts room
  needed e = go (case_of text)
    where
      go : Case text → (counts : Counts) × Needs text counts × Exceeds counts room
      go (refuses number place size f g h l is) = absurd (h (sym (ap (λ (r : Reading). r.answer) (is room)) ∙ e))
      go (needs counts w) = (counts, w, lacked_room w room e)

  -- 10 exactly where a count exceeds its rows
  pub fill_ten : ((filling_of text room).answer ≡ no_room) ↔ ((counts : Counts) × Needs text counts × Exceeds counts room)
  fill_ten = (needed, λ w. ap (λ (r : Reading). r.answer) (none_put w.1 room w.2))

  -- more rows change no number
  pub same_filling : (room' : Counts) → AtMost room room' → ((filling_of text room).answer ≡ no_room → ⊥) → filling_of text room' ≡ filling_of text room
  same_filling room' a f = go (case_of text)
    where
      go : Case text → filling_of text room' ≡ filling_of text room
      go (refuses number place size _ _ _ l is) = is room' ∙ sym (is room)
      go (needs counts w) = let h = had_room w room f in all_put w room' (more h a) ∙ sym (all_put w room h)

  -- the counts that 10 names suffice
  pub fill_suffices : (filling_of text room).answer ≡ no_room → (room' : Counts) → AtMost (counts_in (filling_of text room)) room'
      → filling_of text room' ≡ told done 0 (filling_of text room).length (counts_in (filling_of text room))
  fill_suffices e room' =
      let w = needed e in
      rw (none_put w.1 room w.2) (all_put w.1 room')

-- rows that were counted are laid over the front of two tables
module _ {A : Type 0} {size : ℕ} {words : A → List ℕ} {from : List ℕ → ℕ → A} (shape : Shape size words from) (rows : List A) {k : ℕ} (n : k ≡ length rows) where
  same_counted : (old old' : List ℕ) → k ≤ length old / size → k ≤ length old' / size
      → SameFront (size * k) old (laid (flat words rows) old) old' (laid (flat words rows) old')
  same_counted old old' h h' = rw n (same_rows shape rows old old' (rw n at h) (rw n at h'))

-- and no byte and no word behind the rows
module _ (b b' : Lent) (roomier : MoreRows b b') (f : (fill_from b).answer ≡ no_room → ⊥) where
  same_text : {n : ℕ} → n ≤ length b.text → SameFront n b.text b.text b'.text b'.text
  same_text h =
      rw roomier.text (record { inside = h; inside' = h; front = refl; rest = refl; rest' = refl })

  same_left : Case b.text → SameLeft (fill_from b) b (left_filled b) b' (left_filled b')
  same_left (refuses number place size f _ _ l is) =
      let e = is (room_in b) in
      let e' : fill_from b' ≡ refusal number place size = rw roomier.text (is (room_in b')) in
      let g = unfilled b (sym e) f in
      let g' = unfilled b' (sym e') f in
      rw (← g, ← g', e)
      (record {
        text = same_text l;
        components = untouched b.components b'.components;
        properties = untouched b.properties b'.properties;
        parameters = untouched b.parameters b'.parameters;
      })
  same_left (needs counts w) =
      let a = had_room w (room_in b) f in
      let a' = more a roomier.rows in
      let r = read_to_end b.text counts w.reads in
      let s = r.state in
      let e = all_put w (room_in b) a in
      let e' : fill_from b' ≡ told done 0 (length b.text) counts = rw roomier.text (all_put w (room_in b') a') in
      let n = r.counts in
      rw (e, e', roomier.text, r.run)
      (record {
        text = record { inside = le_refl _; inside' = le_refl _; front = refl; rest = refl; rest' = refl };
        components = same_counted component_shape s.components (ap (λ (c : Counts). c.components) n) b.components b'.components a.components a'.components;
        properties = same_counted property_shape s.properties (ap (λ (c : Counts). c.properties) n) b.properties b'.properties a.properties a'.properties;
        parameters = same_counted parameter_shape s.parameters (ap (λ (c : Counts). c.parameters) n) b.parameters b'.parameters a.parameters a'.parameters;
      })

  pub more_rows : (fill_from b' ≡ fill_from b) × SameLeft (fill_from b) b (left_filled b) b' (left_filled b')
  more_rows = (rw roomier.text (same_filling b.text (room_in b) (room_in b') roomier.rows f), same_left (case_of b.text))

-- ---- measuring first

module _ (feed text : List ℕ) where
  -- 10 is for tables: measuring never tells it
  pub never_ten : (measuring_of feed (length text)).answer ≡ no_room → ⊥
  unfolding measuring_of
  never_ten e = go (leb (length feed) longest) (leb (length (unfolded feed)) (length text)) (outcome_of (unfolded feed)) e
    where
      go : (t u : Bool) (o : Result Counts Refused)
          → (pick t (pick u (answered o (length (unfolded feed)) (λ counts. done)) (refusal no_text_room 0 (length (unfolded feed)))) (refusal too_long 0 0)).answer ≡ no_room → ⊥
      go true true (Err x) e = (refusal_number x.refusal).1 e
      go true true (Ok counts) e = omega arith
      go true false o e = omega arith
      go false u o e = omega arith

  -- the counts that measuring names suffice for filling from the text that it left, which then tells the same six numbers
  pub measured_suffices : (measuring_of feed (length text)).answer ≡ done → (b : Lent) → MeasuredIn feed text b
      → AtMost (counts_in (measuring_of feed (length text))) (room_in b) → fill_from b ≡ measuring_of feed (length text)
  unfolding measuring_of
  measured_suffices e b is a =
      let w = measured feed (lent text [] [] []) refl e in
      let u : b.text ≡ unfolded feed = is ∙ lent_text feed text w refl refl in
      let m : measure_text (unfolded feed) ≡ measuring_of feed (length text) = text_answers feed (length text) (measure_text (unfolded feed)) w in
      let o = was_counted (unfolded feed) (rw m e) in
      let n : Needs (unfolded feed) (counts_in (measure_text (unfolded feed))) = record { short = omega (arith, w.short, length_unfolded feed); reads = o } in
      rw u (all_put n (room_in b) (rw (← m) at a)) ∙ counted_text (unfolded feed) _ o ∙ m

  -- just so many rows do
  pub measured_exactly : (measuring_of feed (length text)).answer ≡ done → (b : Lent) → MeasuredIn feed text b
      → length b.components ≡ component_size * (measuring_of feed (length text)).components
      → length b.properties ≡ property_size * (measuring_of feed (length text)).properties
      → length b.parameters ≡ parameter_size * (measuring_of feed (length text)).parameters → fill_from b ≡ measuring_of feed (length text)
  measured_exactly e b is c p q =
      let m = measuring_of feed (length text) in
      let room : room_in b ≡ counts_in m = rw (c, p, q) (exact_room (counts_in m)) in
      measured_suffices e b is (rw room (record { components = le_refl _; properties = le_refl _; parameters = le_refl _ }))
