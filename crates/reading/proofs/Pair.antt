-- Laws of filling, of the one call, and of the two in turn: what is left in the buffers. Assumes nothing.
use mathlib.Core.Path.{◌≡◌, refl, sym, ap, ◌∙◌}
use mathlib.Core.Bool.{Bool, true, false}
use mathlib.Core.List.{List}
use Prim.Native.Nat.{ℕ, ◌*◌, ◌/◌, ◌≤◌, ◌<◌}
use native.Mathlib.Nat.{le-div_iff_mul-le, mul_comm}
use native.Mathlib.Omega.{arith}
use lib.ListN.{length, take}
use lib.Dec.{eqb, leb}
use borrow.Author.Tests.{le-leb, lt-leb, leb-true, ne_eqb, eqb-true, eqb-false}
use Rattle.octets.specs.Choice.{pick}
use Rattle.octets.specs.Laid.{laid}
use Rattle.octets.proofs.Bools.{both}
use Rattle.octets.specs.Answers.{longest, done, no_text_room, too_long}
use Rattle.octets.specs.declared.Output.{Output}
use Rattle.unfolding.specs.Unfold.{unfolded}
use Rattle.unfolding.proofs.Laws.{length_unfolded}
use Rattle.tables.specs.Rows.{flat}
use Rattle.tables.proofs.Laws.{Shape, component_shape, property_shape, parameter_shape}
use Rattle.nesting.specs.Steps.{State, finished, run_of, outcome_of}
use Rattle.nesting.specs.declared.Refused.{Refused}
use Rattle.std.specs.Prelude.{Result}
use Rattle.nesting.specs.Held.{put_rows, Tabled}
use Rattle.nesting.specs.declared.Counts.{Counts}
use Rattle.nesting.proofs.Tables.{all_put}
use Rattle.tables.specs.Lent.{Lent, lent}
use Rattle.reading.specs.declared.Reading.{Reading}
use Rattle.reading.specs.Answers.{answered, room_for as rows_for, refusal, measure_text, read_text, unfold_answer, reading_of, measuring_of, filling_of, text_after, rows_in}
use Rattle.reading.specs.Lent.{room_in, with_rows, read_into, left, fill_from, left_filled}
use Rattle.reading.specs.InTurn.{measure_into, left_measured, lent_on, read_in_turn, left_in_turn}
use Rattle.reading.proofs.Laws.{read_to_end, measured_length, refused_with, was_done}
use Rattle.reading.proofs.Unfolds.{Unfolds, not_unfolded, text_answers, lent_text}

-- ---- a table with room for its rows

room_for : (size n len : ℕ) → 0 < size → n ≤ len / size → size * n ≤ len
room_for size n len pos h = omega (arith, (le-div_iff_mul-le pos).0 h, mul_comm size n)

module _ {A : Type 0} {size : ℕ} {words : A → List ℕ} {from : List ℕ → ℕ → A} (shape : Shape size words from) where
  filled : (rows : List A) (n : ℕ) (old new : List ℕ) → n ≡ length rows → leb n (length old / size) ≡ true → new ≡ put_rows size words 0 rows old
      → new ≡ laid (flat words rows) old
  filled rows n old new e t held =
      held ∙ all_put size words shape rows old (room_for size (length rows) (length old) shape.some (rw e at (leb-true n (length old / size) t)))

-- ---- filling

module _ (b : Lent) where
  -- a refusal leaves the three tables as they were
  pub unfilled : {r : Reading} → r ≡ fill_from b → (r.answer ≡ done → ⊥) → b ≡ left_filled b
  unfilled {r} e f = let n : eqb (fill_from b).answer done ≡ false = rw (← e) (ne_eqb r.answer done f) in rw n

  pub text_too_long : longest < length b.text → refusal too_long 0 0 ≡ fill_from b
  unfolding filling_of
  text_too_long h = rw (lt-leb (length b.text) longest h)

  module _ (short : length b.text ≤ longest) where
    pub fill_reads : read_text b.text (room_in b) ≡ fill_from b
    unfolding filling_of
    fill_reads = rw (le-leb (length b.text) longest short)

    -- what is told of a pass, and of the room in tables that kept their lengths
    pub told_with : {o : Result Counts Refused} {m told : Reading} (c p q : List ℕ) → o ≡ outcome_of b.text → m ≡ answered o (length b.text) (λ counts. done)
        → length c ≡ length b.components → length p ≡ length b.properties → length q ≡ length b.parameters
        → ((text : List ℕ) → m ≡ measure_text text → told ≡ read_text text (rows_for (length c) (length p) (length q))) → told ≡ fill_from b
    told_with c p q is said kc kp kq asks = rw (kc, kp, kq) at (asks b.text (rw is at said)) ∙ fill_reads

    -- where it is Done, what the pass has put are the rows
    pub fills : {r : Reading} → r ≡ fill_from b → r.answer ≡ done → (c p q : List ℕ)
        → ((s : State) → run_of b.text ≡ finished s → Tabled s b.components b.properties b.parameters c p q) → lent b.text c p q ≡ left_filled b
    fills e f c p q tabled =
        let x = was_done b.text (room_in b) (rw (e ∙ sym fill_reads) at f) in
        let m = x.0 in
        let w = read_to_end b.text m x.1 in
        let s = w.state in
        let t = tabled s w.run in
        let n = w.counts in
        let fc = (both (leb m.components (room_in b).components) _ x.2).0 in
        let fpq = (both (leb m.components (room_in b).components) _ x.2).1 in
        let fp = (both (leb m.properties (room_in b).properties) _ fpq).0 in
        let fq = (both (leb m.properties (room_in b).properties) _ fpq).1 in
        let d : (fill_from b).answer ≡ done = rw e at f in
        rw (
          d,
          w.run,
          filled component_shape s.components m.components b.components c (ap (λ (k : Counts). k.components) n) fc t.components,
          filled property_shape s.properties m.properties b.properties p (ap (λ (k : Counts). k.properties) n) fp t.properties,
          filled parameter_shape s.parameters m.parameters b.parameters q (ap (λ (k : Counts). k.parameters) n) fq t.parameters,
        )

-- ---- all four buffers

module _ (feed : List ℕ) (b : Lent) where
  -- where the reading is no Done, only the text can have changed
  unread : {r : Reading} {t : List ℕ} → r ≡ read_into feed b → (r.answer ≡ done → ⊥) → t ≡ text_after feed b.text
      → lent t b.components b.properties b.parameters ≡ left feed b
  unread {r} e f g = let n : eqb (read_into feed b).answer done ≡ false = rw (← e) (ne_eqb r.answer done f) in rw (n, g)

  -- what unfolding refuses
  pub unread_unfolded : {u : Output} {r : Reading} {t : List ℕ} → u ≡ unfold_answer feed (length b.text) → (u.answer ≡ done → ⊥)
      → r ≡ refusal u.answer u.place u.length → t ≡ text_after feed b.text
      → (r ≡ read_into feed b) × (lent t b.components b.properties b.parameters ≡ left feed b)
  unfolding reading_of
  unread_unfolded e f g h =
      let same = g ∙ not_unfolded feed (length b.text) (read_text (unfolded feed) (room_in b)) e f in
      (same, unread same (rw g f) h)

  -- filling from the unfolded text is reading
  module _ {n : ℕ} (w : Unfolds feed (length b.text) n) where
    abbrev text : Lent
    text = lent (unfolded feed) b.components b.properties b.parameters

    short_text : length (unfolded feed) ≤ longest
    short_text = omega (arith, w.short, length_unfolded feed)

    fill_is_read : fill_from text ≡ read_into feed b
    unfolding reading_of
    fill_is_read = sym (fill_reads text short_text) ∙ text_answers feed (length b.text) (read_text (unfolded feed) (room_in b)) w

    pub read_by_filling : {r : Reading} {part t c p q : List ℕ} → part ≡ unfolded feed → t ≡ text_after feed b.text
        → r ≡ fill_from (lent part b.components b.properties b.parameters)
        → lent part c p q ≡ left_filled (lent part b.components b.properties b.parameters)
        → (r ≡ read_into feed b) × (lent t c p q ≡ left feed b)
    read_by_filling {t = t} {c} {p} {q} e f g h =
        let l : lent (unfolded feed) c p q ≡ left_filled text = rw e at h in
        let is : lent t c p q ≡ with_rows (rows_in (unfolded feed)) (fill_from text) (text_after feed b.text) b =
        rw (f, ap (λ (x : Lent). x.components) l, ap (λ (x : Lent). x.properties) l, ap (λ (x : Lent). x.parameters) l) in
        (rw e at g ∙ fill_is_read, is ∙ rw fill_is_read)

-- ---- the two calls in turn

module _ (feed : List ℕ) (b : Lent) where
  -- where measuring refuses, the one call does, with the same numbers, text and tables
  pub refused_first : {m : Reading} {t : List ℕ} → m ≡ measure_into feed b → (m.answer ≡ done → ⊥) → t ≡ text_after feed b.text
      → (m ≡ read_into feed b) × (lent t b.components b.properties b.parameters ≡ left feed b)
  unfolding measuring_of reading_of
  refused_first {m} e f g = let same : m ≡ read_into feed b = e ∙ go (leb (length feed) longest) (leb (length (unfolded feed)) (length b.text)) (rw e at f) in (same, unread feed b same f g)
    where
      by : Bool → Bool → Reading → Reading
      by t u x = pick t (pick u x (refusal no_text_room 0 (length (unfolded feed)))) (refusal too_long 0 0)

      go : (t u : Bool) → ((by t u (measure_text (unfolded feed))).answer ≡ done → ⊥) → by t u (measure_text (unfolded feed)) ≡ by t u (read_text (unfolded feed) (room_in b))
      go true true f = refused_with (unfolded feed) (room_in b) f
      go true false f = refl
      go false u f = refl

  -- where it is Done, it told the unfolded length
  pub measured : {m : Reading} → m ≡ measure_into feed b → m.answer ≡ done → Unfolds feed (length b.text) m.length
  unfolding measuring_of
  measured {m} e f = rw e (go (leb (length feed) longest) refl (leb (length (unfolded feed)) (length b.text)) refl (rw e at f))
    where
      go : (t : Bool) → leb (length feed) longest ≡ t → (u : Bool) → leb (length (unfolded feed)) (length b.text) ≡ u →
          let r = pick t (pick u (measure_text (unfolded feed)) (refusal no_text_room 0 (length (unfolded feed)))) (refusal too_long 0 0) in
          r.answer ≡ done → Unfolds feed (length b.text) r.length
      go true g true h f = record { short = leb-true _ _ g; fits = leb-true _ _ h; size = measured_length (unfolded feed) }
      go true g false h f = absurd (omega arith)
      go false g u h f = absurd (omega arith)

  -- and filling from that much of the text does what the one call does
  pub filled_next : {m r : Reading} {k : ℕ} {t c p q : List ℕ} → m ≡ measure_into feed b → m.answer ≡ done → t ≡ text_after feed b.text → k ≡ m.length
      → r ≡ fill_from (lent (take k t) b.components b.properties b.parameters)
      → lent (take k t) c p q ≡ left_filled (lent (take k t) b.components b.properties b.parameters)
      → (r ≡ read_into feed b) × (lent t c p q ≡ left feed b)
  filled_next e f g is h l = let w = measured e f in read_by_filling feed b w (lent_text feed b.text w is g) g h l

  -- the one call is the two in turn
  pub in_turn : (read_in_turn feed b ≡ read_into feed b) × (left_in_turn feed b ≡ left feed b)
  in_turn = go (eqb (measure_into feed b).answer done) refl
    where
      tables : Lent
      tables = left_filled (lent_on (measure_into feed b) (left_measured feed b))

      go : (t : Bool) → eqb (measure_into feed b).answer done ≡ t
          → (pick t (fill_from (lent_on (measure_into feed b) (left_measured feed b))) (measure_into feed b) ≡ read_into feed b)
          × (pick t (lent (text_after feed b.text) tables.components tables.properties tables.parameters) (left_measured feed b) ≡ left feed b)
      go true e = filled_next refl (eqb-true _ _ e) refl refl refl refl
      go false e = refused_first refl (eqb-false _ _ e) refl
