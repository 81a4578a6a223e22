-- The answer of a reading by cases: there are five, and each is given exactly where its conditions hold. Assumes nothing.
use mathlib.Core.Path.{◌≡◌, refl}
use mathlib.Core.Bool.{Bool, true, false, ◌&&◌, and-false}
use mathlib.Core.List.{List, [], ◌∷◌}
use Prim.Native.Nat.{ℕ, ◌≤◌, ◌<◌}
use native.Mathlib.Omega.{arith}
use lib.ListN.{length}
use lib.Dec.{eqb, leb}
use borrow.Author.Tests.{le-leb, lt-leb, leb-true, leb-false, ne_eqb, eqb-true, eqb-false}
use Rattle.std.specs.Prelude.{Result, Ok, Err}
use Rattle.octets.specs.Choice.{pick}
use Rattle.octets.specs.Answers.{longest, done, too_long, no_text_room, no_room}
use Rattle.unfolding.specs.Unfold.{unfolded}
use Rattle.nesting.specs.Steps.{State, Run, finished, stopped, run_of, counts_of, ended_at, judged, outcome_of, refused_at}
use Rattle.nesting.specs.declared.Counts.{Counts}
use Rattle.nesting.specs.declared.Entry.{Entry}
use Rattle.nesting.specs.declared.Refusal.{Refusal}
use Rattle.nesting.specs.declared.Refused.{Refused}
use Rattle.reading.specs.Answers.{number_of, place_of, told, refusal, fits, answered, by_room, read_text, reading_of}
use Rattle.reading.specs.declared.Reading.{Reading}
use Rattle.demands.specs.Readable.{Readable}
use Rattle.demands.specs.Room.{AtMost, Exceeds}
use Rattle.demands.specs.Room.Exceeds.{components, properties, parameters}

-- ---- room

module _ (c r : Counts) where
  pub enough : AtMost c r → fits c r ≡ true
  enough a = rw (le-leb _ _ a.components, le-leb _ _ a.properties, le-leb _ _ a.parameters)

  pub too_few : Exceeds c r → fits c r ≡ false
  too_few (components h) = rw (lt-leb _ _ h)
  too_few (properties h) = simp (lt-leb _ _ h, and-false)
  too_few (parameters h) = simp (lt-leb _ _ h, and-false)

  pub fitting : fits c r ≡ true → AtMost c r
  fitting e = go (leb c.components r.components) refl (leb c.properties r.properties) refl (leb c.parameters r.parameters) refl e
    where
      go : (x : Bool) → leb c.components r.components ≡ x → (y : Bool) → leb c.properties r.properties ≡ y
          → (z : Bool) → leb c.parameters r.parameters ≡ z → x && (y && z) ≡ true → AtMost c r
      go true x true y true z e = record { components = leb-true _ _ x; properties = leb-true _ _ y; parameters = leb-true _ _ z }
      go true x true y false z e = absurd (let w : ◌≡◌ {A = ℕ} 0 1 = cc in omega arith)
      go true x false y t z e = absurd (let w : ◌≡◌ {A = ℕ} 0 1 = cc in omega arith)
      go false x u y t z e = absurd (let w : ◌≡◌ {A = ℕ} 0 1 = cc in omega arith)

  pub exceeding : fits c r ≡ false → Exceeds c r
  exceeding e = go (leb c.components r.components) refl (leb c.properties r.properties) refl (leb c.parameters r.parameters) refl e
    where
      go : (x : Bool) → leb c.components r.components ≡ x → (y : Bool) → leb c.properties r.properties ≡ y
          → (z : Bool) → leb c.parameters r.parameters ≡ z → x && (y && z) ≡ false → Exceeds c r
      go true x true y true z e = absurd (let w : ◌≡◌ {A = ℕ} 0 1 = cc in omega arith)
      go true x true y false z e = parameters (leb-false _ _ z)
      go true x false y t z e = properties (leb-false _ _ y)
      go false x u y t z e = components (leb-false _ _ x)

-- ---- readable feeds

-- a text is read exactly where its run goes to the end, with nothing open there, and a component
ended_read : (s : State) (size : ℕ) (c : Counts) → ended_at (length s.opens) (counts_of s) size ≡ Ok c
    → (c ≡ counts_of s) × (length s.opens ≡ 0) × (0 < length s.components)
ended_read s size c e = go (eqb (length s.opens) 0) refl (eqb (length s.components) 0) refl e
  where
    go : (x : Bool) → eqb (length s.opens) 0 ≡ x → (y : Bool) → eqb (length s.components) 0 ≡ y
        → pick x (pick y (Err (refused_at Refusal.NoComponent size)) (Ok (counts_of s))) (Err (refused_at Refusal.Unclosed size)) ≡ Ok c
        → (c ≡ counts_of s) × (length s.opens ≡ 0) × (0 < length s.components)
    go true x true y e = absurd (let w : ◌≡◌ {A = ℕ} 0 1 = cc in omega arith)
    go true x false y e = (cc, eqb-true _ _ x, omega (arith, eqb-false (length s.components) 0 y))
    go false x t y e = absurd (let w : ◌≡◌ {A = ℕ} 0 1 = cc in omega arith)

none_open : (es : List Entry) → length es ≡ 0 → es ≡ []
none_open [] e = refl
none_open (x ∷ es) e = absurd (omega arith)

pub outcome_readable : (feed : List ℕ) (c : Counts) → length feed ≤ longest → outcome_of (unfolded feed) ≡ Ok c
    → (s : State) × Readable feed s × (c ≡ counts_of s)
unfolding outcome_of
outcome_readable feed c h e = go (run_of (unfolded feed)) refl e
  where
    go : (r : Run) → run_of (unfolded feed) ≡ r → judged r (length (unfolded feed)) ≡ Ok c → (s : State) × Readable feed s × (c ≡ counts_of s)
    go (finished s) x e =
        let w = ended_read s (length (unfolded feed)) c e in
        (s, record { short = h; reads = x; closed = none_open s.opens w.1; some = w.2 }, w.0)
    go (stopped r place) x e = absurd (let w : ◌≡◌ {A = ℕ} 0 1 = cc in omega arith)

pub readable_outcome : {feed : List ℕ} {s : State} → Readable feed s → outcome_of (unfolded feed) ≡ Ok (counts_of s)
unfolding outcome_of
readable_outcome {feed} {s} r = rw (r.reads, r.closed, ne_eqb (length s.components) 0 (λ e. omega (arith, r.some)))

-- ---- the five cases

pub data Answered (feed : List ℕ) (text_room : ℕ) (room : Counts) : Reading → Type 0 where
  when_too_long : longest < length feed → Answered feed text_room room (refusal too_long 0 0)
  when_no_text_room : length feed ≤ longest → text_room < length (unfolded feed)
      → Answered feed text_room room (refusal no_text_room 0 (length (unfolded feed)))
  not_readable : length feed ≤ longest → length (unfolded feed) ≤ text_room
      → (r : Refusal) (from : ℕ) → outcome_of (unfolded feed) ≡ Err (refused_at r from)
      → Answered feed text_room room (refusal (number_of r) (place_of r from) (length (unfolded feed)))
  when_no_room : (s : State) → Readable feed s → length (unfolded feed) ≤ text_room → Exceeds (counts_of s) room
      → Answered feed text_room room (told no_room 0 (length (unfolded feed)) (counts_of s))
  all_read : (s : State) → Readable feed s → length (unfolded feed) ≤ text_room → AtMost (counts_of s) room
      → Answered feed text_room room (told done 0 (length (unfolded feed)) (counts_of s))

module _ (feed : List ℕ) (text_room : ℕ) (room : Counts) where
  of_text : length feed ≤ longest → length (unfolded feed) ≤ text_room → Answered feed text_room room (read_text (unfolded feed) room)
  of_text h t = go (outcome_of (unfolded feed)) refl
    where
      of_read : (s : State) → Readable feed s → (f : Bool) → fits (counts_of s) room ≡ f
          → Answered feed text_room room (told (pick f done no_room) 0 (length (unfolded feed)) (counts_of s))
      of_read s r true e = all_read s r t (fitting (counts_of s) room e)
      of_read s r false e = when_no_room s r t (exceeding (counts_of s) room e)

      go : (o : Result Counts Refused) → outcome_of (unfolded feed) ≡ o → Answered feed text_room room (answered o (length (unfolded feed)) (by_room room))
      go (Ok c) e =
          let w = outcome_readable feed c h e in
          rw w.2 (of_read w.0 w.1 (fits (counts_of w.0) room) refl)
      go (Err x) e = not_readable h t x.refusal x.from e

  -- every reading is one of the five
  pub cases : Answered feed text_room room (reading_of feed text_room room)
  unfolding reading_of
  cases = go (leb (length feed) longest) refl (leb (length (unfolded feed)) text_room) refl
    where
      go : (x : Bool) → leb (length feed) longest ≡ x → (y : Bool) → leb (length (unfolded feed)) text_room ≡ y
          → Answered feed text_room room
          (pick x (pick y (read_text (unfolded feed) room) (refusal no_text_room 0 (length (unfolded feed)))) (refusal too_long 0 0))
      go true x true y = of_text (leb-true _ _ x) (leb-true _ _ y)
      go true x false y = when_no_text_room (leb-true _ _ x) (leb-false _ _ y)
      go false x t y = when_too_long (leb-false _ _ x)

  -- and where the conditions of one hold, it is the reading
  pub exactly : {r : Reading} → Answered feed text_room room r → reading_of feed text_room room ≡ r
  unfolding reading_of
  exactly (when_too_long h) = rw (lt-leb _ _ h)
  exactly (when_no_text_room h t) = rw (le-leb _ _ h, lt-leb _ _ t)
  exactly (not_readable h t r from e) = rw (le-leb _ _ h, le-leb _ _ t, e)
  exactly (when_no_room s r t x) = rw (le-leb _ _ r.short, le-leb _ _ t, readable_outcome r, too_few (counts_of s) room x)
  exactly (all_read s r t a) = rw (le-leb _ _ r.short, le-leb _ _ t, readable_outcome r, enough (counts_of s) room a)
