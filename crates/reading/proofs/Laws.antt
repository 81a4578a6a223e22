-- Laws of the six numbers: what a text answers by itself and with tables, and where a refusal is placed. Assumes nothing.
use mathlib.Core.Path.{◌≡◌, refl, ap, subst, ◌∙◌}
use mathlib.Core.Bool.{Bool, true, false}
use mathlib.Core.List.{List}
use Prim.Native.Nat.{ℕ, ◌≤◌, ◌<◌, zero-le}
use native.Mathlib.Omega.{arith}
use lib.ListN.{length}
use lib.Dec.{eqb}
use borrow.Author.Tests.{eqb-false}
use Rattle.octets.specs.Choice.{pick}
use Rattle.octets.specs.Answers.{done, no_room}
use Rattle.lines.specs.declared.Fault.TheVariants.{ReservedKey, EmptyKey, StrayByte}
use Rattle.lines.specs.Rule.{line_of}
use Rattle.lines.specs.Sound.{Sound}
use Rattle.lines.proofs.Sound.{sound}
use Rattle.nesting.specs.Steps.{refused_at, State, Run, finished, stopped, run_of, ended_at, judged, outcome_of, counts_of}
use Rattle.nesting.specs.declared.Counts.{Counts}
use Rattle.nesting.specs.declared.Refusal.{Refusal}
use Rattle.std.specs.Prelude.{Result, Ok, Err}
use Rattle.nesting.specs.declared.Refused.{Refused}
use Rattle.nesting.proofs.Checks.{fault_of}
use Rattle.nesting.proofs.Lines.{RefusedAt, refused_line}
use Rattle.reading.specs.declared.Reading.{Reading}
use Rattle.reading.specs.Answers.{number_of, place_of, told, counts_in, fits, answered, by_room, measure_text, read_text}

-- every refusal of a line has a number of its own, which is not Done
pub refusal_number : (r : Refusal) → eqb (number_of r) done ≡ false
refusal_number Refusal.BadBegin = refl
refusal_number Refusal.TooDeep = refl
refusal_number Refusal.BadEnd = refl
refusal_number Refusal.Outside = refl
refusal_number (Refusal.Line ReservedKey) = refl
refusal_number (Refusal.Line EmptyKey) = refl
refusal_number (Refusal.Line (StrayByte at)) = refl
refusal_number Refusal.Unclosed = refl
refusal_number Refusal.NoComponent = refl

-- a text that answers its counts was read to the end, and these are its rows
pub record Finished (text : List ℕ) (n : Counts) : Type 0 where
  pub state : State
  pub run : run_of text ≡ finished state
  pub counts : n ≡ counts_of state

ended_counts : (depth : ℕ) (n : Counts) (size : ℕ) (counts : Counts) → ended_at depth n size ≡ Ok counts → counts ≡ n
ended_counts depth n size counts e = go (eqb depth 0) (eqb n.components 0) e
  where
    go : (t u : Bool) → pick t (pick u (Err (refused_at Refusal.NoComponent size)) (Ok n)) (Err (refused_at Refusal.Unclosed size)) ≡ Ok counts → counts ≡ n
    go true true e = cc
    go true false e = cc
    go false u e = cc

pub read_to_end : (text : List ℕ) (counts : Counts) → outcome_of text ≡ Ok counts → Finished text counts
unfolding outcome_of
read_to_end text counts e = go (run_of text) refl e
  where
    go : (r : Run) → run_of text ≡ r → judged r (length text) ≡ Ok counts → Finished text counts
    go (finished s) f e = record { state = s; run = f; counts = ended_counts (length s.opens) (counts_of s) (length text) counts e }
    go (stopped r place) f e = let z : ◌≡◌ {A = ℕ} 0 1 = cc in absurd (omega arith)

-- ---- the place of a refusal

-- a line is refused within the text
line_place : (text : List ℕ) (r : Refusal) (start : ℕ) → RefusedAt text r start → place_of r start ≤ length text
line_place text Refusal.BadBegin start w = omega (arith, w.inside)
line_place text Refusal.TooDeep start w = omega (arith, w.inside)
line_place text Refusal.BadEnd start w = omega (arith, w.inside)
line_place text Refusal.Outside start w = omega (arith, w.inside)
line_place text (Refusal.Line ReservedKey) start w = omega (arith, w.inside)
line_place text (Refusal.Line EmptyKey) start w = omega (arith, w.inside)
line_place text (Refusal.Line (StrayByte at)) start w =
    let bad = fault_of text w.line (line_of w.line) w.opens (StrayByte at) w.refused in
    let stray : at < length w.line = subst (Sound w.line) bad (sound w.line) in
    omega (arith, w.inside)
line_place text Refusal.Unclosed start w = omega (arith, w.inside)
line_place text Refusal.NoComponent start w = omega (arith, w.inside)

-- what is refused at the end of a text has its length for a place
end_place : (depth : ℕ) (n : Counts) (size : ℕ) (r : Refusal) (from : ℕ) → ended_at depth n size ≡ Err (refused_at r from) → place_of r from ≡ size
end_place depth n size r from e = go (eqb depth 0) (eqb n.components 0) e
  where
    here : {x : Refusal} → place_of x size ≡ size → ◌≡◌ {A = Result Counts Refused} (Err (refused_at x size)) (Err (refused_at r from)) → place_of r from ≡ size
    here {x} p e =
        let told : refused_at x size ≡ refused_at r from = cc in
        let same : x ≡ r = ap (λ (y : Refused). y.refusal) told in
        let there : size ≡ from = ap (λ (y : Refused). y.from) told in
        rw (← same, ← there) p

    go : (t u : Bool) → pick t (pick u (Err (refused_at Refusal.NoComponent size)) (Ok n)) (Err (refused_at Refusal.Unclosed size)) ≡ Err (refused_at r from) → place_of r from ≡ size
    go true true e = here refl e
    go true false e = cc
    go false u e = here refl e

-- so every place is within the text
pub place_inside : (text : List ℕ) (r : Refusal) (from : ℕ) → outcome_of text ≡ Err (refused_at r from) → place_of r from ≤ length text
unfolding outcome_of
place_inside text r from e = go (run_of text) refl e
  where
    go : (w : Run) → run_of text ≡ w → judged w (length text) ≡ Err (refused_at r from) → place_of r from ≤ length text
    go (finished s) f e = omega (arith, end_place (length s.opens) (counts_of s) (length text) r from e)
    go (stopped x start) f e =
        let told : refused_at x start ≡ refused_at r from = cc in
        let same : x ≡ r = ap (λ (y : Refused). y.refusal) told in
        let there : start ≡ from = ap (λ (y : Refused). y.from) told in
        line_place text r from (refused_line text r from (rw (same, there) at f))

-- ---- a text by itself, and with tables

module _ (text : List ℕ) where
  -- all of the text is measured, and a place is in it
  pub measured_length : (measure_text text).length ≡ length text
  measured_length = go (outcome_of text)
    where
      go : (o : Result Counts Refused) → (answered o (length text) (λ counts. done)).length ≡ length text
      go (Err e) = refl
      go (Ok counts) = refl

  pub measured_place : (measure_text text).place ≤ length text
  measured_place = go (outcome_of text) refl
    where
      go : (o : Result Counts Refused) → outcome_of text ≡ o → (answered o (length text) (λ counts. done)).place ≤ length text
      go (Err x) e = place_inside text x.refusal x.from e
      go (Ok counts) e = zero-le

  -- what it counts has these counts
  pub counted_text : (counts : Counts) → outcome_of text ≡ Ok counts → told done 0 (length text) counts ≡ measure_text text
  counted_text counts e = rw e

  pub was_counted : (measure_text text).answer ≡ done → outcome_of text ≡ Ok (counts_in (measure_text text))
  was_counted e = go (outcome_of text) refl e
    where
      go : (o : Result Counts Refused) → outcome_of text ≡ o → (answered o (length text) (λ counts. done)).answer ≡ done → outcome_of text ≡ Ok (counts_in (measure_text text))
      go (Err e) f d = absurd (eqb-false (number_of e.refusal) done (refusal_number e.refusal) d)
      go (Ok counts) f e = f ∙ rw f

module _ (text : List ℕ) (room : Counts) where
  -- what measuring refuses is refused with tables too
  pub refused_with : ((measure_text text).answer ≡ done → ⊥) → measure_text text ≡ read_text text room
  refused_with = go (outcome_of text)
    where
      go : (o : Result Counts Refused) → ((answered o (length text) (λ counts. done)).answer ≡ done → ⊥)
          → answered o (length text) (λ counts. done) ≡ answered o (length text) (by_room room)
      go (Err e) f = refl
      go (Ok counts) f = absurd (f refl)

  -- what it counts fits the tables, or does not
  pub room_answers : {m : Reading} → m ≡ measure_text text → m.answer ≡ done → (t : Bool) → fits (counts_in m) room ≡ t
      → told (pick t done no_room) m.place m.length (counts_in m) ≡ read_text text room
  room_answers {m} is e t f = go (outcome_of text) refl is
    where
      go : (o : Result Counts Refused) → outcome_of text ≡ o → m ≡ answered o (length text) (λ counts. done)
          → told (pick t done no_room) m.place m.length (counts_in m) ≡ read_text text room
      go (Err x) g is = absurd (eqb-false (number_of x.refusal) done (refusal_number x.refusal) (rw is at e))
      go (Ok counts) g is = let h : fits counts room ≡ t = rw is at f in rw (is, g, h)

  -- what is Done was counted, and fits
  pub was_done : (read_text text room).answer ≡ done → (counts : Counts) × (outcome_of text ≡ Ok counts) × (fits counts room ≡ true)
  was_done e = go (outcome_of text) refl e
    where
      fitted : (counts : Counts) (t : Bool) → fits counts room ≡ t → pick t done no_room ≡ done → fits counts room ≡ true
      fitted counts true f e = f
      fitted counts false f e = absurd (omega arith)

      go : (o : Result Counts Refused) → outcome_of text ≡ o → (answered o (length text) (by_room room)).answer ≡ done
          → (counts : Counts) × (outcome_of text ≡ Ok counts) × (fits counts room ≡ true)
      go (Err e) f d = absurd (eqb-false (number_of e.refusal) done (refusal_number e.refusal) d)
      go (Ok counts) f e = (counts, f, fitted counts (fits counts room) refl e)
