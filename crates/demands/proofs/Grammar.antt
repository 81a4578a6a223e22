-- What the steps over the lines read is a calendar by the grammar with the same rows, what they refuse is broken by the grammar with the same number and
-- place, and the other way round. Assumes nothing.
use mathlib.Core.Path.{◌≡◌, refl, sym, ap, subst, ◌∙◌}
use mathlib.Core.Bool.{Bool, true, false}
use mathlib.Core.List.{List, [], ◌∷◌, ◌++◌, append-nil, append_assoc}
use mathlib.Core.Logic.{◌↔◌}
use Prim.Native.Nat.{ℕ, suc, ◌+◌, ◌≤◌, ◌<◌}
use native.Mathlib.Omega.{arith}
use lib.ListN.{length, get_or, length-append}
use lib.Seq.{get_or-append-add, get_or-append_seam}
use lib.Dec.{eqb}
use borrow.Author.Tests.{eqb-true, eqb-false, ne_eqb}
use Rattle.std.specs.Prelude.{Result, Ok, Err}
use Rattle.octets.specs.Choice.{pick}
use Rattle.octets.specs.Answers.{no_text_room, no_room, stray_byte}
use Rattle.octets.specs.All.{All}
use Rattle.unfolding.specs.Unfold.{unfolded}
use Rattle.lines.specs.Split.{Placed, lines_from}
use Rattle.lines.specs.Rule.{line_of}
use Rattle.lines.proofs.Rule.{is_empty}
use Rattle.tables.specs.declared.ComponentRow.{ComponentRow}
use Rattle.nesting.specs.Steps.{State, nothing, check_of, after, Run, finished, stopped, onward, read_lines, run_of, counts_of, ended_at, judged, outcome_of, refused_at}
use Rattle.nesting.specs.declared.Entry.{Entry}
use Rattle.nesting.specs.declared.Refusal.{Refusal}
use Rattle.nesting.specs.declared.Counts.{Counts}
use Rattle.nesting.specs.declared.Refused.{Refused}
use Rattle.tables.specs.Lent.{Lent}
use Rattle.reading.specs.Answers.{number_of, place_of, refusal}
use Rattle.reading.specs.Lent.{room_in, read_into}
use Rattle.reading.specs.declared.Reading.{Reading}
use Rattle.demands.specs.Readable.{Readable}
use Rattle.demands.specs.Grammar.{line, Lines, no_row, Rows, no_rows, opened_row, with_component, Body, no_line, empty_line, a_property, a_component, Calendar}
use Rattle.demands.specs.LineFaults.{Stray, StrayAt, Faulty, reserved_key, empty_key, a_stray_byte}
use Rattle.demands.specs.GrammarRefusals.{Begun, in_this, in_another, Refuses, bad_begin, too_deep, none_open, other_name, outside, no_property, Broken, at_line, unclosed, no_component}
use Rattle.demands.proofs.Cases.{Answered, cases, exactly}
use Rattle.demands.proofs.Cases.Answered.{when_too_long, when_no_text_room, not_readable, when_no_room, all_read}
use Rattle.demands.proofs.SaidBreaks.{lines_are, lines_found}
use Rattle.demands.proofs.SaidNesting.{In, lines_in, state, rows, innermost, left_of, begun_of, all_front, all_back, passed, body_reads, Leaves, begun_reads}
use Rattle.demands.proofs.SaidRefusals.{refuses, refused_by}

-- ---- what the grammar has of a body

-- lines that leave nothing open that was not open before are a body
begun_depth : {depth owner depth' : ℕ} {name name' : List ℕ} {r r' : Rows} {ls : List Placed} → Begun depth owner name r ls depth' name' r' → depth ≤ depth'
begun_depth (in_this b) = omega arith
begun_depth (in_another at b d o more) = omega (arith, begun_depth more)

begun_body : {depth owner depth' : ℕ} {name name' : List ℕ} {r r' : Rows} {ls : List Placed} → Begun depth owner name r ls depth' name' r' → depth' ≡ depth
    → Body depth owner r ls r'
begun_body (in_this b) e = b
begun_body (in_another at b d o more) e = absurd (omega (arith, begun_depth more))

-- a body takes no row away, and a component adds one
one_more : (r : Rows) (c : ComponentRow) → length (with_component r c).components ≡ length r.components + 1
one_more r c = length-append r.components (c ∷ [])

body_more : {depth owner : ℕ} {r r' : Rows} {ls : List Placed} → Body depth owner r ls r' → length r.components ≤ length r'.components
body_more no_line = omega arith
body_more (empty_line b) = body_more b
body_more (a_property h p b) = body_more b
body_more (a_component at at' {depth = depth} {owner = owner} {name = name} {r = r} d o b c later) =
    omega (arith, body_more b, body_more later, one_more r (opened_row owner (suc depth) at name))

abbrev Blank : List Placed → Type 0
Blank ls = All (λ (l : Placed). l.content ≡ []) ls

-- outside of all components a body without components is of empty lines
body_blank : {depth owner : ℕ} {r r' : Rows} {ls : List Placed} → Body depth owner r ls r' → depth ≡ 0 → length r'.components ≤ length r.components → Blank ls
unfolding All
body_blank no_line z h = tt
body_blank (empty_line b) z h = (refl, body_blank b z h)
body_blank (a_property some p b) z h = absurd (omega arith)
body_blank (a_component at at' {depth = depth} {owner = owner} {name = name} {r = r} d o b c later) z h =
    absurd (omega (arith, body_more b, body_more later, one_more r (opened_row owner (suc depth) at name)))

-- ---- the lines of a text

module _ (text : List ℕ) where
  abbrev lines : List Placed
  lines = lines_from 0 text

  lines_split : Lines 0 text lines
  lines_split = lines_found (length text) 0 text (omega arith)

  all_in : All (In text) lines
  all_in = lines_in text [] 0 0 text refl refl

  -- the lines that the grammar has are those of the reading
  split_in : {ls : List Placed} → Lines 0 text ls → All (In text) ls
  split_in l = subst (All (In text)) (lines_are l) all_in

  run_split : {ls : List Placed} → Lines 0 text ls → run_of text ≡ read_lines text ls nothing
  run_split l = ap (λ (ls : List Placed). read_lines text ls nothing) (lines_are l)

  -- lines that are read from the start on
  begun_from : (ls : List Placed) → All (In text) ls → (s : State) → read_lines text ls nothing ≡ finished s
      → Begun 0 no_row [] no_rows ls (length s.opens) (innermost text s.opens) (rows s)
  begun_from ls i s e = begun_of text (left_of text ls i [] no_rows s e)

  -- ---- what is read

  -- to the end with nothing open: a body outside of all components, with the same rows
  pub reads_body : (r : Rows) → (run_of text ≡ finished (state [] r)) ↔ Body 0 no_row no_rows lines r
  unfolding read_lines
  reads_body r = (
    λ e. begun_body (begun_from lines all_in (state [] r) e) refl,
    λ b. rw append-nil at (body_reads text b [] refl refl all_in []),
  )

  calendar_reads : {r : Rows} → Calendar text r → run_of text ≡ finished (state [] r)
  calendar_reads {r} c = (reads_body r).1 (subst (λ (ls : List Placed). Body 0 no_row no_rows ls r) (sym (lines_are c.split)) c.body)

  reads_calendar : {r : Rows} → run_of text ≡ finished (state [] r) → 0 < length r.components → Calendar text r
  reads_calendar {r} e some = record { lines = lines; split = lines_split; body = (reads_body r).0 e; some = some }

  -- ---- what is refused at a line

  -- the lines before it are read, and its check refuses it
  record Stopped (ls : List Placed) (s : State) (x : Refusal) (place : ℕ) : Type 0 where
    before : List Placed
    here : Placed
    behind : List Placed
    last : State
    is : ls ≡ before ++ here ∷ behind
    reads : read_lines text before s ≡ finished last
    refused : check_of text here.content (line_of here.content) last.opens ≡ Err x
    at : here.start ≡ place

  stops : (ls : List Placed) (s : State) (x : Refusal) (place : ℕ) → read_lines text ls s ≡ stopped x place → Stopped ls s x place
  unfolding read_lines
  stops [] s x place e = absurd (let z : ◌≡◌ {A = ℕ} 0 1 = cc in omega arith)
  stops (l ∷ ls) s x place e =
      go (check_of text l.content (line_of l.content) s.opens) refl e
      (stops ls (after l.start l.content (line_of l.content) s) x place)
    where
      next : State
      next = after l.start l.content (line_of l.content) s

      go : (c : Result Unit Refusal) → check_of text l.content (line_of l.content) s.opens ≡ c → onward c l.start (read_lines text ls next) ≡ stopped x place
          → (read_lines text ls next ≡ stopped x place → Stopped ls next x place) → Stopped (l ∷ ls) s x place
      go (Ok tt) c e ih =
          let w = ih e in
          record {
            before = l ∷ w.before;
            here = w.here;
            behind = w.behind;
            last = w.last;
            is = ap (◌∷◌ l) w.is;
            reads = passed text l w.before s refl c ∙ w.reads;
            refused = w.refused;
            at = w.at;
          }
      go (Err y) c e ih =
          let same : y ≡ x = cc in
          record { before = []; here = l; behind = ls; last = s; is = refl; reads = refl; refused = c ∙ ap Err same; at = cc }

  stopped_broken : (x : Refusal) (from : ℕ) → run_of text ≡ stopped x from → Broken text (number_of x) (place_of x from)
  stopped_broken x from e =
      let w = stops lines nothing x from e in
      let before_in = all_front (In text) w.before (w.here ∷ w.behind) (subst (All (In text)) w.is all_in) in
      subst (λ (at : ℕ). Broken text (number_of x) (place_of x at)) w.at
      (at_line w.behind (subst (Lines 0 text) w.is lines_split) (begun_from w.before before_in w.last w.reads)
      (refuses text w.here.start w.here.content w.last.opens x w.refused))

  -- ---- what is refused at the end

  -- nothing, an Unclosed or a NoComponent by what is open and what there is
  ended_broken : (s : State) → run_of text ≡ finished s → (x : Refusal) (from : ℕ) → ended_at (length s.opens) (counts_of s) (length text) ≡ Err (refused_at x from)
      → Broken text (number_of x) (place_of x from)
  ended_broken s e x from o = go (eqb (length s.opens) 0) (eqb (length s.components) 0) refl refl o
    where
      b : Begun 0 no_row [] no_rows lines (length s.opens) (innermost text s.opens) (rows s)
      b = begun_from lines all_in s e

      told : {y : Refusal} → ◌≡◌ {A = Result Counts Refused} (Err (refused_at y (length text))) (Err (refused_at x from))
          → Broken text (number_of y) (place_of y (length text)) → Broken text (number_of x) (place_of x from)
      told {y} q w =
          let is : refused_at y (length text) ≡ refused_at x from = cc in
          let same : y ≡ x = ap (λ (z : Refused). z.refusal) is in
          let there : length text ≡ from = ap (λ (z : Refused). z.from) is in
          subst (λ (at : ℕ). Broken text (number_of x) (place_of x at)) there (subst (λ (z : Refusal). Broken text (number_of z) (place_of z (length text))) same w)

      go : (t u : Bool) → eqb (length s.opens) 0 ≡ t → eqb (length s.components) 0 ≡ u
          → pick t (pick u (Err (refused_at Refusal.NoComponent (length text))) (Ok (counts_of s))) (Err (refused_at Refusal.Unclosed (length text))) ≡ Err (refused_at x from)
          → Broken text (number_of x) (place_of x from)
      go true true p q o =
          let body = begun_body b (eqb-true (length s.opens) 0 p) in
          told o (no_component lines_split (body_blank body refl (omega (arith, eqb-true (length s.components) 0 q))))
      go true false p q o = absurd (let z : ◌≡◌ {A = ℕ} 0 1 = cc in omega arith)
      go false u p q o = told o (unclosed lines_split b (omega (arith, eqb-false (length s.opens) 0 p)))

  -- ---- and the other way round

  -- empty lines add nothing
  blank_reads : (ls : List Placed) (s : State) → Blank ls → read_lines text ls s ≡ finished s
  unfolding read_lines All
  blank_reads [] s b = refl
  blank_reads (l ∷ ls) s b =
      passed text l ls s (ap line_of b.0 ∙ is_empty [] refl) refl ∙ blank_reads ls s b.1

  outcome_is : {r : Run} → run_of text ≡ r → outcome_of text ≡ judged r (length text)
  unfolding outcome_of
  outcome_is e = ap (λ (r : Run). judged r (length text)) e

  -- what is read from the start on leaves this
  leaves : {ls : List Placed} {depth : ℕ} {name : List ℕ} {r : Rows} → All (In text) ls → Begun 0 no_row [] no_rows ls depth name r
      → Leaves text ls nothing depth name r
  leaves i b = begun_reads text b [] refl refl refl i

  -- it is refused with this number and place
  record RefusedAs (number place : ℕ) : Type 0 where
    refusal_is : Refusal
    from : ℕ
    outcome : outcome_of text ≡ Err (refused_at refusal_is from)
    number_is : number_of refusal_is ≡ number
    place_is : place_of refusal_is from ≡ place

  broken_refused : {number place : ℕ} → Broken text number place → RefusedAs number place
  unfolding read_lines
  broken_refused (at_line {at = at} {content = content} {before = before} behind l b w) =
      let left = leaves (all_front (In text) before (line at content ∷ behind) (split_in l)) b in
      let x = refused_by text at content w left.opens left.many left.named in
      record {
        refusal_is = x.0;
        from = at;
        outcome = outcome_is {r = stopped x.0 at} (run_split l ∙ left.reads (line at content ∷ behind) ∙ rw x.1);
        number_is = x.2;
        place_is = x.3;
      }
  broken_refused (unclosed {ls = ls} l b some) =
      let left = leaves (split_in l) b in
      record {
        refusal_is = Refusal.Unclosed;
        from = length text;
        outcome =
            outcome_is (run_split l ∙ ap (λ (ls : List Placed). read_lines text ls nothing) (sym (append-nil ls)) ∙ left.reads [])
            ∙ rw (ne_eqb (length left.opens) 0 (λ z. omega (arith, left.many)));
        number_is = refl;
        place_is = refl;
      }
  broken_refused (no_component {ls = ls} l b) =
      record { refusal_is = Refusal.NoComponent; from = length text; outcome = outcome_is (run_split l ∙ blank_reads ls nothing b); number_is = refl; place_is = refl }

  -- and a text that is refused is broken so by the grammar
  pub refused_broken : (x : Refusal) (from : ℕ) → outcome_of text ≡ Err (refused_at x from) → Broken text (number_of x) (place_of x from)
  refused_broken x from o = go (run_of text) refl
    where
      go : (r : Run) → run_of text ≡ r → Broken text (number_of x) (place_of x from)
      go (finished s) e = ended_broken s e x from (sym (outcome_is e) ∙ o)
      go (stopped y at) e =
          let q : ◌≡◌ {A = Result Counts Refused} (Err (refused_at y at)) (Err (refused_at x from)) = sym (outcome_is e) ∙ o in
          let is : refused_at y at ≡ refused_at x from = cc in
          let same : y ≡ x = ap (λ (z : Refused). z.refusal) is in
          let there : at ≡ from = ap (λ (z : Refused). z.from) is in
          stopped_broken x from (rw (same, there) at e)

-- a feed is readable exactly where it is within the byte limit and its unfolded text is a calendar, with the same rows
pub readable_calendar : (feed : List ℕ) (s : State) → Readable feed s ↔ ((length feed ≤ 1048576) × Calendar (unfolded feed) (rows s) × (s.opens ≡ []))
readable_calendar feed s = (
  λ w.
      (w.short, reads_calendar (unfolded feed) (w.reads ∙ ap (λ (es : List Entry). finished (state es (rows s))) w.closed) w.some, w.closed),
  λ w. record {
    short = w.0;
    reads = calendar_reads (unfolded feed) w.1 ∙ ap (λ (es : List Entry). finished (state es (rows s))) (sym w.2);
    closed = w.2;
    some = w.1.some;
  },
)

-- where the feed is within the byte limit and its unfolded text has room, a text that is broken is answered with its number and place
pub broken_answered : (feed : List ℕ) (b : Lent) {number place : ℕ} → length feed ≤ 1048576 → length (unfolded feed) ≤ length b.text
    → Broken (unfolded feed) number place → read_into feed b ≡ refusal number place (length (unfolded feed))
broken_answered feed b h t w =
    let x = broken_refused (unfolded feed) w in
    rw (x.number_is, x.place_is) at (exactly feed (length b.text) (room_in b) (not_readable h t x.refusal_is x.from x.outcome))

-- and an answer from 3 on that is not 10 is given to a broken text only, with its number and place
pub answered_broken : (feed : List ℕ) (b : Lent) → no_text_room < (read_into feed b).answer → ((read_into feed b).answer ≡ no_room → ⊥)
    → Broken (unfolded feed) (read_into feed b).answer (read_into feed b).place
answered_broken feed b = go (cases feed (length b.text) (room_in b))
  where
    go : {r : Reading} → Answered feed (length b.text) (room_in b) r → no_text_room < r.answer → (r.answer ≡ no_room → ⊥) → Broken (unfolded feed) r.answer r.place
    go (when_too_long h) l u = absurd (omega arith)
    go (when_no_text_room h t) l u = absurd (omega arith)
    go (not_readable h t x from o) l u = refused_broken (unfolded feed) x from o
    go (when_no_room s r t x) l u = absurd (u refl)
    go (all_read s r t a) l u = absurd (omega arith)

-- ---- the byte that 18 is told at

-- a stray byte of a line of the text is a byte of the text
stray_in : (text : List ℕ) (at : ℕ) (content front : List ℕ) → In text (line at content) → Stray front content → StrayAt text (at + length front)
stray_in text at content front i s =
    let is : text ≡ i.before ++ (front ++ s.byte ∷ (s.rest ++ i.behind)) =
    i.is ∙ ap (λ (l : List ℕ). i.before ++ (l ++ i.behind)) s.is ∙ ap (◌++◌ i.before) (append_assoc front (s.byte ∷ s.rest) i.behind) in
    let here : get_or text (at + length front) 0 ≡ s.byte =
    ap (λ (l : List ℕ). get_or l (at + length front) 0) is
    ∙ ap (λ (n : ℕ). get_or (i.before ++ (front ++ s.byte ∷ (s.rest ++ i.behind))) (n + length front) 0) i.at
    ∙ get_or-append-add i.before (front ++ s.byte ∷ (s.rest ++ i.behind)) (length front) 0
    ∙ get_or-append_seam front s.byte (s.rest ++ i.behind) 0 in
    record {
      inside = omega (arith, i.at, ap length is, length-append i.before (front ++ s.byte ∷ (s.rest ++ i.behind)), length-append front (s.byte ∷ (s.rest ++ i.behind)));
      no_colon = λ q. s.no_colon (sym here ∙ q);
      no_semicolon = λ q. s.no_semicolon (sym here ∙ q);
    }

-- 18 is the number of a stray byte alone
of_stray : {at number place : ℕ} {line : List ℕ} → Faulty at line number place → number ≡ stray_byte → (front : List ℕ) × Stray front line × (place ≡ at + length front)
of_stray (reserved_key r) e = absurd (omega arith)
of_stray (empty_key h off) e = absurd (omega arith)
of_stray (a_stray_byte {front = front} h s) e = (front, s, refl)

stray_broken : (text : List ℕ) {number place : ℕ} → Broken text number place → number ≡ stray_byte → StrayAt text place
unfolding All
stray_broken text (at_line {at = at} {content = content} {before = before} behind l b w) e = go w e
  where
    go : {number place depth : ℕ} {name : List ℕ} → Refuses Faulty depth name at content number place → number ≡ stray_byte → StrayAt text place
    go (bad_begin m h) e = absurd (omega arith)
    go (too_deep o d) e = absurd (omega arith)
    go (none_open m d) e = absurd (omega arith)
    go (other_name m h) e = absurd (omega arith)
    go (outside o d) e = absurd (omega arith)
    go (no_property o d f) e =
        let s = of_stray f e in
        rw s.2 (stray_in text at content s.0 (all_back (In text) before (line at content ∷ behind) (split_in text l)).0 s.1)
stray_broken text (unclosed l b some) e = absurd (omega arith)
stray_broken text (no_component l b) e = absurd (omega arith)

pub stray_told : (feed : List ℕ) (b : Lent) → (read_into feed b).answer ≡ stray_byte → StrayAt (unfolded feed) (read_into feed b).place
stray_told feed b e = stray_broken (unfolded feed) (answered_broken feed b (omega arith) (λ z. omega arith)) e
