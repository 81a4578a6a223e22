-- Request 2 of document 02 split the answer 7, and changed no other: each reading is told by the grammar, and with the rule before it the same, or 7. Assumes nothing.
use mathlib.Core.Path.{◌≡◌, refl, sym, subst}
use mathlib.Core.Logic.{◌⊎◌, inl, inr, ⊎_elim}
use mathlib.Core.List.{List}
use Prim.Native.Nat.{ℕ, ◌+◌, ◌≤◌, ◌<◌}
use native.Mathlib.Omega.{arith}
use lib.ListN.{length, length-append}
use Rattle.lines.specs.Rule.{line_of}
use Rattle.lines.specs.declared.Line.{Line}
use Rattle.lines.specs.declared.Line.TheVariants.{Empty, Begin, BadBegin, End, Content, Bad}
use Rattle.tables.specs.Lent.{Lent}
use Rattle.reading.specs.Answers.{refusal, fault_number, fault_place}
use Rattle.reading.specs.Lent.{room_in, read_into}
use Rattle.reading.specs.declared.Reading.{Reading}
use Rattle.demands.specs.LineFaults.{Keyed, key_parameters, Faulty, reserved_key, empty_key, a_stray_byte, BadLine, bad_line}
use Rattle.demands.specs.GrammarRefusals.{Rule, Other, Refuses, bad_begin, too_deep, none_open, other_name, outside, no_property, BrokenBy, at_line, unclosed, no_component, Broken}
use Rattle.demands.specs.Before.{ToldBy, when_too_long, when_no_text_room, no_calendar, when_no_room, all_read, OfThree, Became, became_reserved, became_empty, became_stray, the_same}
use Rattle.demands.proofs.Cases as cases
use Rattle.demands.proofs.Cases.{Answered, exactly}
use Rattle.demands.proofs.SaidLines.{property_read, Says, says}
use Rattle.demands.proofs.SaidFaults.{faulty, fault_read}
use Rattle.demands.proofs.SaidRefusals.{Ordinary, of_other}
use Rattle.demands.proofs.Grammar.{broken_answered, refused_broken}

-- ---- one line

-- a front that is a key and its parameters has a byte at least
keyed_some : {front : List ℕ} → Keyed front → 0 < length front
keyed_some (key_parameters {key = key} {parameters = text} k ps) = omega (arith, k.some, length-append key text)

-- what became of 7 where the line has this fault
of_fault : {at number place size : ℕ} {line : List ℕ} → Faulty at line number place → Became (refusal 7 at size) (refusal number place size)
of_fault (reserved_key r) = became_reserved
of_fault (empty_key h off) = became_empty
of_fault {at} (a_stray_byte {front = front} h s) = became_stray {at = at} {place = at + length front} (omega (arith, keyed_some s.keyed))

-- what is wrong with a line now
record Wrong (at : ℕ) (line : List ℕ) : Type 0 where
  number : ℕ
  place : ℕ
  wrong : Faulty at line number place

module _ {at : ℕ} {line : List ℕ} (o : Other line) where
  -- a line that is no property has one of the three faults
  now_wrong : {number place : ℕ} → BadLine at line number place → Wrong at line
  now_wrong (bad_line h) = go (line_of line) refl (of_other line o) (says 0 0 0 line)
    where
      go : (k : Line) → line_of line ≡ k → Ordinary k → Says 0 0 0 line k → Wrong at line
      go Empty e n s = absurd n
      go (Begin found) e n s = absurd n
      go BadBegin e n s = absurd n
      go (End found) e n s = absurd n
      go (Content p) e n s = absurd (h 0 0 0 _ _ s)
      go (Bad f) e n s = record { number = fault_number f; place = fault_place f at; wrong = faulty line at f e }

  -- and a line that has one is no property
  was_wrong : {number place : ℕ} → Faulty at line number place → BadLine at line 7 at
  was_wrong w = bad_line λ start owner number p qs l.
      let q = (property_read start owner number l).1.line_is in
      let r = (fault_read o w).is in
      let z : ◌≡◌ {A = ℕ} 0 1 = cc in
      omega arith

-- ---- a text

-- a number that is none of the three
none_of : (number : ℕ) → (number ≡ 7 → ⊥) → number ≤ 10 → OfThree number → ⊥
none_of number no_seven h s = ⊎_elim no_seven (⊎_elim (λ z. omega arith) (λ z. omega arith)) s

-- what one rule refuses another refuses too, with a number up to 6, but for what the rule says itself
apart : {wrong : Rule} (other : Rule) {depth at number place : ℕ} {name content : List ℕ} → Refuses wrong depth name at content number place
    → (Refuses other depth name at content number place × (number ≤ 6)) ⊎ (Other content × (0 < depth) × wrong at content number place)
apart other (bad_begin m h) = inl (bad_begin m h, omega arith)
apart other (too_deep o d) = inl (too_deep o d, omega arith)
apart other (none_open m d) = inl (none_open m d, omega arith)
apart other (other_name m h) = inl (other_name m h, omega arith)
apart other (outside o d) = inl (outside o d, omega arith)
apart other (no_property o d w) = inr (o, d, w)

-- how it is broken now
record Now (text : List ℕ) (number place size : ℕ) : Type 0 where
  number' : ℕ
  place' : ℕ
  is : Broken text number' place'
  became : Became (refusal number place size) (refusal number' place' size)

module _ {text : List ℕ} (size : ℕ) where
  unchanged : {number place : ℕ} → Broken text number place → (number ≡ 7 → ⊥) → number ≤ 10 → Now text number place size
  unchanged {number} {place} w no_seven h = record { number' = number; place' = place; is = w; became = the_same (none_of number no_seven h) }

  now_broken : {number place : ℕ} → BrokenBy BadLine text number place → Now text number place size
  now_broken (at_line {at = at} {depth = depth} {name = name} {content = content} behind l b w) = go (apart Faulty w)
    where
      go : {number place : ℕ} → (Refuses Faulty depth name at content number place × (number ≤ 6)) ⊎ (Other content × (0 < depth) × BadLine at content number place)
          → Now text number place size
      go (inl (r, h)) = unchanged (at_line behind l b r) (λ z. omega arith) (omega arith)
      go (inr (o, d, bad_line h)) =
          let n = now_wrong o (bad_line h) in
          record { number' = n.number; place' = n.place; is = at_line behind l b (no_property o d n.wrong); became = of_fault n.wrong }
  now_broken (unclosed l b some) = unchanged (unclosed l b some) (λ z. omega arith) (omega arith)
  now_broken (no_component l b) = unchanged (no_component l b) (λ z. omega arith) (omega arith)

-- what is broken now was broken before
was_broken : {text : List ℕ} {number place : ℕ} → Broken text number place → (n : ℕ) × (p : ℕ) × BrokenBy BadLine text n p
was_broken {text} (at_line {at = at} {depth = depth} {name = name} {content = content} behind l b w) = go (apart BadLine w)
  where
    go : {number place : ℕ} → (Refuses BadLine depth name at content number place × (number ≤ 6)) ⊎ (Other content × (0 < depth) × Faulty at content number place)
        → (n : ℕ) × (p : ℕ) × BrokenBy BadLine text n p
    go (inl (r, h)) = (_, _, at_line behind l b r)
    go (inr (o, d, f)) = (_, _, at_line behind l b (no_property o d (was_wrong o f)))
was_broken (unclosed l b some) = (_, _, unclosed l b some)
was_broken (no_component l b) = (_, _, no_component l b)

-- ---- a reading

module _ (feed : List ℕ) (b : Lent) where
  -- the reading is what the grammar tells
  told_reading : {r : Reading} → ToldBy Faulty feed b r → read_into feed b ≡ r
  told_reading (when_too_long h) = exactly feed (length b.text) (room_in b) (cases.Answered.when_too_long h)
  told_reading (when_no_text_room h t) = exactly feed (length b.text) (room_in b) (cases.Answered.when_no_text_room h t)
  told_reading (no_calendar h t w) = broken_answered feed b h t w
  told_reading (when_no_room {s = s} r t x) = exactly feed (length b.text) (room_in b) (cases.Answered.when_no_room s r t x)
  told_reading (all_read {s = s} r t a) = exactly feed (length b.text) (room_in b) (cases.Answered.all_read s r t a)

  -- there was an answer to every feed
  pub told_before : (r : Reading) × ToldBy BadLine feed b r
  told_before = go (cases.cases feed (length b.text) (room_in b))
    where
      go : {r : Reading} → Answered feed (length b.text) (room_in b) r → (r : Reading) × ToldBy BadLine feed b r
      go (cases.Answered.when_too_long h) = (_, when_too_long h)
      go (cases.Answered.when_no_text_room h t) = (_, when_no_text_room h t)
      go (cases.Answered.not_readable h t x from o) = let w = was_broken (refused_broken _ x from o) in (_, no_calendar h t w.2)
      go (cases.Answered.when_no_room s r t x) = (_, when_no_room r t x)
      go (cases.Answered.all_read s r t a) = (_, all_read r t a)

  -- and it became the answer now
  pub became : (r : Reading) → ToldBy BadLine feed b r → Became r (read_into feed b)
  became r w = go w
    where
      same : {r : Reading} → ToldBy Faulty feed b r → (OfThree r.answer → ⊥) → Became r (read_into feed b)
      same {r} w h = subst (Became r) (sym (told_reading w)) (the_same h)

      go : {r : Reading} → ToldBy BadLine feed b r → Became r (read_into feed b)
      go (when_too_long h) = same (when_too_long h) (none_of 1 (λ z. omega arith) (omega arith))
      go (when_no_text_room h t) = same (when_no_text_room h t) (none_of 2 (λ z. omega arith) (omega arith))
      go (no_calendar h t w) = let n = now_broken _ w in subst (Became _) (sym (told_reading (no_calendar h t n.is))) n.became
      go (when_no_room r t x) = same (when_no_room r t x) (none_of 10 (λ z. omega arith) (omega arith))
      go (all_read r t a) = same (all_read r t a) (none_of 0 (λ z. omega arith) (omega arith))
