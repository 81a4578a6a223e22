-- A line is refused by the grammar where it may not stand by its check, with the same number and place. Assumes nothing.
use mathlib.Core.Path.{◌≡◌, refl, sym, ap, subst, ◌∙◌}
use mathlib.Core.Bool.{Bool, true, false, ◌&&◌, false≢true}
use mathlib.Core.List.{List, [], ◌∷◌}
use Prim.Native.Nat.{ℕ, ◌-◌, ◌<◌}
use native.Mathlib.Omega.{arith}
use lib.ListN.{length, drop}
use lib.Dec.{eqb, ltb}
use borrow.Author.Tests.{ltb-false, le-ltb}
use Rattle.std.specs.Prelude.{Err}
use Rattle.octets.specs.Choice.{pick}
use Rattle.octets.specs.Answers.{deepest}
use Rattle.octets.specs.Bytes.{key_byte}
use Rattle.octets.specs.Runs.{run}
use Rattle.octets.specs.Views.{viewed}
use Rattle.octets.specs.Words.{same_bytes}
use Rattle.octets.specs.declared.Span.{Span}
use Rattle.octets.proofs.Words.{same_eq, same_refl}
use Rattle.parameters.specs.Values.{span}
use Rattle.lines.specs.Rule.{after_begin, line_of}
use Rattle.lines.specs.declared.Fault.{Fault}
use Rattle.lines.specs.declared.Line.{Line}
use Rattle.lines.specs.declared.Line.TheVariants.{Empty, Begin, BadBegin, End, Content, Bad}
use Rattle.lines.proofs.Rule.{is_empty}
use Rattle.nesting.specs.Steps.{names, check_of, fine}
use Rattle.nesting.specs.declared.Entry.{Entry}
use Rattle.nesting.specs.declared.Refusal.{Refusal}
use Rattle.reading.specs.Answers.{number_of, place_of}
use Rattle.demands.specs.LineGrammar.{Closes}
use Rattle.demands.specs.LineFaults.{Faulty}
use Rattle.demands.specs.GrammarRefusals.{Other, Refuses, bad_begin, too_deep, none_open, other_name, outside, no_property}
use Rattle.demands.proofs.SaidLines.{begin_read, bad_begin_read, opens_read, closes_read, closes_name, Says, says}
use Rattle.demands.proofs.SaidFaults.{faulty, fault_read}
use Rattle.demands.proofs.SaidNesting.{innermost}

-- ---- any other line

-- the line is read as a property or as none
abbrev pub Ordinary : Line → Type 0
Ordinary Empty = ⊥
Ordinary (Begin found) = ⊥
Ordinary BadBegin = ⊥
Ordinary (End found) = ⊥
Ordinary (Content p) = Unit {0}
Ordinary (Bad fault) = Unit {0}

other_of : (content : List ℕ) → Ordinary (line_of content) → Other content
other_of content o = record {
  some = some content o;
  no_begin = λ rest m. begun (ltb 0 (length content - after_begin) && eqb (run key_byte (drop after_begin content)) (length content - after_begin))
      (subst Ordinary (begin_read m) o);
  no_end = λ rest m. subst Ordinary (closes_read m) o;
}
  where
    some : (l : List ℕ) → Ordinary (line_of l) → 0 < length l
    some [] o = absurd (subst Ordinary (is_empty [] refl) o)
    some (x ∷ l) o = omega arith

    begun : (t : Bool) → Ordinary (pick t (Begin (span after_begin (length content - after_begin))) BadBegin) → ⊥
    begun true o = o
    begun false o = o

pub of_other : (content : List ℕ) → Other content → Ordinary (line_of content)
of_other content o = go (line_of content) (says 0 0 0 content)
  where
    go : (k : Line) → Says 0 0 0 content k → Ordinary k
    go Empty s = omega (arith, o.some, ap length s)
    go (Begin found) s = o.no_begin s.0 s.1.mark
    go BadBegin s = o.no_begin s.0 s.1
    go (End found) s = o.no_end s.0 s.1
    go (Content p) s = tt
    go (Bad fault) s = tt

-- ---- from the check to the grammar

fine_bad : {x : Refusal} → fine ≡ Err x → ⊥
fine_bad e = let z : ◌≡◌ {A = ℕ} 0 1 = cc in omega arith

-- a check that is a choice between these two
chosen : (t : Bool) {x y : Refusal} → pick t fine (Err x) ≡ Err y → (t ≡ false) × (x ≡ y)
chosen true e = absurd (fine_bad e)
chosen false e = (refl, cc)

module _ (text : List ℕ) (at : ℕ) (content : List ℕ) where
  -- with the number and the place of the refusal x
  abbrev RefusedWith : ℕ → List ℕ → Refusal → Type 0
  RefusedWith depth name x = Refuses Faulty depth name at content (number_of x) (place_of x at)

  pub refuses : (es : List Entry) (x : Refusal) → check_of text content (line_of content) es ≡ Err x → RefusedWith (length es) (innermost text es) x
  refuses es x c = go (line_of content) refl (says 0 0 0 content) es c
    where
      same : {depth : ℕ} {name : List ℕ} {y : Refusal} → y ≡ x → RefusedWith depth name y → RefusedWith depth name x
      same {depth} {name} e r = subst (RefusedWith depth name) e r

      ordinary : {k : Line} → line_of content ≡ k → Ordinary k → Other content
      ordinary e o = other_of content (subst Ordinary (sym e) o)

      go : (k : Line) → line_of content ≡ k → Says 0 0 0 content k → (es : List Entry) → check_of text content k es ≡ Err x
          → RefusedWith (length es) (innermost text es) x
      go Empty e s es c = absurd (fine_bad c)
      go (Begin found) e s es c = let d = chosen (ltb (length es) deepest) c in same d.1 (too_deep s.1 (ltb-false (length es) deepest d.0))
      go BadBegin e s es c = let d : Refusal.BadBegin ≡ x = cc in same d (bad_begin s.1 s.2)
      go (End found) e s [] c = let d : Refusal.BadEnd ≡ x = cc in same d (none_open s.1 refl)
      go (End found) e s (o ∷ es) c =
          let d = chosen (names text (viewed content found.start found.len) o) c in
          same d.1
          (other_name s.1
          (λ q.
          false≢true
          (sym d.0
          ∙ ap (λ (a : Span). same_bytes (viewed content a.start a.len) (viewed text o.start o.len)) s.2
          ∙ ap (λ (l : List ℕ). same_bytes l (viewed text o.start o.len)) (closes_name s.1 ∙ q)
          ∙ same_refl (viewed text o.start o.len))))
      go (Content p) e s [] c = let d : Refusal.Outside ≡ x = cc in same d (outside (ordinary e tt) refl)
      go (Content p) e s (o ∷ es) c = absurd (fine_bad c)
      go (Bad fault) e s [] c = let d : Refusal.Outside ≡ x = cc in same d (outside (ordinary e tt) refl)
      go (Bad f) e s (o ∷ es) c = let d : Refusal.Line f ≡ x = cc in same d (no_property (ordinary e tt) (omega arith) (faulty content at f e))

  -- ---- and the other way round

  -- the check of a line, by what the line is read as
  check_as : (es : List Entry) {k : Line} {x : Refusal} → line_of content ≡ k → check_of text content k es ≡ Err x
      → check_of text content (line_of content) es ≡ Err x
  check_as es e c = ap (λ (k : Line). check_of text content k es) e ∙ c

  -- END where this is not the name of the innermost component
  end_refused : (es : List Entry) (rest : List ℕ) → Closes rest content → (0 < length es → rest ≡ innermost text es → ⊥)
      → check_of text content (line_of content) es ≡ Err Refusal.BadEnd
  end_refused [] rest m h = check_as [] (closes_read m) refl
  end_refused (e ∷ es) rest m h = check_as (e ∷ es) (closes_read m) (rw (closes_name m) (go (same_bytes rest (viewed text e.start e.len)) refl))
    where
      go : (t : Bool) → same_bytes rest (viewed text e.start e.len) ≡ t → pick t fine (Err Refusal.BadEnd) ≡ Err Refusal.BadEnd
      go true q = absurd (h (omega arith) (same_eq rest (viewed text e.start e.len) q))
      go false q = refl

  -- any other line outside
  outside_refused : (k : Line) → Ordinary k → check_of text content k [] ≡ Err Refusal.Outside
  outside_refused Empty o = absurd o
  outside_refused (Begin found) o = absurd o
  outside_refused BadBegin o = absurd o
  outside_refused (End found) o = absurd o
  outside_refused (Content p) o = refl
  outside_refused (Bad fault) o = refl

  -- and inside, with its fault
  inside_refused : (es : List Entry) (f : Fault) → 0 < length es → line_of content ≡ Bad f → check_of text content (line_of content) es ≡ Err (Refusal.Line f)
  inside_refused [] f some e = absurd (omega arith)
  inside_refused (o ∷ es) f some e = check_as (o ∷ es) e refl

  pub refused_by : {depth number place : ℕ} {name : List ℕ} → Refuses Faulty depth name at content number place
      → (es : List Entry) → length es ≡ depth → innermost text es ≡ name
      → (x : Refusal) × (check_of text content (line_of content) es ≡ Err x) × (number_of x ≡ number) × (place_of x at ≡ place)
  refused_by (bad_begin m h) es n i = (Refusal.BadBegin, check_as es (bad_begin_read m h) refl, refl, refl)
  refused_by (too_deep o d) es n i = (Refusal.TooDeep, check_as es (opens_read o) (rw (le-ltb (length es) deepest (omega arith))), refl, refl)
  refused_by (none_open {rest = rest} m d) es n i = (Refusal.BadEnd, end_refused es rest m (λ some q. omega arith), refl, refl)
  refused_by (other_name {rest = rest} m h) es n i = (Refusal.BadEnd, end_refused es rest m (λ some q. h (q ∙ i)), refl, refl)
  refused_by (outside o d) es n i = (Refusal.Outside, none es (n ∙ d), refl, refl)
    where
      none : (es : List Entry) → length es ≡ 0 → check_of text content (line_of content) es ≡ Err Refusal.Outside
      none [] z = outside_refused (line_of content) (of_other content o)
      none (e ∷ es) z = absurd (omega arith)
  refused_by (no_property o d w) es n i =
      let r = fault_read o w in
      (Refusal.Line r.fault, inside_refused es r.fault (omega arith) r.is, r.number_is, r.place_is)
