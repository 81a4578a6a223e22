-- A line that is no property has by the grammar the fault that it is read with, and it is read with the fault that it has. Assumes nothing.
use mathlib.Core.Path.{◌≡◌, refl, sym, ap, subst, ◌∙◌}
use mathlib.Core.Bool.{Bool, true, false, ◌&&◌, ◌||◌, or-true, false≢true}
use mathlib.Core.List.{List, [], ◌∷◌, ◌++◌, append-nil, append_assoc}
use mathlib.Core.Logic.{◌⊎◌, inl, inr, ⊎_elim}
use Prim.Native.Nat.{ℕ, ◌+◌, ◌-◌, ◌≤◌}
use native.Mathlib.Omega.{arith}
use lib.ListN.{length, get_or, drop, length-append}
use lib.Seq.{get_or-append-add, get_or-append_seam}
use lib.Dec.{eqb, ltb}
use borrow.Author.Tests.{eqb-true, eqb-false}
use Rattle.std.specs.Prelude.{Some, None}
use Rattle.octets.specs.Choice.{pick}
use Rattle.octets.specs.Bytes.{colon, semicolon, capital, key_byte}
use Rattle.octets.specs.Runs.{run}
use Rattle.octets.specs.Words.{starts_word, begin_word, end_word}
use Rattle.octets.specs.Keys.{stops_at, stands_alone, reserved, key_of}
use Rattle.octets.proofs.Runs.{no_run, stopped, through}
use Rattle.octets.proofs.Keys.{taken, refused}
use Rattle.octets.proofs.Bools.{both}
use Rattle.parameters.specs.Values.{span}
use Rattle.parameters.specs.Parameter.{front_of}
use Rattle.parameters.specs.Parameters.{passed_of}
use Rattle.parameters.proofs.RoundTrip.{Ends}
use Rattle.lines.specs.Rule.{begin_mark, end_mark, after_begin, by_key, line_of}
use Rattle.lines.specs.declared.Fault.{Fault}
use Rattle.lines.specs.declared.Fault.TheVariants.{ReservedKey, EmptyKey, StrayByte}
use Rattle.lines.specs.declared.Line.TheVariants.{Begin, BadBegin, Bad}
use Rattle.lines.proofs.Rule.{refused_key, empty_key, is_empty, is_begin, is_end, is_other, at_end, stray, valued}
use Rattle.reading.specs.Answers.{fault_number, fault_place}
use Rattle.demands.specs.LineGrammar.{Every, begin, end, AnyCase, as_capital, as_small, Marked}
use Rattle.demands.specs.LineFaults.{Stops, at_colon, at_semicolon, at_end as at_line_end, ReservedLine, begin_key, end_key, Keyed, key_parameters}
use Rattle.demands.specs.LineFaults.{Stray, Faulty, reserved_key, empty_key as no_key, a_stray_byte}
use Rattle.demands.specs.GrammarRefusals.{Other}
use Rattle.demands.proofs.Scanning.{reserved_in}
use Rattle.demands.proofs.SaidWords.{every_run, Word, word_found, word_length, word_alone}
use Rattle.demands.proofs.SaidLines.{capitals_begin, capitals_end, found_mark}
use Rattle.demands.proofs.SaidFronts.{keyed_reaches, FrontOf, front_of_holds}

-- ---- a reserved key

-- `:`, `;` or the end
stops_of : (rest : List ℕ) → stops_at 0 rest ≡ true → Stops rest
stops_of [] e = at_line_end
stops_of (x ∷ rest) e = go (eqb x colon) (eqb x semicolon) refl refl e
  where
    go : (s t : Bool) → eqb x colon ≡ s → eqb x semicolon ≡ t → s || t ≡ true → Stops (x ∷ rest)
    go true t p q e = rw (eqb-true x colon p) at_colon
    go false true p q e = rw (eqb-true x semicolon q) at_semicolon
    go false false p q e = absurd (false≢true e)

stops_end : {rest : List ℕ} → Stops rest → Ends rest
stops_end at_line_end = refl
stops_end at_colon = refl
stops_end at_semicolon = refl

-- where a word of capitals stands alone, its letters stand before one of these
alone_found : (ws line : List ℕ) → Every capital ws → stands_alone ws line ≡ true → (w : Word ws line) × Stops w.rest
alone_found ws line c e =
    let b = both (starts_word ws line) _ e in
    let w = (word_found ws [] line c (rw append-nil b.0)).0 in
    let behind : get_or line (length ws) colon ≡ get_or w.rest 0 colon =
    ap (λ (l : List ℕ). get_or l (length ws) colon) w.is
    ∙ ap (λ (n : ℕ). get_or (w.word ++ w.rest) n colon) (omega (arith, word_length w.letters))
    ∙ get_or-append-add w.word w.rest 0 colon in
    (w, stops_of w.rest (rw behind at b.1))

reserved_said : (line : List ℕ) → reserved line ≡ true → ReservedLine line
reserved_said line e = go (stands_alone begin_word line) (stands_alone end_word line) refl refl e
  where
    go : (s t : Bool) → stands_alone begin_word line ≡ s → stands_alone end_word line ≡ t → s || t ≡ true → ReservedLine line
    go true t p q e = let w = alone_found begin line capitals_begin p in subst ReservedLine (sym w.0.is) (begin_key w.0.letters w.1)
    go false true p q e = let w = alone_found end line capitals_end q in subst ReservedLine (sym w.0.is) (end_key w.0.letters w.1)
    go false false p q e = absurd (false≢true e)

said_reserved : {line : List ℕ} → ReservedLine line → reserved line ≡ true
said_reserved (begin_key {key = key} {rest = rest} a s) = reserved_in key rest (stops_end s) ∙ rw (word_alone capitals_begin a)
said_reserved (end_key {key = key} {rest = rest} a s) = reserved_in key rest (stops_end s) ∙ rw (word_alone capitals_end a) (or-true (stands_alone begin_word key))

-- a test that is not met fails
fails : (t : Bool) → (t ≡ true → ⊥) → t ≡ false
fails true h = absurd (h refl)
fails false h = refl

-- the tests of 17 and of the others part
free : (line : List ℕ) → (ReservedLine line → ⊥) → reserved line ≡ false
free line h = fails (reserved line) (λ e. h (reserved_said line e))

not_free : {line : List ℕ} → reserved line ≡ false → ReservedLine line → ⊥
not_free e r = false≢true (sym e ∙ said_reserved r)

-- a reserved line has a key: no line could tell whether 17 or 7 is tested first
pub reserved_has_key : {byte : ℕ} {rest : List ℕ} → ReservedLine (byte ∷ rest) → key_byte byte ≡ true
reserved_has_key {byte} {rest} r = go r refl
  where
    first : {w : ℕ} {ws key : List ℕ} → capital w ≡ true → AnyCase (w ∷ ws) key → (behind : List ℕ) → key ++ behind ≡ byte ∷ rest → (byte ≡ w) ⊎ (byte ≡ w + 32)
    first c (as_capital a) behind e = inl cc
    first c (as_small a) behind e = inr cc

    go : {line : List ℕ} → ReservedLine line → line ≡ byte ∷ rest → key_byte byte ≡ true
    go (begin_key {rest = behind} a s) e = ⊎_elim (λ q. ap key_byte q) (λ q. ap key_byte q) (first refl a behind e)
    go (end_key {rest = behind} a s) e = ⊎_elim (λ q. ap key_byte q) (λ q. ap key_byte q) (first refl a behind e)

-- ---- from the reading to the grammar

-- where no parameter begins there is no `;`
none_begins : (byte : ℕ) (rest : List ℕ) → front_of (byte ∷ rest) ≡ None → byte ≡ semicolon → ⊥
unfolding front_of
none_begins byte rest e q =
    let f : front_of (semicolon ∷ rest) ≡ None = rw q at e in
    let z : ◌≡◌ {A = ℕ} 0 1 = cc in
    omega arith

module _ (line : List ℕ) where
  -- where the reading of key and parameters ends
  abbrev stop : ℕ
  stop = run key_byte line + (passed_of (drop (run key_byte line) line)).used

  -- it is where the longest front of the line that is key and parameters ends
  no_longer : (longer behind : List ℕ) → line ≡ longer ++ behind → Keyed longer → length longer ≤ stop
  no_longer longer behind e k =
      subst (λ (l : List ℕ). length longer ≤ run key_byte l + (passed_of (drop (run key_byte l) l)).used) (sym e) (keyed_reaches k behind)

  stray_said : (run key_byte line ≡ 0 → ⊥) → (stop ≡ length line → ⊥) → (get_or line stop 0 ≡ colon → ⊥) → (front : List ℕ) × Stray front line × (length front ≡ stop)
  stray_said some short other = go w.rest w.is w.no_more
    where
      w : FrontOf line
      w = front_of_holds line some

      go : (rest : List ℕ) → line ≡ w.front ++ rest → front_of rest ≡ None → (front : List ℕ) × Stray front line × (length front ≡ stop)
      go [] is none = absurd (short (omega (arith, w.size, ap length is, length-append w.front [])))
      go (byte ∷ rest) is none =
          let here : get_or line stop 0 ≡ byte =
          ap (λ (l : List ℕ). get_or l stop 0) is ∙ ap (λ (n : ℕ). get_or (w.front ++ byte ∷ rest) n 0) (sym w.size) ∙ get_or-append_seam w.front byte rest 0 in (
            w.front,
            record {
              byte = byte;
              rest = rest;
              is = is;
              keyed = w.keyed;
              longest = λ longer behind e l. omega (arith, w.size, no_longer longer behind e l);
              no_colon = λ q. other (here ∙ q);
              no_semicolon = none_begins byte rest none;
            },
            w.size,
          )

  module _ (at : ℕ) (f : Fault) where
    abbrev Said : Type 0
    Said = Faulty at line (fault_number f) (fault_place f at)

    -- the same fault
    said_as : {g : Fault} → g ≡ f → Faulty at line (fault_number g) (fault_place g at) → Said
    said_as e w = subst (λ (g : Fault). Faulty at line (fault_number g) (fault_place g at)) e w

    -- by its key
    key_faulty : (length line ≡ 0 → ⊥) → by_key (key_of line) line ≡ Bad f → Said
    key_faulty some e = go (reserved line) (eqb (run key_byte line) 0) (eqb stop (length line)) (eqb (get_or line stop 0) colon) refl refl refl refl
      where
        go : (r n t c : Bool) → reserved line ≡ r → eqb (run key_byte line) 0 ≡ n → eqb stop (length line) ≡ t → eqb (get_or line stop 0) colon ≡ c → Said
        go true n t c p q u v = let d = refused_key line (refused line p) in let same : ReservedKey ≡ f = cc in said_as same (reserved_key (reserved_said line p))
        go false true t c p q u v =
            let d = empty_key line (run key_byte line) (taken line p) (eqb-true (run key_byte line) 0 q) in
            let same : EmptyKey ≡ f = cc in
            said_as same (nothing line some (eqb-true (run key_byte line) 0 q) (not_free p))
          where
            nothing : (l : List ℕ) → (length l ≡ 0 → ⊥) → run key_byte l ≡ 0 → (ReservedLine l → ⊥) → Faulty at l 7 at
            nothing [] some z h = absurd (some refl)
            nothing (x ∷ l) some z h = no_key h (rw z at (stopped key_byte (x ∷ l) (omega arith)))
        go false false true c p q u v =
            let d = at_end line (run key_byte line) (passed_of (drop (run key_byte line) line)) (taken line p) (eqb-false (run key_byte line) 0 q) refl (eqb-true stop (length line) u) in
            absurd (let z : ◌≡◌ {A = ℕ} 0 1 = cc in omega arith)
        go false false false true p q u v =
            let d = valued line (run key_byte line) (passed_of (drop (run key_byte line) line)) (taken line p) (eqb-false (run key_byte line) 0 q) refl
            (eqb-false stop (length line) u) (eqb-true (get_or line stop 0) colon v) in
            absurd (let z : ◌≡◌ {A = ℕ} 0 1 = cc in omega arith)
        go false false false false p q u v =
            let some = eqb-false (run key_byte line) 0 q in
            let short = eqb-false stop (length line) u in
            let other = eqb-false (get_or line stop 0) colon v in
            let d = stray line (run key_byte line) (passed_of (drop (run key_byte line) line)) (taken line p) some refl short other in
            let same : StrayByte stop ≡ f = cc in
            let w = stray_said some short other in
            said_as same (rw (← w.2) (a_stray_byte (not_free p) w.1))

    -- a line that is read with a fault has it by the grammar
    pub faulty : line_of line ≡ Bad f → Said
    faulty e = go (eqb (length line) 0) (starts_word begin_mark line) (starts_word end_mark line) refl refl refl
      where
        named : Bool
        named = ltb 0 (length line - after_begin) && eqb (run key_byte (drop after_begin line)) (length line - after_begin)

        begun : (t : Bool) → pick t (Begin (span after_begin (length line - after_begin))) BadBegin ≡ Bad f → ⊥
        begun true e = let z : ◌≡◌ {A = ℕ} 0 1 = cc in omega arith
        begun false e = let z : ◌≡◌ {A = ℕ} 0 1 = cc in omega arith

        go : (t b m : Bool) → eqb (length line) 0 ≡ t → starts_word begin_mark line ≡ b → starts_word end_mark line ≡ m → Said
        go true b m p q u = let d = is_empty line (eqb-true (length line) 0 p) in absurd (let z : ◌≡◌ {A = ℕ} 0 1 = cc in omega arith)
        go false true m p q u = absurd (begun named (sym (is_begin line (eqb-false (length line) 0 p) q) ∙ e))
        go false false true p q u = let d = is_end line (eqb-false (length line) 0 p) q u in absurd (let z : ◌≡◌ {A = ℕ} 0 1 = cc in omega arith)
        go false false false p q u = let some = eqb-false (length line) 0 p in key_faulty some (sym (is_other line some q u) ∙ e)

-- ---- and the other way round

module _ {line : List ℕ} (o : Other line) where
  some_bytes : length line ≡ 0 → ⊥
  some_bytes z = omega (arith, o.some)

  -- it begins with neither mark
  unmarked : {ws : List ℕ} → Every capital ws → ((rest : List ℕ) → Marked ws rest line → ⊥) → starts_word (ws ++ colon ∷ []) line ≡ false
  unmarked {ws} c h = fails (starts_word (ws ++ colon ∷ []) line) (λ e. let m = found_mark ws line c e in h m.0 m.1)

  by_key_holds : line_of line ≡ by_key (key_of line) line
  by_key_holds = is_other line some_bytes (unmarked capitals_begin o.no_begin) (unmarked capitals_end o.no_end)

-- the fault that it is read with, its number and its place
pub record FaultRead (at : ℕ) (line : List ℕ) (number place : ℕ) : Type 0 where
  pub fault : Fault
  pub is : line_of line ≡ Bad fault
  pub number_is : fault_number fault ≡ number
  pub place_is : fault_place fault at ≡ place

-- a line that has a fault by the grammar is read with it
pub fault_read : {at number place : ℕ} {line : List ℕ} → Other line → Faulty at line number place → FaultRead at line number place
fault_read {line = line} o (reserved_key r) =
    record { fault = ReservedKey; is = by_key_holds o ∙ refused_key line (refused line (said_reserved r)); number_is = refl; place_is = refl }
fault_read {line = line} o (no_key h off) =
    record { fault = EmptyKey; is = by_key_holds o ∙ empty_key line 0 (taken line (free line h) ∙ ap Some (no_run key_byte line colon off)) refl; number_is = refl; place_is = refl }
fault_read {at} {line = line} o (a_stray_byte {front = front} h s) =
    record {
      fault = StrayByte (stop line);
      is = by_key_holds o ∙ stray line (run key_byte line) (passed_of (drop (run key_byte line) line)) (taken line (free line h)) some refl short other;
      number_is = refl;
      place_is = ap (◌+◌ at) ends;
    }
  where
    some : run key_byte line ≡ 0 → ⊥
    some z = has_key s.keyed s.is
      where
        has_key : {front : List ℕ} → Keyed front → line ≡ front ++ s.byte ∷ s.rest → ⊥
        has_key (key_parameters {key = key} {parameters = text} k ps) e =
            omega (
              arith,
              k.some,
              ap (run key_byte) (e ∙ append_assoc key text (s.byte ∷ s.rest)),
              through key_byte key (text ++ s.byte ∷ s.rest) (every_run key_byte key k.every),
            )

    -- the longest front ends where the reading does
    ends : stop line ≡ length front
    ends =
        let w = front_of_holds line some in
        omega (arith, no_longer line front (s.byte ∷ s.rest) s.is s.keyed, s.longest w.front w.rest w.is w.keyed, w.size)

    short : stop line ≡ length line → ⊥
    short z = omega (arith, ends, ap length s.is, length-append front (s.byte ∷ s.rest))

    other : get_or line (stop line) 0 ≡ colon → ⊥
    other q =
        s.no_colon
        (sym (ap (λ (l : List ℕ). get_or l (stop line) 0) s.is ∙ ap (λ (n : ℕ). get_or (front ++ s.byte ∷ s.rest) n 0) ends ∙ get_or-append_seam front s.byte s.rest 0) ∙ q)
