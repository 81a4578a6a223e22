-- A line says by the grammar what it is read as, and it is read as what it says. Assumes nothing.
use mathlib.Core.Path.{◌≡◌, refl, sym, ap, subst, ◌∙◌}
use mathlib.Core.Bool.{Bool, true, false, ◌&&◌, ◌||◌, false≢true}
use mathlib.Core.List.{List, [], ◌∷◌, ◌++◌, map}
use Prim.Native.Nat.{ℕ, ◌+◌, ◌-◌}
use native.Mathlib.Nat.{add-zero}
use native.Mathlib.Omega.{arith}
use lib.ListN.{length, get_or, drop, length-append}
use lib.Seq.{take-length, drop-append-add, drop-append_seam, get_or-append-add, get_or-append_seam}
use lib.Dec.{eqb, ltb}
use borrow.Author.Tests.{ltb-true, ltb-false, eqb-true, eqb-false, lt-ltb, le-leb, eq-eqb, ne_eqb}
use Rattle.std.specs.Prelude.{Some as Just, None}
use Rattle.octets.specs.Choice.{pick}
use Rattle.octets.specs.Bytes.{colon, capital, key_byte, lowered}
use Rattle.octets.specs.Runs.{run}
use Rattle.octets.specs.Words.{starts_word, begin_word, end_word}
use Rattle.octets.specs.Keys.{stands_alone, reserved, key_of}
use Rattle.octets.specs.Views.{part, viewed}
use Rattle.octets.proofs.Runs.{no_run, through}
use Rattle.octets.proofs.Keys.{taken, refused}
use Rattle.octets.proofs.Bools.{both, neither}
use Rattle.parameters.specs.Values.{span}
use Rattle.parameters.specs.Parameter.{front_of}
use Rattle.parameters.specs.Parameters.{params_after, params_of, params_used, passed, passed_of}
use Rattle.parameters.specs.declared.Passed.{Passed}
use Rattle.parameters.proofs.Laws.{front_none}
use Rattle.parameters.proofs.Lists.{used_moved}
use Rattle.parameters.proofs.RoundTrip.{Ends}
use Rattle.lines.specs.Rule.{begin_mark, end_mark, after_begin, after_end, begin_of, property, by_key, line_of}
use Rattle.lines.specs.declared.Property.{Property}
use Rattle.lines.specs.declared.Fault.TheVariants.{StrayByte}
use Rattle.lines.specs.declared.Line.{Line}
use Rattle.lines.specs.declared.Line.TheVariants.{Empty, Begin, BadBegin, End, Content, Bad}
use Rattle.lines.proofs.Rule.{begun, refused_key, empty_key, is_empty, is_begin, is_end, is_other, at_end, stray, valued as valued-line}
use Rattle.tables.specs.declared.PropertyRow.{PropertyRow}
use Rattle.tables.specs.declared.ParameterRow.{ParameterRow}
use Rattle.nesting.specs.Rows.{property_row, parameter_row, parameter_rows}
use Rattle.demands.specs.LineGrammar.{Every, Some, begin, end, AnyCase, as_capital, as_small, Marked, marked, Opens, Closes, Parameters, Tail, at_once, valued, PropertyLine, a_property_line}
use Rattle.demands.proofs.Scanning.{reserved_in, no_mark}
use Rattle.demands.proofs.SaidWords.{every_run, run_every, split, word_found, word_starts, word_length, colon_found, lowered_capital, lowered_small, word_alone, alone_word}
use Rattle.demands.proofs.SaidParameters.{found_all, ends_off, ends_behind, read_all}

-- ---- BEGIN and END

pub capitals_begin : Every capital begin
capitals_begin = (refl, (refl, (refl, (refl, (refl, tt)))))

pub capitals_end : Every capital end
capitals_end = (refl, (refl, (refl, tt)))

pub found_mark : (ws line : List ℕ) → Every capital ws → starts_word (ws ++ colon ∷ []) line ≡ true → (rest : List ℕ) × Marked ws rest line
found_mark ws line c h =
    let w = word_found ws (colon ∷ []) line c h in
    let n = colon_found w.0.rest w.1 in
    (n.0, subst (Marked ws n.0) (sym (w.0.is ∙ ap (λ (l : List ℕ). w.0.word ++ l) n.1)) (marked w.0.letters))

-- what stands behind the word and the colon
behind_mark : {ws rest line : List ℕ} → Marked ws rest line → drop (length ws + 1) line ≡ rest
behind_mark (marked {letters = letters} {rest = rest} a) = rw (← word_length a) (drop-append-add letters (colon ∷ rest) 1)

pub size_mark : {ws rest line : List ℕ} → Marked ws rest line → length line ≡ length ws + 1 + length rest
size_mark (marked {letters = letters} {rest = rest} a) = omega (arith, length-append letters (colon ∷ rest), word_length a)

-- the mark stands at the front
mark_starts : {ws rest line : List ℕ} → Every capital ws → Marked ws rest line → starts_word (ws ++ colon ∷ []) line ≡ true
unfolding starts_word
mark_starts c (marked {rest = rest} a) = word_starts (colon ∷ []) (colon ∷ rest) c a

rest_part : {ws rest line : List ℕ} → Marked ws rest line → part line (length ws + 1) (length rest) ≡ rest
rest_part {rest = rest} m = rw (behind_mark m) (take-length rest)

-- END in any case does not begin with the letter of BEGIN
other_word : {w : ℕ} {ws letters : List ℕ} (v : ℕ) (vs rest : List ℕ) → capital w ≡ true → (w + 32 ≡ lowered v → ⊥) → AnyCase (w ∷ ws) letters
    → starts_word (v ∷ vs) (letters ++ rest) ≡ false
unfolding starts_word
other_word {w} v vs rest c h (as_capital a) = rw (lowered_capital w c, ne_eqb (w + 32) (lowered v) h)
other_word {w} v vs rest c h (as_small a) = rw (lowered_small w c, ne_eqb (w + 32) (lowered v) h)

no_begin : {rest line : List ℕ} → Marked end rest line → starts_word begin_mark line ≡ false
no_begin (marked {rest = rest} a) = other_word 66 (69 ∷ 71 ∷ 73 ∷ 78 ∷ 58 ∷ []) (colon ∷ rest) refl (λ z. omega arith) a

-- a line with BEGIN is read by what stands behind it
pub begin_read : {rest line : List ℕ} → Marked begin rest line → line_of line ≡ begin_of line
begin_read {line = line} m = is_begin line (λ z. omega (arith, size_mark m)) (mark_starts capitals_begin m)

module _ {rest line : List ℕ} (m : Marked begin rest line) where
  name_size : length line - after_begin ≡ length rest
  name_size = omega (arith, size_mark m)

  name_run : run key_byte (drop after_begin line) ≡ run key_byte rest
  name_run = ap (run key_byte) (behind_mark m)

  -- a name: it opens a component
  opens_as : Some key_byte rest → line_of line ≡ Begin (span after_begin (length rest))
  opens_as s =
      begin_read m
      ∙ begun line (length rest) true (sym (name_run ∙ every_run key_byte rest s.every))
      (rw (name_size, lt-ltb 0 (length rest) s.some, eq-eqb (length rest) (length rest) refl))
      ∙ rw name_size

  -- no name
  pub bad_begin_read : (Some key_byte rest → ⊥) → line_of line ≡ BadBegin
  bad_begin_read h = begin_read m ∙ go (ltb 0 (length line - after_begin) && eqb (run key_byte (drop after_begin line)) (length line - after_begin)) refl
    where
      go : (t : Bool) → (ltb 0 (length line - after_begin) && eqb (run key_byte (drop after_begin line)) (length line - after_begin)) ≡ t
          → pick t (Begin (span after_begin (length line - after_begin))) BadBegin ≡ BadBegin
      go true e = absurd (h (named_by e))
        where
          named_by : (ltb 0 (length line - after_begin) && eqb (run key_byte (drop after_begin line)) (length line - after_begin)) ≡ true → Some key_byte rest
          named_by e =
              let b = both (ltb 0 (length line - after_begin)) _ e in
              let r = eqb-true (run key_byte (drop after_begin line)) (length line - after_begin) b.1 in
              record {
                some = omega (arith, name_size, ltb-true 0 (length line - after_begin) b.0);
                every = run_every key_byte rest (sym name_run ∙ r ∙ name_size);
              }
      go false e = refl

-- a line that opens a component is read as BEGIN
pub opens_read : {name line : List ℕ} → Opens name line → line_of line ≡ Begin (span after_begin (length name))
opens_read o = opens_as o.mark o.named

-- a line that closes one is read as END
pub closes_read : {name line : List ℕ} → Closes name line → line_of line ≡ End (span after_end (length name))
closes_read {name} {line} c =
    let n : length line - after_end ≡ length name = omega (arith, size_mark c) in
    is_end line (λ z. omega (arith, size_mark c)) (no_begin c) (mark_starts capitals_end c) ∙ rw n

-- the name is seen behind both
pub opens_name : {name line : List ℕ} → Opens name line → part line after_begin (length name) ≡ name
opens_name o = rest_part o.mark

pub closes_name : {name line : List ℕ} → Closes name line → viewed line after_end (length name) ≡ name
closes_name {name} {line} c = rw (le-leb (after_end + length name) (length line) (omega (arith, size_mark c))) (rest_part c)

-- ---- the key of a property line

-- it is the longest run of key bytes
pub key_size : (key rest : List ℕ) → Every key_byte key → key_byte (get_or rest 0 colon) ≡ false → run key_byte (key ++ rest) ≡ length key
key_size key rest k off = omega (arith, through key_byte key rest (every_run key_byte key k), no_run key_byte rest colon off)

module _ (key rest : List ℕ) (k : Every key_byte key) (ends : Ends rest) where
  -- the line is reserved where its key is BEGIN or END in any case
  free_key : reserved (key ++ rest) ≡ false → (AnyCase begin key → ⊥) × (AnyCase end key → ⊥)
  free_key h =
      let n = neither (stands_alone begin_word key) (sym (reserved_in key rest ends) ∙ h) in (
        λ a. false≢true (sym n.0 ∙ word_alone capitals_begin a),
        λ a. false≢true (sym n.1 ∙ word_alone capitals_end a),
      )

  key_free : (AnyCase begin key → ⊥) → (AnyCase end key → ⊥) → reserved (key ++ rest) ≡ false
  key_free b e = reserved_in key rest ends ∙ go (stands_alone begin_word key) (stands_alone end_word key) refl refl
    where
      go : (s t : Bool) → stands_alone begin_word key ≡ s → stands_alone end_word key ≡ t → s || t ≡ false
      go true t p q = absurd (b (alone_word begin key capitals_begin k p))
      go false true p q = absurd (e (alone_word end key capitals_end k q))
      go false false p q = refl

-- ---- the tail

tail_ends : {at v len : ℕ} {tail : List ℕ} → Tail at tail v len → Ends tail
tail_ends at_once = refl
tail_ends valued = refl

-- no parameter begins there
tail_front : {at v len : ℕ} {tail : List ℕ} → Tail at tail v len → front_of tail ≡ None
tail_front at_once = sym (front_none [] (λ z. omega arith))
tail_front (valued {value = value}) = sym (front_none (colon ∷ value) (λ z. omega arith))

-- seen from further in front
tail_moved : (start at at' : ℕ) {v len : ℕ} {tail : List ℕ} → at' ≡ start + at → Tail at tail v len → Tail at' tail (start + v) len
tail_moved start at at' e at_once = rw (← e) at_once
tail_moved start at at' e (valued {value = value}) =
    let n : start + (at + 1) ≡ at' + 1 = omega arith in
    rw n valued

tail_back : (start at at' : ℕ) {v len : ℕ} {tail : List ℕ} → at' ≡ start + at → Tail at' tail v len → (v' : ℕ) × Tail at tail v' len × (v ≡ start + v')
tail_back start at at' e at_once = (at, at_once, e)
tail_back start at at' e valued = (at + 1, valued, omega arith)

-- ---- what a key, parameters and a tail are read as

module _ (key text : List ℕ) (k : Some key_byte key) where
  -- what is found behind the key
  abbrev found_in : List ℕ → Passed
  found_in tail = passed (length (params_of (text ++ tail) 0)) (length text)

  size_line : (tail : List ℕ) → length (key ++ (text ++ tail)) ≡ length key + length text + length tail
  size_line tail = omega (arith, length-append key (text ++ tail), length-append text tail)

  module _ (tail : List ℕ) (free : reserved (key ++ (text ++ tail)) ≡ false) (off : key_byte (get_or (text ++ tail) 0 colon) ≡ false)
      (used : params_used (params_of (text ++ tail) 0) ≡ length text) where
    by_key_holds : line_of (key ++ (text ++ tail)) ≡ by_key (key_of (key ++ (text ++ tail))) (key ++ (text ++ tail))
    by_key_holds =
        let n = neither (stands_alone begin_word (key ++ (text ++ tail))) free in
        is_other (key ++ (text ++ tail)) (λ z. omega (arith, k.some, size_line tail))
        (no_mark begin_word (key ++ (text ++ tail)) n.0) (no_mark end_word (key ++ (text ++ tail)) n.1)

    key_run : key_of (key ++ (text ++ tail)) ≡ Just (length key)
    key_run = taken (key ++ (text ++ tail)) free ∙ ap Just (key_size key (text ++ tail) k.every off)

    some_key : length key ≡ 0 → ⊥
    some_key z = omega (arith, k.some)

    passed_key : found_in tail ≡ passed_of (drop (length key) (key ++ (text ++ tail)))
    passed_key = rw (drop-append_seam, used)

  behind_text : (x : ℕ) (value : List ℕ) → get_or (key ++ (text ++ x ∷ value)) (length key + length text) 0 ≡ x
  behind_text x value = get_or-append-add key (text ++ x ∷ value) (length text) 0 ∙ get_or-append_seam text x value 0

  -- the end or a colon: a property
  content : (tail : List ℕ) → reserved (key ++ (text ++ tail)) ≡ false → key_byte (get_or (text ++ tail) 0 colon) ≡ false → params_used (params_of (text ++ tail) 0) ≡ length text
      → {v len : ℕ} → Tail (length key + length text) tail v len
      → line_of (key ++ (text ++ tail)) ≡ property (length key) (length (params_of (text ++ tail) 0)) (span v len)
  content tail free off used at_once =
      by_key_holds [] free off used
      ∙ at_end (key ++ (text ++ [])) (length key) (found_in []) (key_run [] free off used) (some_key [] free off used) (passed_key [] free off used)
      (omega (arith, size_line []))
  content tail free off used (valued {value = value}) =
      let t : List ℕ = colon ∷ value in
      let n : length (key ++ (text ++ colon ∷ value)) - (length key + length text + 1) ≡ length value = omega (arith, size_line (colon ∷ value)) in
      by_key_holds t free off used
      ∙ valued-line (key ++ (text ++ t)) (length key) (found_in t) (key_run t free off used) (some_key t free off used) (passed_key t free off used)
      (λ z. omega (arith, size_line (colon ∷ value))) (behind_text colon value)
      ∙ rw n

  -- any other byte: none
  no_content : (x : ℕ) (value : List ℕ) → (x ≡ colon → ⊥) → reserved (key ++ (text ++ x ∷ value)) ≡ false → key_byte (get_or (text ++ x ∷ value) 0 colon) ≡ false
      → params_used (params_of (text ++ x ∷ value) 0) ≡ length text → line_of (key ++ (text ++ x ∷ value)) ≡ Bad (StrayByte (length key + length text))
  no_content x value other free off used =
      let t : List ℕ = x ∷ value in
      by_key_holds t free off used
      ∙ stray (key ++ (text ++ t)) (length key) (found_in t) (key_run t free off used) (some_key t free off used) (passed_key t free off used)
      (λ z. omega (arith, size_line (x ∷ value))) (λ q. other (sym (behind_text x value) ∙ q))

-- ---- a property line

module _ (start owner number : ℕ) where
  -- what the line is read as, and its rows
  pub record ReadAs (line : List ℕ) (row : PropertyRow) (rows : List ParameterRow) (p : Property) : Type 0 where
    pub line_is : line_of line ≡ Content p
    pub row_is : row ≡ property_row owner start p
    pub rows_are : rows ≡ parameter_rows number start line p

  -- a property line of the grammar is read as a property with its rows
  pub property_read : {line : List ℕ} {row : PropertyRow} {rows : List ParameterRow} → PropertyLine start owner number line row rows
      → (p : Property) × ReadAs line row rows p
  property_read (a_property_line {key = key} {parameters = text} {tail = tail} {rows = rows} {value = value} {len = len} k b e ps t) =
      let back = tail_back start (length key + length text) (start + length key + length text) (omega arith) t in
      let ends : Ends (text ++ tail) = ends_behind ps (tail_ends t) in
      let all = read_all ps (tail_front t) (tail_ends t) in
      let used : params_used (params_of (text ++ tail) 0) ≡ length text = sym (used_moved (start + length key) (text ++ tail)) ∙ all.size in
      let zero : start ≡ start + 0 = omega arith in (
        record { key = span 0 (length key); parameters = length (params_of (text ++ tail) 0); value = span back.0 len },
        record {
          line_is =
              content key text k tail (key_free key (text ++ tail) k.every ends b e) (ends_off key_byte refl refl (get_or (text ++ tail) 0 colon) ends) used back.1;
          row_is = row_at owner (length key) len zero back.2;
          rows_are = all.rows_are ∙ rw drop-append_seam;
        },
      )
    where
      row_at : (owner size len : ℕ) {key key' value value' : ℕ} → key ≡ key' → value ≡ value'
          → ◌≡◌ {A = PropertyRow} (record { owner = owner; key_start = key; key_len = size; value_start = value; value_len = len })
          (record { owner = owner; key_start = key'; key_len = size; value_start = value'; value_len = len })
      row_at owner size len p q = cc

-- ---- and the other way round: what a line is read as, it says

abbrev pub Says : ℕ → ℕ → ℕ → List ℕ → Line → Type 0
Says start owner number line Empty = line ≡ []
Says start owner number line (Begin found) = (name : List ℕ) × Opens name line × (found ≡ span after_begin (length name))
Says start owner number line BadBegin = (rest : List ℕ) × Marked begin rest line × (Some key_byte rest → ⊥)
Says start owner number line (End found) = (name : List ℕ) × Closes name line × (found ≡ span after_end (length name))
Says start owner number line (Content p) = PropertyLine start owner number line (property_row owner start p) (parameter_rows number start line p)
Says start owner number line (Bad fault) = Unit {0}

module _ (start owner number : ℕ) where
  begin_says : (line : List ℕ) → starts_word begin_mark line ≡ true → Says start owner number line (line_of line)
  begin_says line h = go (found_mark begin line capitals_begin h)
    where
      go : (rest : List ℕ) × Marked begin rest line → Says start owner number line (line_of line)
      go (rest, m) = by (ltb 0 (length rest)) (eqb (run key_byte rest) (length rest)) refl refl
        where
          no_name : (Some key_byte rest → ⊥) → Says start owner number line (line_of line)
          no_name n = subst (Says start owner number line) (sym (bad_begin_read m n)) (rest, m, n)

          by : (s t : Bool) → ltb 0 (length rest) ≡ s → eqb (run key_byte rest) (length rest) ≡ t → Says start owner number line (line_of line)
          by true true p q =
              let named : Some key_byte rest =
              record { some = ltb-true 0 (length rest) p; every = run_every key_byte rest (eqb-true (run key_byte rest) (length rest) q) } in
              let o : Opens rest line = record { mark = m; named = named } in
              subst (Says start owner number line) (sym (opens_read o)) (rest, o, refl)
          by true false p q = no_name (λ n. eqb-false (run key_byte rest) (length rest) q (every_run key_byte rest n.every))
          by false t p q = no_name (λ n. omega (arith, n.some, ltb-false 0 (length rest) p))

  end_says : (line : List ℕ) → starts_word end_mark line ≡ true → Says start owner number line (line_of line)
  end_says line h =
      let m = found_mark end line capitals_end h in
      subst (Says start owner number line) (sym (closes_read m.1)) (m.0, m.1, refl)

  module _ (key text : List ℕ) (k : Some key_byte key) where
    abbrev rows_of : List ℕ → List ParameterRow
    rows_of tail = map (parameter_row number) (params_after (start + length key) 0 (text ++ tail))

    property_says : (tail : List ℕ) → key_byte (get_or (text ++ tail) 0 colon) ≡ false → reserved (key ++ (text ++ tail)) ≡ false
        → params_used (params_of (text ++ tail) 0) ≡ length text → Parameters number tail (start + length key) text (rows_of tail)
        → {v len : ℕ} → Tail (length key + length text) tail v len
        → Says start owner number (key ++ (text ++ tail)) (line_of (key ++ (text ++ tail)))
    property_says tail off free used ps t =
        let f = free_key key (text ++ tail) k.every (ends_behind ps (tail_ends t)) free in
        subst (Says start owner number (key ++ (text ++ tail))) (sym (content key text k tail free off used t))
        (rw (drop-append_seam, add-zero start)
        (a_property_line k f.0 f.1 ps (tail_moved start (length key + length text) (start + length key + length text) (omega arith) t)))

    text_says : (tail : List ℕ) → key_byte (get_or (text ++ tail) 0 colon) ≡ false → reserved (key ++ (text ++ tail)) ≡ false
        → params_used (params_of (text ++ tail) 0) ≡ length text → Parameters number tail (start + length key) text (rows_of tail)
        → Says start owner number (key ++ (text ++ tail)) (line_of (key ++ (text ++ tail)))
    text_says [] off free used ps = property_says [] off free used ps at_once
    text_says (x ∷ value) off free used ps = go (eqb x colon) refl
      where
        go : (t : Bool) → eqb x colon ≡ t → Says start owner number (key ++ (text ++ x ∷ value)) (line_of (key ++ (text ++ x ∷ value)))
        go true e =
            let t : Tail (length key + length text) (x ∷ value) (length key + length text + 1) (length value) = rw (eqb-true x colon e) valued in
            property_says (x ∷ value) off free used ps t
        go false e = subst (Says start owner number (key ++ (text ++ x ∷ value))) (sym (no_content key text k x value (eqb-false x colon e) free off used)) tt

  key_says : (line : List ℕ) → reserved line ≡ false → (run key_byte line ≡ 0 → ⊥) → Says start owner number line (line_of line)
  key_says line free some =
      let s = split key_byte colon refl line in
      let f = found_all (length s.back) number (start + length s.front) s.back (omega arith) in
      let is : line ≡ s.front ++ (f.text ++ f.tail) = s.is ∙ ap (λ (l : List ℕ). s.front ++ l) f.is in
      let used : params_used (params_of s.back 0) ≡ length f.text = sym (used_moved (start + length s.front) s.back) ∙ f.size in
      subst (λ (l : List ℕ). Says start owner number l (line_of l)) (sym is)
      (text_says s.front f.text (record { some = omega (arith, s.size); every = s.every }) f.tail
      (ap (λ (l : List ℕ). key_byte (get_or l 0 colon)) (sym f.is) ∙ s.stops)
      (ap reserved (sym is) ∙ free)
      (ap (λ (l : List ℕ). params_used (params_of l 0)) (sym f.is) ∙ used)
      (subst (λ (l : List ℕ). Parameters number f.tail (start + length s.front) f.text (map (parameter_row number) (params_after (start + length s.front) 0 l)))
      f.is f.parameters))

  pub says : (line : List ℕ) → Says start owner number line (line_of line)
  says line = go (eqb (length line) 0) (starts_word begin_mark line) (starts_word end_mark line) (reserved line) (eqb (run key_byte line) 0) refl refl refl refl refl
    where
      nothing : (l : List ℕ) → length l ≡ 0 → l ≡ []
      nothing [] e = refl
      nothing (x ∷ l) e = absurd (omega arith)

      go : (t b e r n : Bool) → eqb (length line) 0 ≡ t → starts_word begin_mark line ≡ b → starts_word end_mark line ≡ e → reserved line ≡ r → eqb (run key_byte line) 0 ≡ n
          → Says start owner number line (line_of line)
      go true b e r n p q u v w =
          let z = eqb-true (length line) 0 p in
          subst (Says start owner number line) (sym (is_empty line z)) (nothing line z)
      go false true e r n p q u v w = begin_says line q
      go false false true r n p q u v w = end_says line u
      go false false false true n p q u v w =
          subst (Says start owner number line) (sym (is_other line (eqb-false (length line) 0 p) q u ∙ refused_key line (refused line v))) tt
      go false false false false true p q u v w =
          subst (Says start owner number line)
          (sym (is_other line (eqb-false (length line) 0 p) q u ∙ empty_key line (run key_byte line) (taken line v) (eqb-true (run key_byte line) 0 w))) tt
      go false false false false false p q u v w = key_says line v (eqb-false (run key_byte line) 0 w)
