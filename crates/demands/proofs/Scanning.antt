-- The lines that trees are written as are read as what they are: a BEGIN, an END, or a property whose rows show it again (document 01, demand 2).
-- Assumes nothing.
use mathlib.Core.Path.{◌≡◌, refl, sym, ap, ◌∙◌}
use mathlib.Core.Bool.{Bool, true, false, not, ◌&&◌, ◌||◌, false≢true, or-true}
use mathlib.Core.List.{List, [], ◌∷◌, ◌++◌, map, append_assoc, append-nil}
use Prim.Native.Nat.{ℕ, suc, ◌+◌, ◌-◌, ◌≤◌, ◌<◌}
use native.Mathlib.Omega.{arith}
use lib.ListN.{length, get_or, drop, length-append, length-drop}
use lib.Seq.{take-length, take-append_seam, take-append-le, drop-append_seam, drop-append-le, drop-append-add, get_or-append_seam, get_or-append-add}
use lib.Dec.{eqb, leb, ltb}
use borrow.Author.Tests.{ltb-true, leb-true, eqb-true, eqb-false, lt-ltb, le-leb, eq-eqb, ne_eqb, not-true}
use Rattle.std.specs.Prelude.{Some}
use Rattle.octets.specs.Choice.{pick}
use Rattle.octets.specs.Bytes.{tab, lf, cr, space, quote, colon, semicolon, equals, blank, capital, key_byte, bare, lowered}
use Rattle.octets.specs.Runs.{run, only}
use Rattle.octets.specs.Words.{starts_word, begin_word, end_word}
use Rattle.octets.specs.Keys.{stops_at, stands_alone, reserved, key_of}
use Rattle.octets.specs.Views.{part, viewed}
use Rattle.octets.specs.All.{All}
use Rattle.octets.specs.declared.Span.{Span}
use Rattle.octets.proofs.Bools.{both, neither}
use Rattle.octets.proofs.Runs.{no_run, through, whole_head, whole_tail, whole_wider, all_of}
use Rattle.octets.proofs.Keys.{taken}
use Rattle.parameters.specs.Values.{span, ValueWithin}
use Rattle.parameters.specs.Parameter.{param, front_of}
use Rattle.parameters.specs.Parameters.{moved, value_moved, params_after, params_of, params_used, passed, passed_of}
use Rattle.parameters.specs.declared.Value as read
use Rattle.parameters.specs.declared.Value.TheVariants.{Absent, Present}
use Rattle.parameters.specs.declared.Param.{Param}
use Rattle.parameters.proofs.Laws.{front_none, found_inside}
use Rattle.parameters.proofs.Lists.{turn, stop}
use Rattle.parameters.proofs.RoundTrip.{Ends, reads_absent, absent_left}
use Rattle.lines.specs.Rule.{after_begin, after_end, line_of}
use Rattle.lines.specs.declared.Property as in_line
use Rattle.lines.specs.declared.Line.TheVariants.{Begin, End, Content}
use Rattle.lines.proofs.Rule.{begun, is_begin, is_end, is_other, valued}
use Rattle.tables.specs.Trees.{Value, absent, present, Parameter, Property, Trees, none, tree, parameter_of}
use Rattle.nesting.specs.Rows.{parameter_with, parameter_row, parameter_rows}
use Rattle.quoting.specs.Quoting.{wraps, quoted}
use Rattle.writable.specs.WritingRule.{name_fits, no_break, present_fits, value_fits}
use Rattle.printing.specs.Lines.{begin_line, end_line, value_text, parameter_text, parameters_text, property_line}
use Rattle.demands.specs.Writable.{Writable}
use Rattle.demands.specs.Returning.{lines_of, Plain, fit_parameter, FitProperty, Fit, Scanned}
use Rattle.demands.proofs.Quotes.{quoted_back}

-- ---- what fits

-- one key byte or more, and no other byte
record Keyed (name : List ℕ) : Type 0 where
  some : 0 < length name
  whole : run key_byte name ≡ length name

keyed : (name : List ℕ) → name_fits name ≡ true → Keyed name
keyed name h =
    let e = both (ltb 0 (length name)) _ h in
    record { some = ltb-true 0 (length name) e.0; whole = all_of key_byte name e.1 }

-- ---- BEGIN and END

-- the line of a name behind `BEGIN:` tells where the name stands
pub begin_line_holds : (name : List ℕ) → name_fits name ≡ true → line_of (begin_line name) ≡ Begin (span after_begin (length name))
unfolding starts_word
begin_line_holds name h =
    let k = keyed name h in
    let n : length (begin_line name) - after_begin ≡ length name = omega arith in
    is_begin (begin_line name) (λ z. omega arith) refl
    ∙ begun (begin_line name) (length name) true (sym k.whole) (rw (n, lt-ltb 0 (length name) k.some, eq-eqb (length name) (length name) refl))
    ∙ rw n

-- and so does the one behind `END:`
pub end_line_holds : (name : List ℕ) → name_fits name ≡ true → line_of (end_line name) ≡ End (span after_end (length name))
unfolding starts_word
end_line_holds name h =
    let n : length (end_line name) - after_end ≡ length name = omega arith in
    is_end (end_line name) (λ z. omega arith) refl refl ∙ rw n

-- ---- the key of a property line

-- in lower case it is neither `;` nor `:`
abbrev word_byte : ℕ → Bool
word_byte w = bare (lowered w)

-- behind the key stands `;` or `:`, or nothing: no word of such bytes begins there
no_word : (w : ℕ) (ws rest : List ℕ) → word_byte w ≡ true → Ends rest → starts_word (w ∷ ws) rest ≡ false
unfolding starts_word
no_word w ws [] b e = refl
no_word w ws (x ∷ rest) b e = rw (ne_eqb (lowered x) (lowered w) (λ q. false≢true (sym (lowered_ends x e) ∙ (ap bare q ∙ b))))
  where
    lowered_ends : (x : ℕ) → bare x ≡ false → bare (lowered x) ≡ false
    lowered_ends x h = go (eqb x semicolon) (eqb x colon) refl refl (ap not h)
      where
        go : (s t : Bool) → eqb x semicolon ≡ s → eqb x colon ≡ t → not (not (s || t)) ≡ true → bare (lowered x) ≡ false
        go true t f g q = ap (λ (y : ℕ). bare (lowered y)) (eqb-true x semicolon f)
        go false true f g q = ap (λ (y : ℕ). bare (lowered y)) (eqb-true x colon g)
        go false false f g q = absurd (false≢true q)

-- and a word that ends before it stands alone
stops_here : (rest : List ℕ) → Ends rest → stops_at 0 rest ≡ true
stops_here rest e = go (eqb (get_or rest 0 colon) semicolon) (eqb (get_or rest 0 colon) colon) (ap not e)
  where
    go : (s t : Bool) → not (not (s || t)) ≡ true → t || s ≡ true
    go true t q = or-true t
    go false true q = refl
    go false false q = q

-- so a word stands alone in the line where it stands alone in the key
alone_in : (word : List ℕ) → run word_byte word ≡ length word → (key rest : List ℕ) → Ends rest → stands_alone word (key ++ rest) ≡ stands_alone word key
unfolding starts_word
alone_in [] letters [] rest e = stops_here rest e
alone_in [] letters (x ∷ key) rest e = refl
alone_in (w ∷ ws) letters [] rest e = rw (no_word w ws rest (whole_head word_byte w ws letters) e)
alone_in (w ∷ ws) letters (x ∷ key) rest e = go (eqb (lowered x) (lowered w)) (alone_in ws (whole_tail word_byte w ws letters) key rest e)
  where
    go : (t : Bool) → stands_alone ws (key ++ rest) ≡ stands_alone ws key
        → (t && starts_word ws (key ++ rest)) && stops_at (length ws) (key ++ rest) ≡ (t && starts_word ws key) && stops_at (length ws) key
    go true ih = ih
    go false ih = refl

-- the line is reserved where its key is
pub reserved_in : (key rest : List ℕ) → Ends rest → reserved (key ++ rest) ≡ reserved key
unfolding run
reserved_in key rest e = rw (alone_in begin_word refl key rest e, alone_in end_word refl key rest e)

-- a word that does not stand alone has no colon behind it
pub no_mark : (word line : List ℕ) → stands_alone word line ≡ false → starts_word (word ++ colon ∷ []) line ≡ false
unfolding starts_word
no_mark [] [] e = refl
no_mark [] (x ∷ line) e = rw (ne_eqb (lowered x) colon (go (capital x) refl (eqb x colon) refl e))
  where
    go : (c : Bool) → capital x ≡ c → (t : Bool) → eqb x colon ≡ t → t || eqb x semicolon ≡ false → pick c (x + 32) x ≡ colon → ⊥
    go true p t f q z = omega (arith, leb-true 65 x (both (leb 65 x) _ p).0)
    go false p true f q z = false≢true (sym q)
    go false p false f q z = eqb-false x colon f z
no_mark (w ∷ ws) [] e = refl
no_mark (w ∷ ws) (x ∷ line) e = go (eqb (lowered x) (lowered w)) e (no_mark ws line)
  where
    go : (t : Bool) → (t && starts_word ws line) && stops_at (length ws) line ≡ false
        → (stands_alone ws line ≡ false → starts_word (ws ++ colon ∷ []) line ≡ false) → t && starts_word (ws ++ colon ∷ []) line ≡ false
    go true q ih = ih q
    go false q ih = refl

-- ---- a parameter, read in front of what follows it

-- the value is shown by its bytes, or absent as it was
abbrev Shown : List ℕ → read.Value → Value → Type 0
Shown rest Absent absent = Unit {0}
Shown rest Absent (present v) = ⊥
Shown rest (Present s) absent = ⊥
Shown rest (Present s) (present v) = part rest s.start s.len ≡ v

-- the parameter is read at the front of the rest, and what it leaves is the next
record ReadBack (rest : List ℕ) (p : Parameter) (next : List ℕ) (q : Param) : Type 0 where
  found : front_of rest ≡ Some q
  key : part rest q.key.start q.key.len ≡ p.key
  value : Shown rest q.value p.value
  left : drop q.used rest ≡ next

-- what the writing rule asks of a present value is enough to read it back
writable : (v : List ℕ) → present_fits v ≡ true → Writable v
writable v h =
    let e = both (ltb 0 (length v)) _ h in
    record { some = ltb-true 0 (length v) e.0; rule = (both (only no_break v) _ e.1).1 }

-- what is written of a parameter is read as that parameter
read_back : (k : List ℕ) (v : Value) → fit_parameter (record { key = k; value = v }) ≡ true → (next : List ℕ) → Ends next
    → (q : Param) × ReadBack (parameter_text (record { key = k; value = v }) ++ next) (record { key = k; value = v }) next q
read_back k absent h next e =
    let f = both (only key_byte k) _ h in
    let is : (k ++ []) ++ next ≡ k ++ next = rw append-nil in
    let l = absent_left k next in (
      param (span 1 (length k)) Absent (1 + length k),
      rw is (record { found = sym (reads_absent k (all_of key_byte k f.0) next e); key = l.0; value = tt; left = l.1 }),
    )
read_back k (present v) h next e =
    let f = both (only key_byte k) _ h in
    let b = quoted_back k (all_of key_byte k f.0) (writable v f.1) next e in
    let r = b.1 in (
      param (span 1 (length k)) (Present (span b.0 (length v))) (1 + length k + 1 + length (quoted v)),
      rw append_assoc (record { found = r.found; key = r.key; value = r.value; left = r.left }),
    )

-- ---- the parameters of a line, one behind the other

-- a part of a line, seen in a text that the line stands in
pub viewed_in : (before line after : List ℕ) (start len : ℕ) → start + len ≤ length line → viewed (before ++ (line ++ after)) (length before + start) len ≡ part line start len
viewed_in before line after start len h =
    let room : length before + start + len ≤ length (before ++ (line ++ after)) = simp length-append (omega arith) in
    rw (le-leb (length before + start + len) (length (before ++ (line ++ after))) room, drop-append-add before (line ++ after) start, drop-append-le start line after (omega arith))
    (take-append-le len (drop start line) after (omega (arith, length-drop start line)))

-- the row of a parameter shows the parameter, wherever the rest of the line stands in a text
module _ (before rest after : List ℕ) (number : ℕ) where
  abbrev text : List ℕ
  text = before ++ (rest ++ after)

  value_shown : (k : Span) (v : read.Value) (w : Value) → ValueWithin v (length rest) → Shown rest v w
      → parameter_of text (parameter_with number k (value_moved (length before) v)) ≡ record { key = viewed text k.start k.len; value = w }
  value_shown k Absent absent i s = refl
  value_shown k Absent (present w) i s = absurd s
  value_shown k (Present a) absent i s = absurd s
  value_shown k (Present a) (present w) i s =
      ap (λ (x : List ℕ). record { key = viewed text k.start k.len; value = present x }) (viewed_in before rest after a.start a.len i ∙ s)

  shown : {p : Parameter} {next : List ℕ} {q : Param} → ReadBack rest p next q → parameter_of text (parameter_row number (moved (length before) q)) ≡ p
  shown {p} {next} {q} r =
      let i = found_inside rest r.found in
      value_shown (span (length before + q.key.start) q.key.len) q.value p.value (wide q.value i.all i.value) r.value
      ∙ ap (λ (x : List ℕ). record { key = x; value = p.value }) (viewed_in before rest after q.key.start q.key.len (omega (arith, i.all, i.key)) ∙ r.key)
    where
      wide : {n : ℕ} (v : read.Value) → n ≤ length rest → ValueWithin v n → ValueWithin v (length rest)
      wide Absent h w = tt
      wide (Present a) h w = omega arith

abbrev FitParameters : List Parameter → Type 0
FitParameters ps = All (λ (p : Parameter). fit_parameter p ≡ true) ps

-- what stands behind the key of a property: the parameters, a colon and the value
abbrev behind_key : List Parameter → List ℕ → List ℕ
behind_key ps value = parameters_text ps ++ colon ∷ value

-- it begins with `;` or `:`, so with no byte of a class that has neither
behind_off : (class : ℕ → Bool) → class semicolon ≡ false → class colon ≡ false → (ps : List Parameter) (value : List ℕ)
    → class (get_or (behind_key ps value) 0 colon) ≡ false
unfolding parameters_text
behind_off class s c [] value = c
behind_off class s c (p ∷ ps) value = s

joined : {A : Type 0} {x y : A} {xs ys : List A} → x ≡ y → xs ≡ ys → x ∷ xs ≡ y ∷ ys
joined p q = cc

-- a parameter takes the bytes that it is written with
used_is : (p : Parameter) (next : List ℕ) {q : Param} → ReadBack (parameter_text p ++ next) p next q → q.used ≡ length (parameter_text p)
used_is p next {q} r =
    let i = found_inside (parameter_text p ++ next) r.found in
    omega (arith, i.all, ap length r.left, length-drop q.used (parameter_text p ++ next), length-append (parameter_text p) next)

module _ (value : List ℕ) where
  -- at the colon reading stops
  params_end : (at : ℕ) → params_after at 0 (colon ∷ value) ≡ []
  params_end at = stop at (colon ∷ value) (sym (front_none (colon ∷ value) (λ e. omega arith)))

  module _ (p : Parameter) (ps : List Parameter) (fits : fit_parameter p ≡ true) where
    first : (q : Param) × ReadBack (parameter_text p ++ behind_key ps value) p (behind_key ps value) q
    first = read_back p.key p.value fits (behind_key ps value) (behind_off bare refl refl ps value)

    -- the first parameter is read, and then those behind it
    params_on : (at : ℕ) → params_after at 0 (parameter_text p ++ behind_key ps value)
        ≡ moved at first.0 ∷ params_after (at + length (parameter_text p)) 0 (behind_key ps value)
    params_on at =
        turn at (parameter_text p ++ behind_key ps value) first.0 first.1.found ∙ rw (first.1.left, used_is p (behind_key ps value) first.1)

  -- all of them take the bytes that they are written with
  used_all : (ps : List Parameter) → FitParameters ps → (at : ℕ) → params_used (params_after at 0 (behind_key ps value)) ≡ length (parameters_text ps)
  unfolding All parameters_text params_used
  used_all [] fit at = rw (params_end at)
  used_all (p ∷ ps) (f, fit) at =
      rw (append_assoc (parameter_text p) (parameters_text ps) (colon ∷ value), params_on p ps f at)
      (omega (
        arith,
        used_is p (behind_key ps value) (first p ps f).1,
        used_all ps fit (at + length (parameter_text p)),
        length-append (parameter_text p) (parameters_text ps),
      ))

  -- and their rows show them
  shown_all : (ps : List Parameter) → FitParameters ps → (before after : List ℕ) (number : ℕ)
      → map (parameter_of (before ++ (behind_key ps value ++ after))) (map (parameter_row number) (params_after (length before) 0 (behind_key ps value))) ≡ ps
  unfolding All parameters_text
  shown_all [] fit before after number = rw (params_end (length before))
  shown_all (p ∷ ps) (f, fit) before after number =
      let t = parameter_text p in
      let b = behind_key ps value in
      let here = shown before (t ++ b) after number (first p ps f).1 in
      let regroup : (before ++ t) ++ (b ++ after) ≡ before ++ ((t ++ b) ++ after) = simp append_assoc in
      let later = rw (regroup, length-append before t) at (shown_all ps fit (before ++ t) after number) in
      ap (λ (xs : List ℕ). map (parameter_of (before ++ (xs ++ after))) (map (parameter_row number) (params_after (length before) 0 xs)))
      (append_assoc t (parameters_text ps) (colon ∷ value))
      ∙ rw (params_on p ps f (length before)) (joined here later)

-- ---- a property line

abbrev rest : Property → List ℕ
rest p = behind_key p.parameters p.value

-- the bytes of the key and of the parameters
abbrev size : Property → ℕ
size p = length p.key + length (parameters_text p.parameters)

-- what the line is read as
abbrev read_as : Property → in_line.Property
read_as p =
    record {
      key = span 0 (length p.key);
      parameters = length (params_of (rest p) 0);
      value = span (size p + 1) (length p.value);
    }

long : (p : Property) → length (property_line p) ≡ size p + 1 + length p.value
long p = omega (arith, length-append p.key (rest p), length-append (parameters_text p.parameters) (colon ∷ p.value))

named : (p : Property) → FitProperty p → Keyed p.key
named p fit = keyed p.key (both (name_fits p.key) _ fit.key).0

module _ (p : Property) (fit : FitProperty p) where
  off : (class : ℕ → Bool) → class semicolon ≡ false → class colon ≡ false → class (get_or (rest p) 0 colon) ≡ false
  off class s c = behind_off class s c p.parameters p.value

  -- the key is not reserved, so the line is no BEGIN and no END
  free : reserved (property_line p) ≡ false
  free = reserved_in p.key (rest p) (off bare refl refl) ∙ not-true (reserved p.key) (both (name_fits p.key) _ fit.key).1

  no_words : (stands_alone begin_word (property_line p) ≡ false) × (stands_alone end_word (property_line p) ≡ false)
  no_words = neither (stands_alone begin_word (property_line p)) free

  -- the key is the whole run of key bytes
  key_run : key_of (property_line p) ≡ Some (length p.key)
  key_run =
      let n : run key_byte (property_line p) ≡ length p.key =
      omega (arith, through key_byte p.key (rest p) (named p fit).whole, no_run key_byte (rest p) colon (off key_byte refl refl)) in
      taken (property_line p) free ∙ rw n

  params_passed : passed (length (params_of (rest p) 0)) (length (parameters_text p.parameters)) ≡ passed_of (drop (length p.key) (property_line p))
  params_passed = rw (drop-append_seam p.key (rest p), used_all p.value p.parameters fit.parameters 0)

  at_colon : get_or (property_line p) (size p) 0 ≡ colon
  at_colon =
      get_or-append-add p.key (rest p) (length (parameters_text p.parameters)) 0
      ∙ get_or-append_seam (parameters_text p.parameters) colon p.value 0

  -- so the line is a property, with the value behind the colon
  property_line_holds : line_of (property_line p) ≡ Content (read_as p)
  property_line_holds =
      let n : length (property_line p) - (size p + 1) ≡ length p.value = omega (arith, long p) in
      is_other (property_line p) (λ z. omega (arith, long p)) (no_mark begin_word (property_line p) no_words.0) (no_mark end_word (property_line p) no_words.1)
      ∙ valued (property_line p) (length p.key) (passed (length (params_of (rest p) 0)) (length (parameters_text p.parameters))) key_run
      (λ z. omega (arith, (named p fit).some)) params_passed (λ z. omega (arith, long p)) at_colon
      ∙ rw n

  -- where the key, the value and the parameters stand, be the line where it may
  key_found : (before after : List ℕ) → viewed (before ++ (property_line p ++ after)) (length before + 0) (length p.key) ≡ p.key
  key_found before after =
      viewed_in before (property_line p) after 0 (length p.key) (omega (arith, long p)) ∙ take-append_seam p.key (rest p)

  behind_colon : drop (size p + 1) (property_line p) ≡ p.value
  behind_colon =
      let n : size p + 1 ≡ length p.key + (length (parameters_text p.parameters) + 1) = omega arith in
      rw (n, drop-append-add p.key (rest p)) (drop-append-add (parameters_text p.parameters) (colon ∷ p.value) 1)

  value_found : (before after : List ℕ) → viewed (before ++ (property_line p ++ after)) (length before + (size p + 1)) (length p.value) ≡ p.value
  value_found before after =
      viewed_in before (property_line p) after (size p + 1) (length p.value) (omega (arith, long p)) ∙ rw behind_colon (take-length p.value)

  rows_found : (before after : List ℕ) (number : ℕ)
      → map (parameter_of (before ++ (property_line p ++ after))) (parameter_rows number (length before) (property_line p) (read_as p)) ≡ p.parameters
  rows_found before after number =
      let regroup : (before ++ p.key) ++ (rest p ++ after) ≡ before ++ (property_line p ++ after) = simp append_assoc in
      rw (drop-append_seam p.key (rest p)) (rw (regroup, length-append) at (shown_all p.value p.parameters fit.parameters (before ++ p.key) after number))

  -- a property that is written is read as a property, and the rows that its line adds show it again
  pub scanned : (q : in_line.Property) × Scanned p q
  scanned = (read_as p, record { line = property_line_holds; key = key_found; value = value_found; parameters = rows_found })

-- ---- every line is found again between others

-- a byte that is no key byte stands in no key
key_other : (b : ℕ) → key_byte b ≡ false → (x : ℕ) → key_byte x ≡ true → eqb x b ≡ false
key_other b off x h = ne_eqb x b (λ e. false≢true (sym off ∙ (sym (ap key_byte e) ∙ h)))

key_no_break : (x : ℕ) → key_byte x ≡ true → no_break x ≡ true
key_no_break x h = rw (key_other cr refl x h, key_other lf refl x h)

-- bytes without CR and LF
abbrev Free : List ℕ → Type 0
Free xs = run no_break xs ≡ length xs

free_key : (name : List ℕ) → run key_byte name ≡ length name → Free name
free_key name h = whole_wider key_byte no_break key_no_break name h

free_both : (xs ys : List ℕ) → Free xs → Free ys → Free (xs ++ ys)
free_both xs ys f g = omega (arith, through no_break xs ys f, length-append xs ys)

free_more : (x : ℕ) (xs : List ℕ) → no_break x ≡ true → Free xs → Free (x ∷ xs)
unfolding run
free_more x xs h f = rw h (ap suc f)

-- quoting adds nothing but quotes
free_quoted : (v : List ℕ) → Free v → Free (quoted v)
unfolding run
free_quoted v f = go (wraps v)
  where
    go : (t : Bool) → Free (pick t (quote ∷ (v ++ quote ∷ [])) v)
    go true = free_more quote (v ++ quote ∷ []) refl (free_both v (quote ∷ []) f (free_more quote [] refl refl))
    go false = f

free_value : (v : Value) → value_fits v ≡ true → Free (value_text v)
unfolding run
free_value absent h = refl
free_value (present v) h = free_more equals (quoted v) refl (free_quoted v (all_of no_break v (both (only no_break v) _ (both (ltb 0 (length v)) _ h).1).0))

free_parameters : (ps : List Parameter) → FitParameters ps → Free (parameters_text ps)
unfolding All parameters_text run
free_parameters [] fit = refl
free_parameters (p ∷ ps) (f, fit) =
    let e = both (only key_byte p.key) _ f in
    free_both (parameter_text p) (parameters_text ps)
    (free_more semicolon (p.key ++ value_text p.value) refl
    (free_both p.key (value_text p.value) (free_key p.key (all_of key_byte p.key e.0)) (free_value p.value e.1)))
    (free_parameters ps fit)

-- a line that begins with no blank is plain
plain : (x : ℕ) (xs : List ℕ) → blank x ≡ false → Free (x ∷ xs) → Plain (x ∷ xs)
plain x xs b f = record { some = omega arith; front = b; whole = le-leb (length (x ∷ xs)) (run no_break (x ∷ xs)) (omega arith) }

-- a word, a colon and a name
plain_mark : (w : ℕ) (ws name : List ℕ) → blank w ≡ false → Free (w ∷ ws) → name_fits name ≡ true → Plain ((w ∷ ws) ++ colon ∷ name)
plain_mark w ws name b f fits =
    plain w (ws ++ colon ∷ name) b (free_both (w ∷ ws) (colon ∷ name) f (free_more colon name refl (free_key name (keyed name fits).whole)))

-- the three kinds of lines
pub plain_begin : (name : List ℕ) → name_fits name ≡ true → Plain (begin_line name)
unfolding run
plain_begin name = plain_mark 66 (69 ∷ 71 ∷ 73 ∷ 78 ∷ []) name refl refl

pub plain_end : (name : List ℕ) → name_fits name ≡ true → Plain (end_line name)
unfolding run
plain_end name = plain_mark 69 (78 ∷ 68 ∷ []) name refl refl

-- a line that begins with a key: no key byte is a blank
plain_keyed : (key rest : List ℕ) → Keyed key → Free (key ++ rest) → Plain (key ++ rest)
plain_keyed [] rest k f = absurd (omega (arith, k.some))
plain_keyed (x ∷ key) rest k f =
    let h = whole_head key_byte x key k.whole in
    plain x (key ++ rest) (rw (key_other space refl x h, key_other tab refl x h)) f

pub plain_property : (p : Property) → FitProperty p → Plain (property_line p)
plain_property p fit =
    let k = named p fit in
    plain_keyed p.key (rest p) k
    (free_both p.key (rest p) (free_key p.key k.whole)
    (free_both (parameters_text p.parameters) (colon ∷ p.value) (free_parameters p.parameters fit.parameters)
    (free_more colon p.value refl (all_of no_break p.value fit.value))))

-- ---- all lines

all_both : {A : Type 0} (so : A → Type 0) (xs ys : List A) → All so xs → All so ys → All so (xs ++ ys)
unfolding All
all_both so [] ys p q = q
all_both so (x ∷ xs) ys (p, ps) q = (p, all_both so xs ys ps q)

-- what is so of each kind of line is so of every line of trees that fit the writing rule
module _ (so : List ℕ → Type 0) (begins : (name : List ℕ) → name_fits name ≡ true → so (begin_line name)) (ends : (name : List ℕ) → name_fits name ≡ true → so (end_line name))
    (holds : (p : Property) → FitProperty p → so (property_line p)) where
  each_property : (ps : List Property) → All FitProperty ps → All so (map property_line ps)
  unfolding All
  each_property [] fit = tt
  each_property (p ∷ ps) (f, fit) = (holds p f, each_property ps fit)

  pub each_line : (ts : Trees) → Fit ts → All so (lines_of ts)
  unfolding Fit lines_of All
  each_line none fit = tt
  each_line (tree name properties children rest) (n, ps, c, r) = (
    begins name n,
    all_both so (map property_line properties) (lines_of children ++ (end_line name ∷ lines_of rest)) (each_property properties ps)
        (all_both so (lines_of children) (end_line name ∷ lines_of rest) (each_line children c) (ends name n, each_line rest r)),
  )

pub plain_lines_holds : (ts : Trees) → Fit ts → All Plain (lines_of ts)
plain_lines_holds = each_line Plain plain_begin plain_end plain_property
