-- Lines that are read one after the other are nested by the grammar, and the other way round, with the same rows. Assumes nothing.
use mathlib.Core.Path.{◌≡◌, refl, sym, ap, subst, ◌∙◌}
use mathlib.Core.Bool.{Bool, true, false}
use mathlib.Core.List.{List, [], ◌∷◌, ◌++◌, append_assoc}
use Prim.Native.Nat.{ℕ, zero, suc, ◌+◌, ◌-◌, ◌<◌}
use native.Mathlib.Numerals.{add-one}
use native.Mathlib.Omega.{arith}
use lib.ListN.{length, drop, length-append, take-append-drop}
use borrow.Author.Tests.{lt-ltb}
use Rattle.std.specs.Prelude.{Err}
use Rattle.octets.specs.Choice.{pick}
use Rattle.octets.specs.Answers.{deepest}
use Rattle.octets.specs.Views.{viewed}
use Rattle.octets.specs.All.{All}
use Rattle.octets.specs.declared.Span.{Span}
use Rattle.octets.proofs.Words.{same_eq, same_refl}
use Rattle.parameters.specs.Values.{span}
use Rattle.lines.specs.Split.{Placed, content_len, line_len, lines_after}
use Rattle.lines.specs.Rule.{after_begin, line_of}
use Rattle.lines.specs.declared.Property.{Property}
use Rattle.lines.specs.declared.Line.{Line}
use Rattle.lines.specs.declared.Line.TheVariants.{Empty, Begin, BadBegin, End, Content, Bad}
use Rattle.lines.proofs.Rule.{is_empty}
use Rattle.tables.specs.declared.ComponentRow.{ComponentRow}
use Rattle.tables.specs.declared.PropertyRow.{PropertyRow}
use Rattle.tables.specs.declared.ParameterRow.{ParameterRow}
use Rattle.nesting.specs.Rows.{top, entry, property_row}
use Rattle.nesting.specs.Steps.{State, check_of, after, finished, read_lines, fine}
use Rattle.nesting.specs.declared.Entry.{Entry}
use Rattle.nesting.specs.declared.Refusal.{Refusal}
use Rattle.nesting.proofs.Lines.{goes_on, deep}
use Rattle.demands.specs.LineGrammar.{Opens, Closes, PropertyLine}
use Rattle.demands.specs.GrammarRefusals.{Begun, in_this, in_another}
use Rattle.demands.specs.Grammar.{no_row, Rows, opened_row, with_component, with_property, line, Body, no_line, empty_line, a_property, a_component}
use Rattle.demands.proofs.Scanning.{viewed_in}
use Rattle.demands.proofs.SaidLines.{size_mark, opens_read, opens_name, closes_read, closes_name, property_read, Says, says}

-- ---- the lines of a text stand in it

pub record In (text : List ℕ) (l : Placed) : Type 0 where
  pub before : List ℕ
  pub behind : List ℕ
  pub is : text ≡ before ++ (l.content ++ behind)
  pub at : l.start ≡ length before

pub lines_in : (text before : List ℕ) (at k : ℕ) (xs : List ℕ) → text ≡ before ++ xs → at ≡ length before → All (In text) (lines_after at k xs)
unfolding lines_after All
lines_in text before at k [] e n = tt
lines_in text before at zero (x ∷ xs) e n =
    let c : ℕ = content_len (x ∷ xs) in (
      record { before = before; behind = drop c (x ∷ xs); is = e ∙ ap (λ (l : List ℕ). before ++ l) (sym (take-append-drop c (x ∷ xs))); at = n },
      lines_in text (before ++ x ∷ []) (at + 1) (line_len (x ∷ xs) - 1) xs (e ∙ simp append_assoc) (omega (arith, length-append before (x ∷ []))),
    )
lines_in text before at (suc k) (x ∷ xs) e n =
    lines_in text (before ++ x ∷ []) (at + 1) k xs (e ∙ simp append_assoc) (omega (arith, length-append before (x ∷ [])))

-- the name of an opening line is seen in the text
name_in : (text : List ℕ) (l : Placed) {name : List ℕ} → In text l → Opens name l.content → viewed text (l.start + after_begin) (length name) ≡ name
name_in text l {name} i o =
    rw (i.is, i.at)
    (viewed_in i.before l.content i.behind after_begin (length name) (omega (arith, size_mark o.mark)) ∙ opens_name o)

-- ---- states

-- these are open, and these rows are read
abbrev pub state : List Entry → Rows → State
state es r = record { opens = es; components = r.components; properties = r.properties; parameters = r.parameters }

abbrev pub rows : State → Rows
rows s = record { components = s.components; properties = s.properties; parameters = s.parameters }

-- ---- from the reading to the grammar

module _ (text : List ℕ) where
  -- the name of the innermost open component
  abbrev pub innermost : List Entry → List ℕ
  innermost [] = []
  innermost (e ∷ es) = viewed text e.start e.len

  -- Lines where these components are open. Either none of them is closed there; or the rest of the innermost one's body comes, its closing line,
  -- and then lines where those around it are open.
  pub data Left : List Entry → Rows → List Placed → ℕ → List ℕ → Rows → Type 0 where
    still : {es : List Entry} {r r' : Rows} {ls : List Placed} {depth : ℕ} {name : List ℕ}
        → Begun (length es) (top es) (innermost es) r ls depth name r' → Left es r ls depth name r'
    shut : (at : ℕ) {e : Entry} {es : List Entry} {r r' r'' : Rows} {ls₁ ls₂ : List Placed} {closing name : List ℕ} {depth : ℕ}
        → Body (suc (length es)) e.row r ls₁ r' → Closes (viewed text e.start e.len) closing → Left es r' ls₂ depth name r''
        → Left (e ∷ es) r (ls₁ ++ line at closing ∷ ls₂) depth name r''

  -- lines in front that any body may begin with
  in_front : {es : List Entry} {r r' r'' : Rows} {depth : ℕ} {name : List ℕ} (front : List Placed) {ls : List Placed}
      → ((ls : List Placed) (last : Rows) → Body (length es) (top es) r' ls last → Body (length es) (top es) r (front ++ ls) last)
      → Left es r' ls depth name r'' → Left es r (front ++ ls) depth name r''
  in_front front grow (still (in_this b)) = still (in_this (grow _ _ b))
  in_front {es} {r} {r'' = r''} {depth} {name} front grow (still (in_another at {opening = opening} {ls = ls} {inner = inner} b d o more)) =
      subst (λ (ls : List Placed). Left es r ls depth name r'') (append_assoc front ls (line at opening ∷ inner)) (still (in_another at (grow _ _ b) d o more))
  in_front {r = r} {r'' = r''} {depth} {name} front grow (shut at {e = e} {es = es} {ls₁ = ls₁} {ls₂ = ls₂} {closing = closing} b c rest) =
      subst (λ (ls : List Placed). Left (e ∷ es) r ls depth name r'') (append_assoc front ls₁ (line at closing ∷ ls₂)) (shut at (grow _ _ b) c rest)

  -- a component that is opened here is not closed; or its body and its closing line stand in front of lines where those around it are open
  opening_line : {es : List Entry} {e : Entry} {r r' : Rows} {depth : ℕ} {last : List ℕ} {c : ComponentRow} (at : ℕ) {name opening : List ℕ} {ls : List Placed}
      → length es < deepest → Opens name opening → viewed text e.start e.len ≡ name → e.row ≡ length r.components
      → c ≡ opened_row (top es) (suc (length es)) at name
      → Left (e ∷ es) (with_component r c) ls depth last r' → Left es r (line at opening ∷ ls) depth last r'
  opening_line at d o n w c (still b) = still (in_another at no_line d o (rw (w, n, c) at b))
  opening_line {es} {r = r} {r' = r'} {depth} {last} at {name} {opening} d o n w c (shut at' {ls₁ = ls₁} {ls₂ = ls₂} {closing = closing} b x rest) =
      let grow : (ls : List Placed) (end : Rows) → Body (length es) (top es) _ ls end
      → Body (length es) (top es) r ((line at opening ∷ (ls₁ ++ line at' closing ∷ [])) ++ ls) end =
      λ ls end b'. rw append_assoc (a_component at at' d o (rw (w, c) at b) (rw n at x) b') in
      subst (λ (ls : List Placed). Left es r (line at opening ∷ ls) depth last r') (append_assoc ls₁ (line at' closing ∷ []) ls₂)
      (in_front (line at opening ∷ (ls₁ ++ line at' closing ∷ [])) grow rest)

  no_check : {x : Refusal} → Err x ≡ fine → ⊥
  no_check e = let z : ◌≡◌ {A = ℕ} 0 1 = cc in omega arith

  -- one line that may stand where it does, before what comes behind it
  module _ (l : Placed) {ls : List Placed} {r r' : Rows} {depth : ℕ} {name : List ℕ} where
    empty_step : {es : List Entry} → l.content ≡ [] → Left es r ls depth name r' → Left es r (l ∷ ls) depth name r'
    empty_step {es} e rest =
        let is : line l.start [] ≡ l = ap (line l.start) (sym e) in
        subst (λ (k : Placed). Left es r (k ∷ ls) depth name r') is (in_front (line l.start [] ∷ []) (λ ls last b. empty_line b) rest)

    content_step : (es : List Entry) (p : Property) → check_of text l.content (Content p) es ≡ fine
        → Says l.start (top es) (length r.properties) l.content (Content p)
        → Left es (rows (after l.start l.content (Content p) (state es r))) ls depth name r' → Left es r (l ∷ ls) depth name r'
    content_step [] p c s rest = absurd (no_check c)
    content_step (e ∷ es) p c s rest = in_front (l ∷ []) (λ ls last b. a_property (omega arith) s b) rest

    end_step : (es : List Entry) (found : Span) → check_of text l.content (End found) es ≡ fine
        → Says l.start (top es) (length r.properties) l.content (End found)
        → Left (after l.start l.content (End found) (state es r)).opens r ls depth name r' → Left es r (l ∷ ls) depth name r'
    end_step [] found c s rest = absurd (no_check c)
    end_step (e ∷ es) found c s rest = shut l.start no_line (rw same at s.1) rest
      where
        by_test : (t : Bool) → pick t fine (Err Refusal.BadEnd) ≡ fine → t ≡ true
        by_test true q = refl
        by_test false q = absurd (no_check q)

        same : s.0 ≡ viewed text e.start e.len
        same =
            sym (closes_name s.1)
            ∙ ap (λ (a : Span). viewed l.content a.start a.len) (sym s.2)
            ∙ same_eq (viewed l.content found.start found.len) (viewed text e.start e.len) (by_test _ c)

    begin_step : (es : List Entry) (found : Span) → In text l → check_of text l.content (Begin found) es ≡ fine
        → Says l.start (top es) (length r.properties) l.content (Begin found)
        → Left (after l.start l.content (Begin found) (state es r)).opens (rows (after l.start l.content (Begin found) (state es r))) ls depth name r'
        → Left es r (l ∷ ls) depth name r'
    begin_step es found i c s rest =
        opening_line l.start (deep es c) s.1 (rw s.2 (name_in text l i s.1)) refl (rw (s.2, add-one (length es))) rest

    step : (es : List Entry) → In text l → (k : Line) → check_of text l.content k es ≡ fine
        → Says l.start (top es) (length r.properties) l.content k
        → Left (after l.start l.content k (state es r)).opens (rows (after l.start l.content k (state es r))) ls depth name r'
        → Left es r (l ∷ ls) depth name r'
    step es i Empty c s rest = empty_step s rest
    step es i (Begin found) c s rest = begin_step es found i c s rest
    step es i BadBegin c s rest = absurd (no_check c)
    step es i (End found) c s rest = end_step es found c s rest
    step es i (Content p) c s rest = content_step es p c s rest
    step es i (Bad fault) c s rest = absurd (bad es c)
      where
        bad : (es : List Entry) → check_of text l.content (Bad fault) es ≡ fine → ⊥
        bad [] c = no_check c
        bad (e ∷ es) c = no_check c

  -- lines that are read, each where it may stand
  pub left_of : (ls : List Placed) → All (In text) ls → (es : List Entry) (r : Rows) (last : State) → read_lines text ls (state es r) ≡ finished last
      → Left es r ls (length last.opens) (innermost last.opens) (rows last)
  unfolding read_lines All
  left_of [] i es r last e =
      let q : state es r ≡ last = cc in
      subst (λ (s : State). Left es r [] (length s.opens) (innermost s.opens) (rows s)) q (still (in_this no_line))
  left_of (l ∷ ls) i es r last e =
      let s : State = after l.start l.content (line_of l.content) (state es r) in
      let g = goes_on (check_of text l.content (line_of l.content) es) l.start (read_lines text ls s) last e in
      step l es i.0 (line_of l.content) g.0 (says l.start (top es) (length r.properties) l.content)
      (left_of ls i.1 s.opens (rows s) last g.1)

  -- from the start on nothing is closed that was open before
  pub begun_of : {ls : List Placed} {r r' : Rows} {depth : ℕ} {name : List ℕ} → Left [] r ls depth name r' → Begun 0 no_row [] r ls depth name r'
  begun_of (still b) = b

-- ---- from the grammar to the reading

pub all_front : {A : Type 0} (so : A → Type 0) (xs ys : List A) → All so (xs ++ ys) → All so xs
unfolding All
all_front so [] ys a = tt
all_front so (x ∷ xs) ys a = (a.0, all_front so xs ys a.1)

pub all_back : {A : Type 0} (so : A → Type 0) (xs ys : List A) → All so (xs ++ ys) → All so ys
unfolding All
all_back so [] ys a = a
all_back so (x ∷ xs) ys a = all_back so xs ys a.1

module _ (text : List ℕ) where
  -- a line of which it is known what it is
  pub passed : (l : Placed) (ls : List Placed) (s : State) {k : Line} → line_of l.content ≡ k → check_of text l.content k s.opens ≡ fine
      → read_lines text (l ∷ ls) s ≡ read_lines text ls (after l.start l.content k s)
  unfolding read_lines
  passed l ls s e c = rw (e, c)

  -- a property line where a component is open
  property_passed : {at owner depth : ℕ} {content : List ℕ} {p : PropertyRow} {qs : List ParameterRow} (r : Rows) (es : List Entry) (more : List Placed)
      → 0 < depth → depth ≡ length es → owner ≡ top es → PropertyLine at owner (length r.properties) content p qs
      → read_lines text (line at content ∷ more) (state es r) ≡ read_lines text more (state es (with_property r p qs))
  property_passed r [] more h d o x = absurd (omega arith)
  property_passed {at} {owner} {content = content} r (e ∷ es) more h d o x =
      let q = property_read at owner (length r.properties) x in
      passed (line at content) more (state (e ∷ es) r) q.1.line_is refl
      ∙ same (sym (q.1.row_is ∙ ap (λ (x : ℕ). property_row x at q.0) o)) (sym q.1.rows_are)
    where
      same : {p p' : PropertyRow} {qs qs' : List ParameterRow} → p ≡ p' → qs ≡ qs'
          → read_lines text more (state (e ∷ es) (with_property r p qs)) ≡ read_lines text more (state (e ∷ es) (with_property r p' qs'))
      same a b = cc

  -- an opening line where fewer than 64 are open, and a closing line of the innermost component
  abbrev entered : Rows → ℕ → List ℕ → Entry
  entered r at name = entry (length r.components) at (span after_begin (length name))

  begin_passed : (at : ℕ) {depth owner : ℕ} {name opening : List ℕ} (r : Rows) (es : List Entry) (more : List Placed)
      → depth < deepest → depth ≡ length es → owner ≡ top es → Opens name opening
      → read_lines text (line at opening ∷ more) (state es r)
      ≡ read_lines text more (state (entered r at name ∷ es) (with_component r (opened_row owner (suc depth) at name)))
  begin_passed at {opening = opening} r es more d n w o =
      passed (line at opening) more (state es r) (opens_read o) (rw (lt-ltb (length es) deepest (omega arith))) ∙ rw (n, w, add-one (length es))

  end_passed : (at : ℕ) {name closing : List ℕ} (e : Entry) (es : List Entry) (r : Rows) (more : List Placed)
      → viewed text e.start e.len ≡ name → Closes name closing → read_lines text (line at closing ∷ more) (state (e ∷ es) r) ≡ read_lines text more (state es r)
  end_passed at {name} {closing} e es r more n c =
      passed (line at closing) more (state (e ∷ es) r) (closes_read c) (rw (closes_name c, n, same_refl name))

  -- the lines of a body are read where so many are open
  pub body_reads : {depth owner : ℕ} {r r' : Rows} {ls : List Placed} → Body depth owner r ls r' → (es : List Entry) → depth ≡ length es → owner ≡ top es
      → All (In text) ls → (more : List Placed) → read_lines text (ls ++ more) (state es r) ≡ read_lines text more (state es r')
  unfolding All
  body_reads no_line es n w i more = refl
  body_reads (empty_line {at = at} {ls = ls} {r = r} b) es n w i more =
      passed (line at []) (ls ++ more) (state es r) (is_empty [] refl) refl ∙ body_reads b es n w i.1 more
  body_reads (a_property {ls = ls} {r = r} h x b) es n w i more = property_passed r es (ls ++ more) h n w x ∙ body_reads b es n w i.1 more
  body_reads (a_component at at' {depth = depth} {owner = owner} {name = name} {opening = opening} {closing = closing} {inner = inner} {ls = ls} {r = r} {r' = r'} d o b c later) es n w i more =
      let around = all_back (In text) inner (line at' closing ∷ ls) i.1 in
      begin_passed at r es ((inner ++ line at' closing ∷ ls) ++ more) d n w o
      ∙ ap (λ (l : List Placed). read_lines text l (state (entered r at name ∷ es) (with_component r (opened_row owner (suc depth) at name)))) (append_assoc inner (line at' closing ∷ ls) more)
      ∙ body_reads b (entered r at name ∷ es) (ap suc n) refl (all_front (In text) inner (line at' closing ∷ ls) i.1) (line at' closing ∷ (ls ++ more))
      ∙ end_passed at' (entered r at name) es r' (ls ++ more) (name_in text (line at opening) i.0 o) c
      ∙ body_reads later es n w around.1 more

  -- and so are lines that begin a body: then so many are open, the innermost with this name
  pub record Leaves (ls : List Placed) (s : State) (depth : ℕ) (name : List ℕ) (r : Rows) : Type 0 where
    pub opens : List Entry
    pub many : length opens ≡ depth
    pub named : innermost text opens ≡ name
    pub reads : (more : List Placed) → read_lines text (ls ++ more) s ≡ read_lines text more (state opens r)

  pub begun_reads : {depth owner depth' : ℕ} {name name' : List ℕ} {r r' : Rows} {ls : List Placed} → Begun depth owner name r ls depth' name' r'
      → (es : List Entry) → depth ≡ length es → owner ≡ top es → innermost text es ≡ name → All (In text) ls → Leaves ls (state es r) depth' name' r'
  unfolding All
  begun_reads (in_this b) es n w m i = record { opens = es; many = sym n; named = m; reads = body_reads b es n w i }
  begun_reads (in_another at {depth = depth} {owner = owner} {other = other} {opening = opening} {ls = ls} {inner = inner} {r = r} {r' = r'} b d o more) es n w m i =
      let inside = all_back (In text) ls (line at opening ∷ inner) i in
      let deeper = begun_reads more (entered r' at other ∷ es) (ap suc n) refl (name_in text (line at opening) inside.0 o) inside.1 in
      record {
        opens = deeper.opens;
        many = deeper.many;
        named = deeper.named;
        reads =
            λ rest.
            ap (λ (l : List Placed). read_lines text l (state es r)) (append_assoc ls (line at opening ∷ inner) rest)
            ∙ body_reads b es n w (all_front (In text) ls (line at opening ∷ inner) i) (line at opening ∷ (inner ++ rest))
            ∙ begin_passed at r' es (inner ++ rest) d n w o
            ∙ deeper.reads rest;
      }
