-- The pass over the lines of a text: what has been read, and what is to come. Assumes nothing.
use mathlib.Core.Path.{◌≡◌, refl, sym, ap, ◌∙◌}
use mathlib.Core.List.{List, [], ◌∷◌, ◌++◌}
use Prim.Native.Nat.{ℕ, ◌+◌, ◌-◌, ◌≤◌, ◌<◌}
use native.Mathlib.Nat.{add-zero, add-sub_cancel_left}
use native.Mathlib.Omega.{arith}
use lib.ListN.{length, take, drop, length-append, length-take, length-drop, length-map}
use Rattle.octets.specs.declared.Span.{Span}
use Rattle.parameters.specs.Parameters.{moved, params_after}
use Rattle.parameters.proofs.Lists.{params_moved}
use Rattle.tables.specs.declared.ComponentRow.{ComponentRow}
use Rattle.tables.specs.Rows.{put_row, component_size, property_size, parameter_size, component_words, property_words, parameter_words}
use Rattle.lines.specs.Split.{Placed, content_len, line_len, extent_of, lines_from}
use Rattle.lines.specs.declared.Extent.{Extent}
use Rattle.lines.specs.Rule.{line_of, after_begin}
use Rattle.lines.specs.declared.Line.{Line}
use Rattle.lines.specs.declared.Line.TheVariants.{Empty, Begin, BadBegin, End, Content, Bad}
use Rattle.lines.specs.declared.Fault.{Fault}
use Rattle.std.proofs.Common.{◌⊎◌, inl, inr}
use Rattle.lines.specs.declared.Property.{Property}
use Rattle.lines.proofs.Split as split
use Rattle.lines.specs.Sound.{Sound, SoundProperty}
use Rattle.lines.proofs.Sound.{sound}
use Rattle.std.specs.Prelude.{Err}
use Rattle.nesting.specs.declared.Counts.{Counts}
use Rattle.nesting.specs.declared.Entry.{Entry}
use Rattle.nesting.specs.declared.Refusal.{Refusal}
use Rattle.nesting.specs.Rows.{entry, top, component_row, property_row, parameter_row, parameter_rows}
use Rattle.nesting.specs.Steps.{fine, State, nothing, finished, stopped, refused_at, check_of, closed, after, onward, read_lines, run_of}
use Rattle.nesting.specs.Steps.{ended_at, outcome_of, counts_of, component_counted, property_counted}
use Rattle.nesting.specs.Held.{put_rows, Tabled}
use Rattle.nesting.proofs.Tables.{put_one, put_more, length_rows_put}

-- the tables c, p and q hold the rows of s, which the lines before `at` gave; the lines from `at` on lead to where the whole text leads
pub record Reached (text c₀ p₀ q₀ : List ℕ) (s : State) (c p q : List ℕ) (opens : List Entry) (n : Counts) (at : ℕ) : Type 0 where
  pub «open» : opens ≡ s.opens
  pub counts : n ≡ counts_of s
  pub few : n.components + (n.properties + n.parameters) ≤ at
  pub inside : at ≤ length text
  pub tabled : Tabled s c₀ p₀ q₀ c p q
  pub leads : read_lines text (lines_from at text) s ≡ run_of text

pub start : (text c p q : List ℕ) → Reached text c p q nothing c p q [] (counts_of nothing) 0
unfolding put_rows
start text c p q =
    record {
      «open» = refl;
      counts = refl;
      few = omega arith;
      inside = omega arith;
      tabled = record { components = refl; properties = refl; parameters = refl };
      leads = refl;
    }

-- the same of an equal place
pub moved_to : {text c₀ p₀ q₀ : List ℕ} {s : State} {c p q : List ℕ} {opens : List Entry} {n : Counts} {at at' : ℕ}
    → at ≡ at' → Reached text c₀ p₀ q₀ s c p q opens n at' → Reached text c₀ p₀ q₀ s c p q opens n at
moved_to e so = rw e so

-- the content of the line at `at`
abbrev pub content_at : List ℕ → ℕ → List ℕ
content_at text at = take (content_len (drop at text)) (drop at text)

-- the line as the code lends it
pub lent_line : (at : ℕ) (text : List ℕ) (e : Extent) → e ≡ extent_of at (drop at text) → take (at + e.len - at) (drop at text) ≡ content_at text at
lent_line at text e is = rw (add-sub_cancel_left, is)

-- a line ends within the text, and the next one starts behind it
pub extent_inside : (at : ℕ) (text : List ℕ) (e : Extent) → e ≡ extent_of at (drop at text) → at < length text
    → (at + e.len ≤ length text) × ((at < e.next) × (e.next ≤ length text))
extent_inside at text e is h =
    let some : 0 < length (drop at text) = rw length-drop (omega arith) in
    let l : e.len ≡ content_len (drop at text) = ap (λ (x : Extent). x.len) is in
    let n : e.next ≡ at + line_len (drop at text) = ap (λ (x : Extent). x.next) is in
    let i = split.line_within (drop at text) in
    let j = split.content_within (drop at text) in
    let k = length-drop at text in
    (omega arith, (omega (arith, split.line_some (drop at text) some), omega arith))

-- one line
pub turn : (text : List ℕ) (at : ℕ) (s : State) → at < length text
    → read_lines text (lines_from at text) s
    ≡ onward (check_of text (content_at text at) (line_of (content_at text at)) s.opens) at
    (read_lines text (lines_from (at + line_len (drop at text)) text) (after at (content_at text at) (line_of (content_at text at)) s))
unfolding read_lines
turn text at s h = ap (λ (ls : List Placed). read_lines text ls s) (split.turn text at h)

content_length : (text : List ℕ) (at : ℕ) → at + length (content_at text at) ≤ at + line_len (drop at text)
content_length text at = omega (arith, length-take (content_len (drop at text)) (drop at text), split.content_within (drop at text))

pub next_inside : (text : List ℕ) (at : ℕ) → at ≤ length text → at + line_len (drop at text) ≤ length text
next_inside text at h = omega (arith, split.line_within (drop at text), length-drop at text)

pub content_inside : (text : List ℕ) (at : ℕ) → at ≤ length text → at + length (content_at text at) ≤ length text
content_inside text at h = omega (arith, content_length text at, next_inside text at h)

-- the parameters are as many, seen from the text as from behind the key
rows_count : (property start : ℕ) (line : List ℕ) (p : Property) → SoundProperty line p → length (parameter_rows property start line p) ≡ p.parameters
rows_count property start line p sound =
    length-map (params_after (start + p.key.len) 0 (drop p.key.len line)) (parameter_row property)
    ∙ ap (λ (k : ℕ). length (params_after k 0 (drop p.key.len line))) (sym (add-zero (start + p.key.len)))
    ∙ ap length (params_moved (start + p.key.len) 0 0 (drop p.key.len line))
    ∙ length-map (params_after 0 0 (drop p.key.len line)) (moved (start + p.key.len))
    ∙ sym sound.count

-- a line that is no BEGIN, no END and no property
pub adds_nothing : (at : ℕ) (content : List ℕ) (line : Line) (s : State)
    → (line ≡ Empty) ⊎ ((line ≡ BadBegin) ⊎ ((f : Fault) × (line ≡ Bad f))) → after at content line s ≡ s
adds_nothing at content line s (inl e) = rw e
adds_nothing at content line s (inr (inl e)) = rw e
adds_nothing at content line s (inr (inr e)) = rw e.1

abbrev tally : ℕ → ℕ → ℕ → Counts
tally components properties parameters = record { components = components; properties = properties; parameters = parameters }

counted : {a b x y u v : ℕ} → a ≡ b → x ≡ y → u ≡ v → tally a x u ≡ tally b y v
counted e f g = cc

abbrev total : Counts → ℕ
total n = n.components + (n.properties + n.parameters)

pub refused_outcome : (text : List ℕ) (r : Refusal) (place : ℕ) → run_of text ≡ stopped r place → Err (refused_at r place) ≡ outcome_of text
unfolding outcome_of
refused_outcome text r place e = rw e

pub never_finished : {X : Type 0} (text : List ℕ) (r : Refusal) (place : ℕ) (t : State) → run_of text ≡ stopped r place → run_of text ≡ finished t → X
never_finished text r place t e f = let z : ◌≡◌ {A = ℕ} 0 1 = cc in absurd (omega arith)

module _ {text c₀ p₀ q₀ : List ℕ} {s : State} {c p q : List ℕ} {opens : List Entry} {n : Counts} {at : ℕ}
    (so : Reached text c₀ p₀ q₀ s c p q opens n at) where
  pub same_parameters_holds : length q ≡ length q₀
  same_parameters_holds = ap length so.tabled.parameters ∙ length_rows_put parameter_size parameter_words 0 s.parameters q₀

  -- the end of the text
  pub finish : length text ≤ at → run_of text ≡ finished s
  unfolding read_lines
  finish h = sym so.leads ∙ ap (λ (ls : List Placed). read_lines text ls s) (split.ended text at h)

  module _ (e : run_of text ≡ finished s) where
    pub ended_outcome : ended_at (length opens) n (length text) ≡ outcome_of text
    unfolding outcome_of
    ended_outcome = rw (e, so.«open», so.counts)

    pub ends_tabled : (t : State) → run_of text ≡ finished t → Tabled t c₀ p₀ q₀ c p q
    ends_tabled t f = let same : s ≡ t = cc in rw same at so.tabled

  module _ {line : Line} (h : at < length text) (is : line ≡ line_of (content_at text at)) where
    abbrev next : ℕ
    next = at + line_len (drop at text)

    -- a line that is refused ends the reading
    pub refuses : (r : Refusal) → check_of text (content_at text at) line s.opens ≡ Err r → run_of text ≡ stopped r at
    refuses r f =
        sym so.leads ∙ turn text at s h ∙ rw (sym is, f)

    pub goes_on : check_of text (content_at text at) line s.opens ≡ fine
        → read_lines text (lines_from next text) (after at (content_at text at) line s) ≡ run_of text
    goes_on f = sym (sym so.leads ∙ turn text at s h ∙ rw (sym is, f))

    sounds : Sound (content_at text at) line
    sounds = rw is (sound (content_at text at))

    -- a line that adds nothing
    pub passes : (kind : Line) → line ≡ kind → after at (content_at text at) kind s ≡ s → check_of text (content_at text at) line s.opens ≡ fine
        → Reached text c₀ p₀ q₀ s c p q opens n next
    passes kind e same f =
        record {
          «open» = so.«open»;
          counts = so.counts;
          few = omega (arith, so.few);
          inside = next_inside text at so.inside;
          tabled = so.tabled;
          leads = rw (ap (λ (l : Line). after at (content_at text at) l s) e ∙ same) at (goes_on f);
        }

    -- a property line
    module _ (g : Property) (kind : line ≡ Content g) where
      pub property_sound : SoundProperty (content_at text at) g
      property_sound = rw kind at sounds

      pub property_few : n.properties + (n.parameters + g.parameters) < length text
      property_few =
          let w = property_sound in
          omega (arith, so.few, w.fewer, w.some, content_inside text at so.inside)

      pub adds_property : check_of text (content_at text at) line s.opens ≡ fine → (owner : ℕ) → owner ≡ top s.opens
          → (p' q' : List ℕ) (n' : Counts)
          → p' ≡ put_row property_size n.properties (property_words (property_row owner at g)) p
          → q' ≡ put_rows parameter_size parameter_words n.parameters (parameter_rows n.properties at (content_at text at) g) q
          → n' ≡ property_counted g.parameters n
          → Reached text c₀ p₀ q₀ (after at (content_at text at) (Content g) s) c p' q' opens n' next
      adds_property f owner own p' q' n' ep eq en =
          let w = property_sound in
          let np : n.properties ≡ length s.properties = ap (λ (k : Counts). k.properties) so.counts in
          let nq : n.parameters ≡ length s.parameters = ap (λ (k : Counts). k.parameters) so.counts in
          let nc : n.components ≡ length s.components = ap (λ (k : Counts). k.components) so.counts in
          let mp : n.properties + 1 ≡ length (s.properties ++ property_row (top s.opens) at g ∷ []) = rw length-append (omega arith) in
          let mq : n.parameters + g.parameters ≡ length (s.parameters ++ parameter_rows (length s.properties) at (content_at text at) g) =
          rw (length-append, rows_count (length s.properties) at (content_at text at) g w) (omega arith) in
          record {
            «open» = so.«open»;
            counts = en ∙ counted nc mp mq;
            few = omega (arith, so.few, w.fewer, w.some, content_length text at, ap total en);
            inside = next_inside text at so.inside;
            tabled = record {
              components = so.tabled.components;
              properties = ep ∙ rw own (put_one property_size property_words s.properties (property_row (top s.opens) at g) n.properties p p₀ np so.tabled.properties);
              parameters = eq ∙ rw np (put_more parameter_size parameter_words s.parameters
                  (parameter_rows (length s.properties) at (content_at text at) g) n.parameters q q₀ nq so.tabled.parameters);
            };
            leads = rw kind at (goes_on f);
          }

    -- a BEGIN line
    module _ (name : Span) (kind : line ≡ Begin name) where
      begin_sound : (name.start ≡ after_begin) × (after_begin + name.len ≡ length (content_at text at))
      begin_sound = rw kind at sounds

      pub begin_inside : at + (name.start + name.len) ≤ length text
      begin_inside = omega (arith, begin_sound.0, begin_sound.1, content_inside text at so.inside)

      pub adds_component : check_of text (content_at text at) line s.opens ≡ fine → (parent : ℕ) → parent ≡ top s.opens
          → (e : Entry) → e ≡ entry n.components at name → (c' : List ℕ) (n' : Counts)
          → c' ≡ put_row component_size n.components (component_words (component_row parent (length opens + 1) e)) c
          → n' ≡ component_counted n
          → Reached text c₀ p₀ q₀ (after at (content_at text at) (Begin name) s) c' p q (e ∷ opens) n' next
      adds_component f parent own e ee c' n' ec en =
          let nc : n.components ≡ length s.components = ap (λ (k : Counts). k.components) so.counts in
          let np : n.properties ≡ length s.properties = ap (λ (k : Counts). k.properties) so.counts in
          let nq : n.parameters ≡ length s.parameters = ap (λ (k : Counts). k.parameters) so.counts in
          let mc : n.components + 1 ≡ length (s.components ++ component_row (top s.opens) (length s.opens + 1) (entry (length s.components) at name) ∷ []) =
          rw length-append (omega arith) in
          let depth : length opens + 1 ≡ length s.opens + 1 = rw so.«open» in
          let row : component_row parent (length opens + 1) e ≡ component_row (top s.opens) (length s.opens + 1) (entry (length s.components) at name) =
          ap (λ (p : ℕ). component_row p (length opens + 1) e) own
          ∙ (ap (λ (d : ℕ). component_row (top s.opens) d e) depth
          ∙ ap (λ (x : Entry). component_row (top s.opens) (length s.opens + 1) x) (ee ∙ ap (λ (k : ℕ). entry k at name) nc)) in
          record {
            «open» = rw (so.«open», ee, nc);
            counts = en ∙ counted mc np nq;
            few = omega (arith, so.few, begin_sound.1, content_length text at, ap total en);
            inside = next_inside text at so.inside;
            tabled = record {
              components =
                  ec ∙ ap (λ (r : ComponentRow). put_row component_size n.components (component_words r) c) row
                  ∙ put_one component_size component_words s.components
                  (component_row (top s.opens) (length s.opens + 1) (entry (length s.components) at name)) n.components c c₀ nc so.tabled.components;
              properties = so.tabled.properties;
              parameters = so.tabled.parameters;
            };
            leads = rw kind at (goes_on f);
          }

    -- an END line
    module _ (rest : Span) (kind : line ≡ End rest) where
      pub closes_one : check_of text (content_at text at) line s.opens ≡ fine
          → Reached text c₀ p₀ q₀ (after at (content_at text at) (End rest) s) c p q (closed opens) n next
      closes_one f =
          record {
            «open» = ap closed so.«open»;
            counts = so.counts;
            few = omega (arith, so.few);
            inside = next_inside text at so.inside;
            tabled = record { components = so.tabled.components; properties = so.tabled.properties; parameters = so.tabled.parameters };
            leads = rw kind at (goes_on f);
          }
