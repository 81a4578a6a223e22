-- The rows of every reading that goes to the end meet the table rule. Assumes nothing.
use mathlib.Core.Path.{◌≡◌, refl, ap, ◌∙◌}
use mathlib.Core.Bool.{Bool, true}
use mathlib.Core.List.{List, [], ◌∷◌, ◌++◌, append_assoc, append-nil}
use Prim.Native.Nat.{ℕ, ◌+◌, ◌*◌, ◌≤◌, ◌<◌, zero-le}
use native.Mathlib.Nat.{le_trans}
use native.Mathlib.Omega.{arith}
use lib.ListN.{length, take, drop, length-append, length-drop}
use lib.Seq.{take-append_seam}
use Rattle.std.specs.Prelude.{None}
use Rattle.octets.specs.Answers.{longest, deepest, done}
use Rattle.unfolding.specs.Unfold.{unfolded}
use Rattle.unfolding.proofs.Laws.{length_unfolded}
use Rattle.lines.specs.declared.Line.{Line}
use Rattle.lines.specs.declared.Line.TheVariants.{Empty, Begin, BadBegin, End, Content, Bad}
use Rattle.lines.specs.declared.Property.{Property}
use Rattle.lines.specs.Sound.{Sound, SoundProperty}
use Rattle.octets.specs.declared.Span.{Span}
use Rattle.tables.specs.Rows.{no_parent, flat, row_at, rows_of}
use Rattle.tables.specs.TableRule.{Opened, component_fits, opens_after, property_fits, broken_component, broken_property, broken}
use Rattle.tables.specs.declared.ComponentRow.{ComponentRow}
use Rattle.tables.specs.declared.PropertyRow.{PropertyRow}
use Rattle.tables.specs.declared.ParameterRow.{ParameterRow}
use Rattle.tables.proofs.Laws.{Shape, length_flat, rows_exact, component_shape, property_shape, parameter_shape}
use Rattle.tables.proofs.Rule.{on, ended, Meets, not_broken}
use Rattle.nesting.specs.Rows.{entry, top, component_row, property_row, parameter_rows}
use Rattle.nesting.specs.Steps.{State, nothing, if_open, check_of, closed, after, finished, run_of, fine}
use Rattle.nesting.proofs.Lines.{deep, at_the_end}
use Rattle.nesting.specs.declared.Entry.{Entry}
use Rattle.reading.specs.declared.Reading.{Reading}
use Rattle.tables.specs.Lent.{Lent, components_in, properties_in, parameters_in, broken_in}
use Rattle.reading.specs.Lent.{read_into, left}
use Rattle.demands.specs.Lent.{told_of}
use Rattle.demands.specs.Readable.{Readable, ReadTo}
use Rattle.demands.proofs.Readable.{done_readable}
use Rattle.demands.proofs.Chains.{chain, Falling, Last, fewer, falling_last, first_below}
use Rattle.demands.proofs.Chains.Falling.{none, next}
use Rattle.demands.proofs.Chains.Last.{all}
use Rattle.demands.proofs.RowsFit.{component_parents, component_fits_holds, property_fits_holds, ParametersOn, parameters_fit}

-- what has been read from a text of T bytes up to `at` meets the rule so far: it holds of its rows together with any rows behind them, if it holds
-- of these where they stand. A row behind may name one of `known` as its parent, and the open components are the last of these.
record Meeting (T at : ℕ) (s : State) (known : List Opened) : Type 0 where
  components : (rest : List ComponentRow) → broken_component T (length s.components) known rest ≡ None
      → broken_component T 0 [] (s.components ++ rest) ≡ None
  properties : (n : ℕ) → length s.components ≤ n → (rest : List PropertyRow) → ((row : ℕ) → broken_property T n row rest ≡ None)
      → (row : ℕ) → broken_property T n row (s.properties ++ rest) ≡ None
  parameters : (n : ℕ) → length s.properties ≤ n → (rest : List ParameterRow) → ParametersOn T n (length s.properties) rest
      → ParametersOn T n 0 (s.parameters ++ rest)
  opens : Last (chain s.opens) known
  falling : Falling (length s.components) known
  few : length s.components ≤ at

abbrev Met : ℕ → ℕ → State → Type 0
Met T at s = (known : List Opened) × Meeting T at s known

start : (T : ℕ) → Met T 0 nothing
start T = (
  [],
  record {
    components = λ rest h. h;
    properties = λ n l rest h. h;
    parameters = λ n l rest h. h;
    opens = all;
    falling = none;
    few = zero-le;
  },
)

further : {T at : ℕ} (at' : ℕ) {s : State} → at ≤ at' → Met T at s → Met T at' s
further at' h (known, m) = (
  known,
  record {
    components = m.components;
    properties = m.properties;
    parameters = m.parameters;
    opens = m.opens;
    falling = m.falling;
    few = le_trans m.few h;
  },
)

-- what a line adds to s
abbrev begun : State → ℕ → Span → Entry
begun s at name = entry (length s.components) at name

abbrev component_of : State → ℕ → Span → ComponentRow
component_of s at name = component_row (top s.opens) (length s.opens + 1) (begun s at name)

abbrev property_of : State → ℕ → Property → PropertyRow
property_of s at p = property_row (top s.opens) at p

module _ {T at : ℕ} (s : State) {known : List Opened} (m : Meeting T at s known) where
  -- END: one less is open
  closing : Meeting T at (record { opens = closed s.opens; components = s.components; properties = s.properties; parameters = s.parameters }) known
  closing =
      record {
        components = m.components;
        properties = m.properties;
        parameters = m.parameters;
        opens = go s.opens m.opens;
        falling = m.falling;
        few = m.few;
      }
    where
      go : (es : List Entry) → Last (chain es) known → Last (chain (closed es)) known
      go [] l = l
      go (e ∷ es) l = fewer l

  module _ (line : List ℕ) (fits : at + length line ≤ T) (short : at ≤ no_parent) where
    -- BEGIN: a component more, and it is open
    module _ (name : Span) (sound : Sound line (Begin name)) (deep : length s.opens < deepest) where
      one_component : length (s.components ++ component_of s at name ∷ []) ≡ length s.components + 1
      one_component = length-append s.components (component_of s at name ∷ [])

      few_rows : length s.components ≤ no_parent
      few_rows = omega (arith, m.few)

      component_on : (rest : List ComponentRow) → broken_component T (length s.components + 1) (chain (begun s at name ∷ s.opens)) rest ≡ None
          → broken_component T (length s.components) known (component_of s at name ∷ rest) ≡ None
      component_on rest h =
          on (component_fits T) opens_after (length s.components) known (component_of s at name ∷ rest) rest (component_of s at name) refl
          (component_fits_holds T s.opens m.opens m.falling few_rows (begun s at name) (omega (arith, sound.0, sound.1)) deep)
          ∙ rw (component_parents T s.opens m.opens m.falling few_rows (begun s at name)) h

      begin : Meeting T (at + length line) (after at line (Begin name) s) (chain (begun s at name ∷ s.opens))
      begin =
          let below : length s.components < length (s.components ++ component_of s at name ∷ []) = omega (arith, one_component) in
          record {
            components = λ rest h. rw append_assoc (m.components (component_of s at name ∷ rest) (component_on rest (rw one_component at h)));
            properties = λ n l. m.properties n (omega arith);
            parameters = m.parameters;
            opens = all;
            falling = next below (falling_last m.opens m.falling);
            few = omega (arith, one_component, m.few, sound.1);
          }

    -- a property more, with its parameters
    module _ (p : Property) (sound : SoundProperty line p) (within : if_open fine s.opens ≡ fine) where
      one_property : length (s.properties ++ property_of s at p ∷ []) ≡ length s.properties + 1
      one_property = length-append s.properties (property_of s at p ∷ [])

      owner : (es : List Entry) → Last (chain es) known → if_open fine es ≡ fine → top es < length s.components
      owner [] l w = absurd (let z : ◌≡◌ {A = ℕ} 0 1 = cc in omega arith)
      owner (e ∷ es) l w = first_below l m.falling

      property_on : (n : ℕ) → length s.components ≤ n → (rest : List PropertyRow) → ((row : ℕ) → broken_property T n row rest ≡ None)
          → (row : ℕ) → broken_property T n row (property_of s at p ∷ rest) ≡ None
      property_on n l rest h row =
          on (λ (seen : Bool). property_fits T n) (λ row seen p. seen) row true (property_of s at p ∷ rest) rest (property_of s at p) refl
          (property_fits_holds T n (top s.opens) at line p sound fits (le_trans (owner s.opens m.opens within) l))
          ∙ h (row + 1)

      parameters_on : (n : ℕ) → length (s.properties ++ property_of s at p ∷ []) ≤ n → (rest : List ParameterRow)
          → ParametersOn T n (length (s.properties ++ property_of s at p ∷ [])) rest
          → ParametersOn T n (length s.properties) (parameter_rows (length s.properties) at line p ++ rest)
      parameters_on n l rest h =
          parameters_fit T n (length s.properties) (omega (arith, one_property)) (at + p.key.len) 0 (drop p.key.len line)
          (omega (arith, length-drop p.key.len line, sound.fewer)) rest
          (λ row before b. h row before (omega (arith, one_property)))

      content : Meeting T (at + length line) (after at line (Content p) s) known
      content =
          record {
            components = m.components;
            properties = λ n l rest h row. rw append_assoc (m.properties n l (property_of s at p ∷ rest) (property_on n l rest h) row);
            parameters =
                λ n l rest h row before b.
                rw append_assoc
                (m.parameters n (omega (arith, one_property)) (parameter_rows (length s.properties) at line p ++ rest) (parameters_on n l rest h) row before b);
            opens = m.opens;
            falling = m.falling;
            few = omega (arith, m.few);
          }

-- any line that may stand where it does
step : {T at : ℕ} (s : State) → Met T at s → (text line : List ℕ) → at + length line ≤ T → at ≤ no_parent
    → (l : Line) → Sound line l → check_of text line l s.opens ≡ fine → Met T (at + length line) (after at line l s)
step s m text line fits short Empty o c = further _ (omega arith) m
step {T} {at} s (known, m) text line fits short (Begin name) o c =
    (chain (begun s at name ∷ s.opens), begin s m line fits short name o (deep s.opens c))
step s m text line fits short BadBegin o c = further _ (omega arith) m
step s (known, m) text line fits short (End rest) o c = further _ (omega arith) (known, closing s m)
step s (known, m) text line fits short (Content p) o c = (known, content s m line fits short p o c)
step s m text line fits short (Bad fault) o c = further _ (omega arith) m

-- ---- all lines

-- at the end no rows are behind
met : {T at : ℕ} {s : State} → Met T at s → 0 < length s.components → Meets T s.components s.properties s.parameters
met {T} {at} {s} (known, m) some =
    record {
      some = some;
      components_fit = rw append-nil at (m.components [] (ended _ _ _ _ [] refl));
      properties_fit = rw append-nil at (m.properties (length s.components) (omega arith) [] (λ row. ended _ _ row _ [] refl) (length s.components));
      parameters_fit =
          rw append-nil at
          (m.parameters (length s.properties) (omega arith) [] (λ row before b. ended _ _ row before [] refl)
          (length s.components + length s.properties) 0 zero-le);
    }

-- a text within the byte limit that is read to the end, with at least one component, gives tables that break no rule
pub meets_rule : (text : List ℕ) (s : State) → length text ≤ longest → run_of text ≡ finished s → 0 < length s.components
    → broken (length text) s.components s.properties s.parameters ≡ None
meets_rule text s short e some =
    not_broken (length text) s.components s.properties s.parameters
    (met
    (at_the_end text (Met (length text)) (λ at at' s h m. further at' h m)
    (λ at s m line fits l o c. step s m text line fits (omega arith) l o c)
    (start (length text)) s e)
    some)

-- so every readable feed gives tables that break no rule
pub readable_meets : {feed : List ℕ} {s : State} → Readable feed s → broken (length (unfolded feed)) s.components s.properties s.parameters ≡ None
readable_meets {feed} {s} r = meets_rule (unfolded feed) s (omega (arith, r.short, length_unfolded feed)) r.reads r.some

-- the rows at the front of a buffer, as many as there are, lent on by themselves, are read back
pub rows_told : {A : Type 0} {size : ℕ} {words : A → List ℕ} {from : List ℕ → ℕ → A} → Shape size words from → (rows : List A) (n : ℕ) (new rest : List ℕ)
    → n ≡ length rows → new ≡ flat words rows ++ rest → rows_of size (row_at size from) (take (size * n) new) ≡ rows
rows_told shape rows n new rest c h = rw (h, c, ← length_flat shape rows, take-append_seam) (rows_exact shape rows)

-- the bytes and the rows that a reading answered Done leaves at the front of the buffers, lent on by themselves, are the unfolded text and the rows of s
pub record Told (feed : List ℕ) (s : State) (b : Lent) : Type 0 where
  pub text : b.text ≡ unfolded feed
  pub components : components_in b.components ≡ s.components
  pub properties : properties_in b.properties ≡ s.properties
  pub parameters : parameters_in b.parameters ≡ s.parameters

pub told_rows : {feed : List ℕ} {b : Lent} {s : State} → ReadTo feed b s → Told feed s (told_of (read_into feed b) (left feed b))
told_rows {feed} {b} {s} t =
    record {
      text = rw (t.text, ap (λ (r : Reading). r.length) t.numbers) (take-append_seam (unfolded feed) _);
      components = rows_told component_shape s.components (read_into feed b).components (left feed b).components _ (ap (λ (r : Reading). r.components) t.numbers) t.components;
      properties = rows_told property_shape s.properties (read_into feed b).properties (left feed b).properties _ (ap (λ (r : Reading). r.properties) t.numbers) t.properties;
      parameters = rows_told parameter_shape s.parameters (read_into feed b).parameters (left feed b).parameters _ (ap (λ (r : Reading). r.parameters) t.numbers) t.parameters;
    }

-- so they break no rule
pub done_meets : (feed : List ℕ) (b : Lent) → (read_into feed b).answer ≡ done → broken_in (told_of (read_into feed b) (left feed b)) ≡ None
done_meets feed b e =
    let w = done_readable feed b e in
    let t = told_rows w.2 in
    rw (t.text, t.components, t.properties, t.parameters) (readable_meets w.1)
