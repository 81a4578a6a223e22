-- The listing of any feed fits the lister's buffer: each row adds few bytes to those of its line, and there are few rows. Assumes nothing.
use mathlib.Core.Path.{◌≡◌, refl, ap, ◌∙◌}
use mathlib.Core.Bool.{Bool, true, false}
use mathlib.Core.List.{List, [], ◌∷◌, ◌++◌, append-nil, map}
use Prim.Native.Nat.{ℕ, zero, suc, ◌+◌, ◌*◌, ◌/◌, ◌≤◌, ◌<◌}
use native.Mathlib.Nat.{zero-add, add-zero, div-lt_iff_lt-mul, le-div_iff_mul-le, mul_comm}
use native.Mathlib.Omega.{arith}
use lib.ListN.{length, drop, get_or, length-append, length-take, length-map}
use lib.Dec.{eqb, ltb, leb}
use borrow.Author.Tests.{lt-ltb, eqb-true, leb-true}
use Rattle.octets.specs.Choice.{pick}
use Rattle.octets.specs.Bytes.{space, lf, equals}
use Rattle.octets.specs.Answers.{done, too_long}
use Rattle.octets.specs.Laid.{laid}
use Rattle.octets.proofs.Laid.{whole}
use Rattle.octets.specs.Views.{part, viewed}
use Rattle.octets.specs.declared.Span.{Span}
use Rattle.unfolding.specs.Unfold.{unfolded}
use Rattle.unfolding.proofs.Laws.{length_unfolded}
use Rattle.parameters.specs.declared.Value.{Value}
use Rattle.parameters.specs.declared.Value.TheVariants.{Absent, Present}
use Rattle.parameters.specs.declared.Param.{Param}
use Rattle.parameters.specs.Parameters.{params_after}
use Rattle.parameters.proofs.Laws.{value_len}
use Rattle.parameters.proofs.Lists.{params_len, params_apart, used_moved}
use Rattle.lines.specs.Sound.{Sound, SoundProperty}
use Rattle.lines.specs.declared.Property.{Property}
use Rattle.lines.specs.declared.Line.{Line}
use Rattle.lines.specs.declared.Line.TheVariants.{Empty, Begin, BadBegin, End, Content, Bad}
use Rattle.tables.specs.Rows.{component_size, property_size, parameter_size, component_words, property_words, parameter_words, no_parent, flat, row_at}
use Rattle.tables.specs.declared.ComponentRow.{ComponentRow}
use Rattle.tables.specs.declared.PropertyRow.{PropertyRow}
use Rattle.tables.proofs.Laws.{Shape, component_shape, property_shape, parameter_shape, flat_append, length_flat, read_back}
use Rattle.nesting.specs.declared.Counts.{Counts}
use Rattle.nesting.specs.declared.Entry.{Entry}
use Rattle.nesting.specs.Rows.{entry, top, component_row, property_row, parameter_with, parameter_row}
use Rattle.nesting.specs.Steps.{fine, State, if_open, closed, check_of, after, finished, run_of, counts_of}
use Rattle.nesting.proofs.Lines.{deep, at_the_end}
use Rattle.reading.specs.declared.Reading.{Reading}
use Rattle.reading.specs.Answers.{refusal}
use Rattle.tables.specs.Lent.{Lent}
use Rattle.reading.specs.Lent.{room_in, read_into, left}
use Rattle.listing.proofs.Rooms.{done_within}
use Rattle.listing.specs.Texts.{field, digit, digits, decimal, parent_field}
use Rattle.listing.specs.Lines.{Section, Components, Properties, Parameters, listed_component, listed_property, listed_parameter, listed_rows, heading, section_text, refused}
use Rattle.listing.specs.Listing.{longest_listed, listing_room, listed, listing, rooms, listing_of}

-- ---- fields

length_field : (bytes : List ℕ) (end : ℕ) → length (field bytes end) ≡ length bytes + 1
length_field bytes end = length-append bytes (end ∷ [])

abbrev ten : ℕ → ℕ
ten zero = 1
ten (suc k) = 10 * ten k

digits_few : (k places n : ℕ) → n < ten (suc k) → length (digits places n) ≤ k + 1
unfolding digits
digits_few k zero n h = omega arith
digits_few zero (suc places) n h = rw (lt-ltb n 10 (omega arith)) (omega arith)
digits_few (suc k) (suc places) n h = go (ltb n 10) (digits_few k places (n / 10) ((div-lt_iff_lt-mul (omega arith)).1 (omega arith)))
  where
    go : (t : Bool) → length (digits places (n / 10)) ≤ k + 1 → length (pick t (digit n ∷ []) (digits places (n / 10) ++ digit n ∷ [])) ≤ suc k + 1
    go true ih = omega arith
    go false ih = omega (arith, length-append (digits places (n / 10)) (digit n ∷ []))

digits_most : (places n : ℕ) → length (digits places n) ≤ places
unfolding digits
digits_most zero n = omega arith
digits_most (suc places) n = go (ltb n 10) (digits_most places (n / 10))
  where
    go : (t : Bool) → length (digits places (n / 10)) ≤ places → length (pick t (digit n ∷ []) (digits places (n / 10) ++ digit n ∷ [])) ≤ suc places
    go true ih = omega arith
    go false ih = omega (arith, length-append (digits places (n / 10)) (digit n ∷ []))

-- a row number, and a place in the text, has five digits at most
number_few : (n : ℕ) → n ≤ longest_listed → length (decimal n) ≤ 5
number_few n h = digits_few 4 20 n (omega arith)

parent_few : (n : ℕ) → length (decimal n) ≤ 5 → length (parent_field n) ≤ 6
parent_few n h = go (eqb n no_parent)
  where
    go : (t : Bool) → length (pick t (field (45 ∷ []) space) (field (decimal n) space)) ≤ 6
    go true = omega arith
    go false = omega (arith, length_field (decimal n) space)

view_within : (text : List ℕ) (start len : ℕ) → length (viewed text start len) ≤ len
view_within text start len = go (leb (start + len) (length text))
  where
    go : (t : Bool) → length (pick t (part text start len) []) ≤ len
    go true = omega (arith, length-take len (drop start text))
    go false = omega arith

-- ---- rows

module _ (text : List ℕ) where
  component_few : (c : ComponentRow) → length (parent_field c.parent) ≤ 6 → c.depth < 100 → length (listed_component text c) ≤ 10 + c.name_len
  component_few c p d =
      let name = viewed text c.name_start c.name_len in
      omega (
        arith,
        length-append (parent_field c.parent) (field (decimal c.depth) space ++ field name lf),
        length-append (field (decimal c.depth) space) (field name lf),
        length_field (decimal c.depth) space,
        length_field name lf,
        digits_few 1 20 c.depth (omega arith),
        view_within text c.name_start c.name_len,
      )

  property_few : (p : PropertyRow) → length (decimal p.owner) ≤ 5 → length (listed_property text p) ≤ 8 + p.key_len + p.value_len
  property_few p d =
      let key = viewed text p.key_start p.key_len in
      let value = viewed text p.value_start p.value_len in
      omega (
        arith,
        length-append (field (decimal p.owner) space) (field key space ++ field value lf),
        length-append (field key space) (field value lf),
        length_field (decimal p.owner) space,
        length_field key space,
        length_field value lf,
        view_within text p.key_start p.key_len,
        view_within text p.value_start p.value_len,
      )

  parameter_few : (m : ℕ) (p : Param) → length (decimal m) ≤ 5 → length (listed_parameter text (parameter_row m p)) ≤ 8 + (p.key.len + value_len p.value)
  parameter_few m p d = go p.value
    where
      key : List ℕ
      key = viewed text p.key.start p.key.len

      go : (v : Value) → length (listed_parameter text (parameter_with m p.key v)) ≤ 8 + (p.key.len + value_len v)
      go Absent =
          omega (
            arith,
            length-append (field (decimal m) space) (field key lf),
            length_field (decimal m) space,
            length_field key lf,
            view_within text p.key.start p.key.len,
          )
      go (Present v) =
          let value = viewed text v.start v.len in
          omega (
            arith,
            length-append (field (decimal m) space) (field key equals ++ field value lf),
            length-append (field key equals) (field value lf),
            length_field (decimal m) space,
            length_field key equals,
            length_field value lf,
            view_within text p.key.start p.key.len,
            view_within text v.start v.len,
          )

  parameters_few : (m : ℕ) (ps : List Param) → length (decimal m) ≤ 5
      → length (flat (listed_parameter text) (map (parameter_row m) ps)) ≤ 8 * length ps + params_len ps
  unfolding flat params_len
  parameters_few m [] d = omega arith
  parameters_few m (p ∷ ps) d =
      omega (
        arith,
        length-append (listed_parameter text (parameter_row m p)) (flat (listed_parameter text) (map (parameter_row m) ps)),
        parameter_few m p d,
        parameters_few m ps d,
      )

  added : {A : Type 0} (line : A → List ℕ) (rows : List A) (r : A) → length (flat line (rows ++ r ∷ [])) ≡ length (flat line rows) + length (line r)
  unfolding flat
  added line rows r = rw (flat_append line rows (r ∷ []), append-nil (line r)) (length-append (flat line rows) (line r))

-- ---- the rows of a text that is read to the end

-- each open row is at most n
unfoldable UpTo : ℕ → List Entry → Type 0
UpTo n [] = Unit {0}
UpTo n (e ∷ es) = (e.row ≤ n) × UpTo n es

up_to : (n m : ℕ) (es : List Entry) → n ≤ m → UpTo n es → UpTo m es
unfolding UpTo
up_to n m [] h u = tt
up_to n m (e ∷ es) h (a, u) = (omega arith, up_to n m es h u)

-- the lines of the rows that are read with `at` bytes are few more bytes than these; `text` is where the rows point, whatever it is
record Sized (text : List ℕ) (at : ℕ) (s : State) : Type 0 where
  opens : UpTo at s.opens
  components : length s.components ≤ at
  properties : length s.properties ≤ at
  size : length (flat (listed_component text) s.components) + (length (flat (listed_property text) s.properties) + length (flat (listed_parameter text) s.parameters))
      ≤ at + (10 * length s.components + 8 * (length s.properties + length s.parameters))

module _ (text : List ℕ) where
  further : (at at' : ℕ) (s : State) → at ≤ at' → Sized text at s → Sized text at' s
  further at at' s h w =
      record {
        opens = up_to at at' s.opens h w.opens;
        components = omega (arith, w.components);
        properties = omega (arith, w.properties);
        size = omega (arith, w.size);
      }

  module _ (at : ℕ) (s : State) (w : Sized text at s) (short : at ≤ longest_listed) (line : List ℕ) where
    closing : (es : List Entry) → UpTo at es → UpTo at (closed es)
    unfolding UpTo
    closing [] u = tt
    closing (e ∷ es) (a, u) = u

    parent : (es : List Entry) → UpTo at es → length (parent_field (top es)) ≤ 6
    unfolding UpTo
    parent [] u = omega arith
    parent (e ∷ es) (a, u) = parent_few e.row (number_few e.row (omega arith))

    begin : (name : Span) → Sound line (Begin name) → length s.opens < 99 → Sized text (at + length line) (after at line (Begin name) s)
    unfolding UpTo
    begin name o d =
        let c = component_row (top s.opens) (length s.opens + 1) (entry (length s.components) at name) in
        let n : length (s.components ++ c ∷ []) ≡ length s.components + 1 = length-append s.components (c ∷ []) in
        record {
          opens = (omega (arith, w.components), up_to at (at + length line) s.opens (omega arith) w.opens);
          components = omega (arith, n, w.components, o.1);
          properties = omega (arith, w.properties);
          size =
              omega (
                arith,
                n,
                w.size,
                o.1,
                added text (listed_component text) s.components c,
                component_few text c (parent s.opens w.opens) (omega arith),
              );
        }

    owner : (es : List Entry) → UpTo at es → if_open fine es ≡ fine → length (decimal (top es)) ≤ 5
    unfolding UpTo
    owner [] u h = absurd (let z : ◌≡◌ {A = ℕ} 0 1 = cc in omega arith)
    owner (e ∷ es) (a, u) h = number_few e.row (omega arith)

    content : (p : Property) → SoundProperty line p → if_open fine s.opens ≡ fine → Sized text (at + length line) (after at line (Content p) s)
    content p o h =
        let r = property_row (top s.opens) at p in
        let ps = params_after (at + p.key.len) 0 (drop p.key.len line) in
        let qs = map (parameter_row (length s.properties)) ps in
        let n : length (s.properties ++ r ∷ []) ≡ length s.properties + 1 = length-append s.properties (r ∷ []) in
        let m : length (s.parameters ++ qs) ≡ length s.parameters + length ps = length-append s.parameters qs ∙ rw length-map in
        let f : length (flat (listed_parameter text) (s.parameters ++ qs)) ≡ length (flat (listed_parameter text) s.parameters) + length (flat (listed_parameter text) qs) =
        rw (flat_append (listed_parameter text) s.parameters qs) (length-append (flat (listed_parameter text) s.parameters) (flat (listed_parameter text) qs)) in
        record {
          opens = up_to at (at + length line) s.opens (omega arith) w.opens;
          components = omega (arith, w.components);
          properties = omega (arith, n, w.properties, o.some, o.fewer);
          size =
              omega (
                arith,
                n,
                m,
                f,
                w.size,
                o.behind,
                o.value,
                added text (listed_property text) s.properties r,
                property_few text r (owner s.opens w.opens h),
                parameters_few text (length s.properties) ps (number_few (length s.properties) (omega (arith, w.properties))),
                params_apart (at + p.key.len) 0 (drop p.key.len line),
                used_moved (at + p.key.len) (drop p.key.len line),
              );
        }

  step : (at : ℕ) (s : State) → Sized text at s → at ≤ longest_listed → (from line : List ℕ) → (l : Line) → Sound line l
      → check_of from line l s.opens ≡ fine → Sized text (at + length line) (after at line l s)
  step at s w short from line Empty o c = further at (at + length line) s (omega arith) w
  step at s w short from line (Begin name) o c = begin at s w short line name o (omega (arith, deep s.opens c))
  step at s w short from line BadBegin o c = further at (at + length line) s (omega arith) w
  step at s w short from line (End rest) o c =
      further at (at + length line) (after at line (End rest) s) (omega arith)
      (record { opens = closing at s w short line s.opens w.opens; components = w.components; properties = w.properties; size = w.size })
  step at s w short from line (Content p) o c = content at s w short line p o c
  step at s w short from line (Bad fault) o c = further at (at + length line) s (omega arith) w

  sized : (from : List ℕ) (s : State) → length from ≤ longest_listed → run_of from ≡ finished s → Sized text (length from) s
  unfolding flat UpTo
  sized from s short e =
      at_the_end from (Sized text) further (λ at s w line fits l o c. step at s w (omega arith) from line l o c)
      (record { opens = tt; components = omega arith; properties = omega arith; size = omega arith }) s e

-- ---- the listing

lines_flat : {A : Type 0} (line : A → List ℕ) (f : ℕ → List ℕ) (rows : List A) (n : ℕ) → ((i : ℕ) (d : A) → i < length rows → f (n + i) ≡ line (get_or rows i d))
    → listed_rows f n (length rows) ≡ flat line rows
unfolding listed_rows flat
lines_flat line f [] n same = refl
lines_flat line f (r ∷ rows) n same =
    let e : f n ≡ line r = rw add-zero at (same 0 r (omega arith)) in
    rw (e, lines_flat line f rows (n + 1) (λ i d h. let m : n + 1 + i ≡ n + suc i = omega arith in rw m (same (suc i) d (omega arith))))

module _ {A : Type 0} {size : ℕ} {words : A → List ℕ} {from : List ℕ → ℕ → A} (shape : Shape size words from) (line : A → List ℕ) where
  lines_of : (rows : List A) (n : ℕ) (old : List ℕ) → n ≡ length rows → n ≤ length old / size
      → listed_rows (λ (i : ℕ). line (row_at size from (laid (flat words rows) old) i)) 0 n ≡ flat line rows
  lines_of rows n old e h =
      let f : length (flat words rows) ≤ length old = rw (length_flat shape rows, ← e) (omega (arith, (le-div_iff_mul-le shape.some).0 h, mul_comm size n)) in
      rw (e, whole (flat words rows) old f)
      (lines_flat line _ rows 0 (λ i d l. rw zero-add (ap line (read_back shape rows (drop (length (flat words rows)) old) i d l))))

number_then : (n end : ℕ) (rest : List ℕ) → length (field (decimal n) end ++ rest) ≤ 21 + length rest
number_then n end rest = omega (arith, length-append (field (decimal n) end) rest, length_field (decimal n) end, digits_most 20 n)

section_few : (which : Section) (count : ℕ) (lines : List ℕ) → length (heading which ++ (field (decimal count) lf ++ lines)) ≤ 32 + length lines
section_few which count lines = omega (arith, length-append (heading which) (field (decimal count) lf ++ lines), words which, number_then count lf lines)
  where
    words : (which : Section) → length (heading which) ≡ 11
    words Components = refl
    words Properties = refl
    words Parameters = refl

refused_few : (r : Reading) → length (refused r) ≤ listing_room
refused_few r =
    let f5 = field (decimal r.properties) space ++ field (decimal r.parameters) lf in
    let f4 = field (decimal r.components) space ++ f5 in
    let f3 = field (decimal r.length) space ++ f4 in
    let f2 = field (decimal r.place) space ++ f3 in
    omega (
      arith,
      length-append (field (114 ∷ 101 ∷ 102 ∷ 117 ∷ 115 ∷ 101 ∷ 100 ∷ []) space) (field (decimal r.answer) space ++ f2),
      number_then r.answer space f2,
      number_then r.place space f3,
      number_then r.length space f4,
      number_then r.components space f5,
      number_then r.properties space (field (decimal r.parameters) lf),
      length_field (decimal r.parameters) lf,
      digits_most 20 r.parameters,
    )

-- so many rows of a text that is listed
sections_few : (r : Reading) (s : State) (text c p q : List ℕ) {n : ℕ} → Sized text n s → n ≤ longest_listed
    → record { components = r.components; properties = r.properties; parameters = r.parameters } ≡ counts_of s
    → r.components ≤ length c / component_size → r.properties ≤ length p / property_size → r.parameters ≤ length q / parameter_size
    → r.components ≤ 128 → r.properties ≤ 512 → r.parameters ≤ 512
    → length (section_text Components text (laid (flat component_words s.components) c) r.components
    ++ (section_text Properties text (laid (flat property_words s.properties) p) r.properties
    ++ section_text Parameters text (laid (flat parameter_words s.parameters) q) r.parameters)) ≤ listing_room
sections_few r s text c p q w short counts hc hp hq mc mp mq =
    let nc : r.components ≡ length s.components = ap (λ (k : Counts). k.components) counts in
    let np : r.properties ≡ length s.properties = ap (λ (k : Counts). k.properties) counts in
    let nq : r.parameters ≡ length s.parameters = ap (λ (k : Counts). k.parameters) counts in
    let lc = flat (listed_component text) s.components in
    let lp = flat (listed_property text) s.properties in
    let lq = flat (listed_parameter text) s.parameters in
    let tc = heading Components ++ (field (decimal r.components) lf ++ lc) in
    let tp = heading Properties ++ (field (decimal r.properties) lf ++ lp) in
    let tq = heading Parameters ++ (field (decimal r.parameters) lf ++ lq) in
    rw (
      lines_of component_shape (listed_component text) s.components r.components c nc hc,
      lines_of property_shape (listed_property text) s.properties r.properties p np hp,
      lines_of parameter_shape (listed_parameter text) s.parameters r.parameters q nq hq,
    )
    (omega (
      arith,
      w.size,
      length-append tc (tp ++ tq),
      length-append tp tq,
      section_few Components r.components lc,
      section_few Properties r.properties lp,
      section_few Parameters r.parameters lq,
    ))

module _ (feed : List ℕ) (b : Lent) (c : (room_in b).components ≤ 128) (p : (room_in b).properties ≤ 512) (q : (room_in b).parameters ≤ 512) where
  listed_few : length feed ≤ longest_listed → (t : Bool) → eqb (read_into feed b).answer done ≡ t → length (listed (read_into feed b) (left feed b)) ≤ listing_room
  listed_few short true e =
      let w = done_within feed (length b.text) (room_in b) (eqb-true _ _ e) in
      let s = w.read.state in
      let z = sized (left feed b).text (unfolded feed) s (omega (arith, length_unfolded feed)) w.read.run in
      rw (e, w.read.run)
      (sections_few (read_into feed b) s (left feed b).text b.components b.properties b.parameters z (omega (arith, length_unfolded feed)) w.read.counts
      w.components w.properties w.parameters (omega (arith, w.components)) (omega (arith, w.properties)) (omega (arith, w.parameters)))
  listed_few short false e = rw e (refused_few (read_into feed b))

  pub listing_few : length (listing feed b) ≤ listing_room
  listing_few = go (leb (length feed) longest_listed) refl
    where
      go : (t : Bool) → leb (length feed) longest_listed ≡ t → length (pick t (listed (read_into feed b) (left feed b)) (refused (refusal too_long 0 0))) ≤ listing_room
      go true e = listed_few (leb-true _ _ e) (eqb (read_into feed b).answer done) refl
      go false e = refused_few (refusal too_long 0 0)

-- in the lister's own rooms
pub listing_fits : (feed : List ℕ) → length (listing_of feed) ≤ listing_room
unfolding listing_of
listing_fits feed = listing_few feed rooms (omega arith) (omega arith) (omega arith)
