-- The parameters of a line, as the line grammar has them and as they are found, with the same rows. Assumes nothing.
use mathlib.Core.Path.{◌≡◌, refl, sym, ap, subst, ◌∙◌}
use mathlib.Core.Bool.{Bool, true, false, not, ◌||◌, false≢true}
use mathlib.Core.List.{List, [], ◌∷◌, ◌++◌, map, append_assoc}
use Prim.Native.Nat.{ℕ, zero, suc, ◌+◌, ◌≤◌}
use native.Mathlib.Omega.{arith}
use lib.ListN.{length, get_or, drop, length-append}
use lib.Seq.{drop-append-add, drop-append_seam, get_or-append-add}
use lib.Dec.{eqb}
use borrow.Author.Tests.{eqb-true, eqb-false}
use Rattle.std.specs.Prelude.{Option, Some, None}
use Rattle.octets.specs.Bytes.{tab, space, quote, colon, semicolon, equals, blank, key_byte, bare}
use Rattle.octets.specs.Runs.{run}
use Rattle.octets.proofs.Runs.{no_run, through}
use Rattle.parameters.specs.Values.{form_of, form_used, span, value_at}
use Rattle.parameters.specs.Parameter.{key_offset, param, front_of}
use Rattle.parameters.specs.Parameters.{moved, params_after, params_used}
use Rattle.parameters.specs.declared.Form.{Form}
use Rattle.parameters.specs.declared.Form.TheVariants.{Nothing, Bare, Quoted, Listed}
use Rattle.parameters.specs.declared.Value.TheVariants.{Absent}
use Rattle.parameters.specs.declared.Param.{Param}
use Rattle.parameters.proofs.Laws.{front_bare, front_form, found_is}
use Rattle.parameters.proofs.Lists.{turn, stop}
use Rattle.parameters.proofs.RoundTrip.{Ends}
use Rattle.tables.specs.declared.ParameterRow.{ParameterRow}
use Rattle.nesting.specs.Rows.{parameter_row}
use Rattle.demands.specs.LineGrammar.{Every, in_quotes, Given, no_value, no_bytes, as_it_is, one_part, parts, Parameters, no_parameter, parameter}
use Rattle.demands.proofs.SaidWords.{every_run, split, begins}
use Rattle.demands.proofs.SaidValues.{row_with, Formed, formed, nothing_is, bare_is, quoted_is_one, listed_is}

-- ---- the front of a parameter: `;`, blanks and the key

module _ (blanks key ys : List ℕ) (b : Every blank blanks) (k : Every key_byte key) (gap : blank (get_or (key ++ ys) 0 colon) ≡ false)
    (off : key_byte (get_or ys 0 colon) ≡ false) where
  abbrev whole : List ℕ
  whole = semicolon ∷ (blanks ++ (key ++ ys))

  starts : 1 + length blanks ≡ key_offset whole
  starts = omega (arith, through blank blanks (key ++ ys) (every_run blank blanks b), no_run blank (key ++ ys) colon gap)

  left : drop (1 + length blanks) whole ≡ key ++ ys
  left = let n : 1 + length blanks ≡ suc (length blanks) = omega arith in rw n (drop-append_seam blanks (key ++ ys))

  runs : length key ≡ run key_byte (drop (1 + length blanks) whole)
  runs = rw left (omega (arith, through key_byte key ys (every_run key_byte key k), no_run key_byte ys colon off))

  next : get_or whole (1 + length blanks + length key) 0 ≡ get_or ys 0 0
  next =
      let n : 1 + length blanks + length key ≡ suc (length blanks + (length key + 0)) = omega arith in
      rw n (get_or-append-add blanks (key ++ ys) (length key + 0) 0 ∙ get_or-append-add key ys 0 0)

  behind : drop (1 + length blanks + length key + 1) whole ≡ drop 1 ys
  behind =
      let n : 1 + length blanks + length key + 1 ≡ suc (length blanks + (length key + 1)) = omega arith in
      rw n (drop-append-add blanks (key ++ ys) (length key + 1) ∙ drop-append-add key ys 1)

  -- no `=` behind the key
  front_without : (get_or ys 0 0 ≡ equals → ⊥)
      → Some (param (span (1 + length blanks) (length key)) Absent (1 + length blanks + length key)) ≡ front_of whole
  front_without h = front_bare whole refl (1 + length blanks) starts (length key) runs (λ q. h (sym next ∙ q))

  -- an `=`, and what stands behind it
  pub front_with : (form : Form) → get_or ys 0 0 ≡ equals → form ≡ form_of (drop 1 ys)
      → Some
      (param (span (1 + length blanks) (length key)) (value_at (1 + length blanks + length key + 1) form) (1 + length blanks + length key + 1 + form_used form))
      ≡ front_of whole
  front_with form h is =
      front_form whole refl (1 + length blanks) starts (length key) runs (next ∙ h) form (is ∙ ap form_of (sym behind))

-- ---- one parameter

-- the parameter takes these bytes, and has this row
pub record Shows (number at : ℕ) (blanks key value : List ℕ) (present start len : ℕ) (p : Param) : Type 0 where
  pub used : p.used ≡ 1 + length blanks + length key + length value
  row : parameter_row number (moved at p) ≡ row_with number (at + 1 + length blanks) (length key) present start len

-- a parameter of the grammar stands at the front, and it is p
record One (number at : ℕ) (xs : List ℕ) (p : Param) : Type 0 where
  blanks : List ℕ
  key : List ℕ
  value : List ℕ
  rest : List ℕ
  present : ℕ
  start : ℕ
  len : ℕ
  is : xs ≡ semicolon ∷ (blanks ++ (key ++ (value ++ rest)))
  blank_every : Every blank blanks
  key_every : Every key_byte key
  given : Given (at + 1 + length blanks + length key) rest value present start len
  shows : Shows number at blanks key value present start len p

key_at : (number size present start len : ℕ) {key key' : ℕ} → key ≡ key' → row_with number key size present start len ≡ row_with number key' size present start len
key_at number size present start len e = ap (λ (key : ℕ). row_with number key size present start len) e

module _ (number at : ℕ) (blanks key : List ℕ) where
  abbrev without : Param
  without = param (span (1 + length blanks) (length key)) Absent (1 + length blanks + length key)

  abbrev with_form : Form → Param
  with_form form =
      param (span (1 + length blanks) (length key)) (value_at (1 + length blanks + length key + 1) form) (1 + length blanks + length key + 1 + form_used form)

  shows_without : Shows number at blanks key [] 0 0 0 without
  shows_without = record { used = omega arith; row = key_at number (length key) 0 0 0 (omega arith) }

  place : at + 1 + length blanks + length key ≡ at + (1 + length blanks + length key)
  place = omega arith

  abbrev FormedHere : List ℕ → Form → Type 0
  FormedHere = Formed at (1 + length blanks + length key) (at + 1 + length blanks + length key) place

  shows_with : (zs : List ℕ) (form : Form) (f : FormedHere zs form) → Shows number at blanks key (equals ∷ f.value) f.present f.start f.len (with_form form)
  shows_with zs form f = record {
    used = omega (arith, f.used);
    row = f.row number (at + (1 + length blanks)) (length key) ∙ key_at number (length key) f.present f.start f.len (omega arith);
  }

  -- what is found is a parameter of the grammar
  module _ (b : Every blank blanks) (k : Every key_byte key) where
    one_of : (ys : List ℕ) → blank (get_or (key ++ ys) 0 colon) ≡ false → key_byte (get_or ys 0 colon) ≡ false
        → (p : Param) → front_of (semicolon ∷ (blanks ++ (key ++ ys))) ≡ Some p → One number at (semicolon ∷ (blanks ++ (key ++ ys))) p
    one_of ys gap off p h = go ys refl
      where
        no_equals : (get_or ys 0 0 ≡ equals → ⊥) → One number at (semicolon ∷ (blanks ++ (key ++ ys))) p
        no_equals n =
            let e : without ≡ p = let q = front_without blanks key ys b k gap off n in cc in
            record {
              blanks = blanks;
              key = key;
              value = [];
              rest = ys;
              present = 0;
              start = 0;
              len = 0;
              is = refl;
              blank_every = b;
              key_every = k;
              given = no_value;
              shows = rw (← e) shows_without;
            }

        with_equals : (zs : List ℕ) → ys ≡ equals ∷ zs → One number at (semicolon ∷ (blanks ++ (key ++ ys))) p
        with_equals zs is =
            let f : FormedHere zs (form_of zs) = formed at (1 + length blanks + length key) (at + 1 + length blanks + length key) place zs in
            let e : with_form (form_of zs) ≡ p =
            let q = front_with blanks key ys b k gap off (form_of zs) (ap (λ (l : List ℕ). get_or l 0 0) is) (sym (ap (λ (l : List ℕ). form_of (drop 1 l)) is)) in cc in
            record {
              blanks = blanks;
              key = key;
              value = equals ∷ f.value;
              rest = f.rest;
              present = f.present;
              start = f.start;
              len = f.len;
              is = ap (λ (l : List ℕ). semicolon ∷ (blanks ++ (key ++ l))) (is ∙ ap (◌∷◌ equals) f.is);
              blank_every = b;
              key_every = k;
              given = f.given;
              shows = rw (← e) (shows_with zs (form_of zs) f);
            }

        go : (l : List ℕ) → ys ≡ l → One number at (semicolon ∷ (blanks ++ (key ++ ys))) p
        go [] e = no_equals (λ q. let z : ◌≡◌ {A = ℕ} 0 equals = sym (ap (λ (l : List ℕ). get_or l 0 0) e) ∙ q in omega arith)
        go (y ∷ zs) e = by (eqb y equals) refl
          where
            by : (t : Bool) → eqb y equals ≡ t → One number at (semicolon ∷ (blanks ++ (key ++ ys))) p
            by true q = with_equals zs (e ∙ ap (λ (x : ℕ). x ∷ zs) (eqb-true y equals q))
            by false q = no_equals (λ r. eqb-false y equals q (sym (ap (λ (l : List ℕ). get_or l 0 0) e) ∙ r))

one : (number at : ℕ) (xs : List ℕ) (p : Param) → front_of xs ≡ Some p → One number at xs p
one number at xs p h =
    let s = begins xs (found_is xs h).0 in
    let b = split blank colon refl s.0 in
    let k = split key_byte colon refl b.back in
    let is : xs ≡ semicolon ∷ (b.front ++ (k.front ++ k.back)) = s.1 ∙ ap (◌∷◌ semicolon) (b.is ∙ ap (λ (l : List ℕ). b.front ++ l) k.is) in
    let gap : blank (get_or (k.front ++ k.back) 0 colon) ≡ false = ap (λ (l : List ℕ). blank (get_or l 0 colon)) (sym k.is) ∙ b.stops in
    subst (λ (l : List ℕ). One number at l p) (sym is)
    (one_of number at b.front k.front b.every k.every k.back gap k.stops p (ap front_of (sym is) ∙ h))

-- ---- all parameters

-- a parameter at the front, and then those behind it
module _ (number at : ℕ) (blanks key value rest : List ℕ) {present start len : ℕ} {p : Param} (s : Shows number at blanks key value present start len p) where
  abbrev from : List ℕ
  from = semicolon ∷ (blanks ++ (key ++ (value ++ rest)))

  abbrev past : ℕ
  past = at + 1 + length blanks + length key + length value

  size_from : length from ≡ suc (length blanks + (length key + (length value + length rest)))
  size_from =
      omega (arith, length-append blanks (key ++ (value ++ rest)), length-append key (value ++ rest), length-append value rest)

  rest_left : drop p.used from ≡ rest
  rest_left =
      let n : p.used ≡ suc (length blanks + (length key + (length value + 0))) = omega (arith, s.used) in
      rw n
      (drop-append-add blanks (key ++ (value ++ rest)) (length key + (length value + 0))
      ∙ drop-append-add key (value ++ rest) (length value + 0)
      ∙ drop-append-add value rest 0)

  turned : front_of from ≡ Some p → params_after at 0 from ≡ moved at p ∷ params_after past 0 rest
  turned h =
      let n : at + p.used ≡ past = omega (arith, s.used) in
      turn at from p h ∙ rw (rest_left, n)

  pub used_turned : front_of from ≡ Some p → params_used (params_after at 0 from) ≡ p.used + params_used (params_after past 0 rest)
  unfolding params_used
  used_turned h = ap params_used (turned h)

  rows_turned : front_of from ≡ Some p
      → map (parameter_row number) (params_after at 0 from)
      ≡ row_with number (at + 1 + length blanks) (length key) present start len ∷ map (parameter_row number) (params_after past 0 rest)
  rows_turned h =
      ap (map (parameter_row number)) (turned h) ∙ ap (λ (r : ParameterRow). r ∷ map (parameter_row number) (params_after past 0 rest)) s.row

-- the parameters that are found are those of the grammar before what they leave
pub record FoundAll (number at : ℕ) (xs : List ℕ) : Type 0 where
  pub text : List ℕ
  pub tail : List ℕ
  pub is : xs ≡ text ++ tail
  pub size : params_used (params_after at 0 xs) ≡ length text
  pub parameters : Parameters number tail at text (map (parameter_row number) (params_after at 0 xs))
  pub no_more : front_of tail ≡ None

-- none is found
found_none : (number at : ℕ) (xs : List ℕ) → front_of xs ≡ None → FoundAll number at xs
unfolding params_used
found_none number at xs h =
    let e = stop at xs h in
    record { text = []; tail = xs; is = refl; size = ap params_used e; parameters = rw e no_parameter; no_more = h }

-- one is found, and then those behind it
found_one : (number at : ℕ) (xs : List ℕ) (p : Param) → front_of xs ≡ Some p → (o : One number at xs p)
    → FoundAll number (past number at o.blanks o.key o.value o.rest o.shows) o.rest → FoundAll number at xs
found_one number at xs p h o later =
    let text : List ℕ = semicolon ∷ (o.blanks ++ (o.key ++ (o.value ++ later.text))) in
    let found = ap front_of (sym o.is) ∙ h in
    let used = used_turned number at o.blanks o.key o.value o.rest o.shows found in
    let rows = rows_turned number at o.blanks o.key o.value o.rest o.shows found in
    record {
      text = text;
      tail = later.tail;
      is = o.is ∙ ap (λ (l : List ℕ). semicolon ∷ (o.blanks ++ (o.key ++ (o.value ++ l)))) later.is ∙ simp append_assoc;
      size =
          ap (λ (l : List ℕ). params_used (params_after at 0 l)) o.is
          ∙ omega (arith, used, o.shows.used, later.size, size_from number at o.blanks o.key o.value later.text o.shows);
      parameters =
          subst (Parameters number later.tail at text) (sym (ap (λ (l : List ℕ). map (parameter_row number) (params_after at 0 l)) o.is ∙ rows))
          (parameter o.blanks o.key o.blank_every o.key_every (rw later.is at o.given) later.parameters);
      no_more = later.no_more;
    }

-- by a bound of the bytes that are left
pub found_all : (n number at : ℕ) (xs : List ℕ) → length xs ≤ n → FoundAll number at xs
found_all zero number at xs l = go (front_of xs) refl
  where
    go : (f : Option Param) → front_of xs ≡ f → FoundAll number at xs
    go None e = found_none number at xs e
    go (Some p) e = absurd (omega (arith, ap length (one number at xs p e).is))
found_all (suc n) number at xs l = go (front_of xs) refl (λ at' ys l'. found_all n number at' ys l')
  where
    go : (f : Option Param) → front_of xs ≡ f → ((at' : ℕ) (ys : List ℕ) → length ys ≤ n → FoundAll number at' ys) → FoundAll number at xs
    go None e ih = found_none number at xs e
    go (Some p) e ih =
        let o = one number at xs p e in
        let fewer : length o.rest ≤ n = omega (arith, ap length o.is, size_from number at o.blanks o.key o.value o.rest o.shows) in
        found_one number at xs p e o (ih (past number at o.blanks o.key o.value o.rest o.shows) o.rest fewer)

-- ---- and the other way round: the parameters of the grammar are found

-- no byte that ends a parameter is of a class that has neither `;` nor `:`
pub ends_off : (class : ℕ → Bool) → class semicolon ≡ false → class colon ≡ false → (x : ℕ) → bare x ≡ false → class x ≡ false
ends_off class s c x h = go (eqb x semicolon) (eqb x colon) refl refl (ap not h)
  where
    go : (t u : Bool) → eqb x semicolon ≡ t → eqb x colon ≡ u → not (not (t || u)) ≡ true → class x ≡ false
    go true u p q r = ap class (eqb-true x semicolon p) ∙ s
    go false true p q r = ap class (eqb-true x colon q) ∙ c
    go false false p q r = absurd (false≢true r)

pub key_no_blank : (x : ℕ) → key_byte x ≡ true → blank x ≡ false
key_no_blank x h = go (eqb x space) (eqb x tab) refl refl
  where
    go : (s t : Bool) → eqb x space ≡ s → eqb x tab ≡ t → s || t ≡ false
    go true t p q = sym h ∙ ap key_byte (eqb-true x space p)
    go false true p q = sym h ∙ ap key_byte (eqb-true x tab q)
    go false false p q = refl

pub no_gap : (key ys : List ℕ) → Every key_byte key → blank (get_or ys 0 colon) ≡ false → blank (get_or (key ++ ys) 0 colon) ≡ false
no_gap [] ys k h = h
no_gap (x ∷ key) ys k h = key_no_blank x k.0

row_at : (number size len : ℕ) {key key' start start' : ℕ} → key ≡ key' → start ≡ start' → row_with number key size 1 start len ≡ row_with number key' size 1 start' len
row_at number size len p q = cc

-- the parameter at the front is p
pub record Taken (number at : ℕ) (blanks key value rest : List ℕ) (present start len : ℕ) (p : Param) : Type 0 where
  pub found : front_of (semicolon ∷ (blanks ++ (key ++ (value ++ rest)))) ≡ Some p
  pub shows : Shows number at blanks key value present start len p

module _ (number at : ℕ) (blanks key : List ℕ) (b : Every blank blanks) (k : Every key_byte key) where
  -- a value of this form
  taken_form : (value rest : List ℕ) (form : Form) {present start len : ℕ} → form ≡ form_of (value ++ rest)
      → Shows number at blanks key (equals ∷ value) present start len (with_form number at blanks key form)
      → Taken number at blanks key (equals ∷ value) rest present start len (with_form number at blanks key form)
  taken_form value rest form is s =
      record { found = sym (front_with blanks key (equals ∷ (value ++ rest)) b k (no_gap key (equals ∷ (value ++ rest)) k refl) refl form refl is); shows = s }

  pub taken : {value rest : List ℕ} {present start len : ℕ} → Given (at + 1 + length blanks + length key) rest value present start len → Ends rest
      → (p : Param) × Taken number at blanks key value rest present start len p
  taken {rest = rest} no_value e = (
    without number at blanks key,
    record {
      found =
          sym
          (front_without blanks key rest b k (no_gap key rest k (ends_off blank refl refl (get_or rest 0 colon) e))
          (ends_off key_byte refl refl (get_or rest 0 colon) e) (no_equals rest e));
      shows = shows_without number at blanks key;
    },
  )
    where
      no_equals : (rest : List ℕ) → Ends rest → get_or rest 0 0 ≡ equals → ⊥
      no_equals [] e q = omega arith
      no_equals (x ∷ rest) e q = false≢true (sym e ∙ ap bare q)
  taken {rest = rest} no_bytes e = (
    with_form number at blanks key Nothing,
    taken_form [] rest Nothing (nothing_is rest e) (record { used = omega arith; row = key_at number (length key) 0 0 0 (omega arith) }),
  )
  taken {rest = rest} (as_it_is {value = value} s u) e = (
    with_form number at blanks key (Bare (length value)),
    taken_form value rest (Bare (length value)) (bare_is rest e value s u)
        (record { used = omega arith; row = row_at number (length key) (length value) (omega arith) (omega arith) }),
  )
  taken {rest = rest} (one_part {inside = inside} i) e = (
    with_form number at blanks key (Quoted (length inside)),
    taken_form (in_quotes inside) rest (Quoted (length inside)) (quoted_is_one rest e inside i)
        (record {
          used = omega (arith, length-append inside (quote ∷ []));
          row = row_at number (length key) (length inside) (omega arith) (omega arith);
        }),
  )
  taken {rest = rest} (parts {inside = inside} {further = further} i f) e = (
    with_form number at blanks key (Listed (length (in_quotes inside ++ further))),
    taken_form (in_quotes inside ++ further) rest (Listed (length (in_quotes inside ++ further))) (listed_is rest e inside further i f)
        (record {
          used = omega arith;
          row = row_at number (length key) (length (in_quotes inside ++ further)) (omega arith) (omega arith);
        }),
  )

-- behind a parameter stands what ends it
pub ends_behind : {number at : ℕ} {text tail : List ℕ} {rows : List ParameterRow} → Parameters number tail at text rows → Ends tail → Ends (text ++ tail)
ends_behind no_parameter e = e
ends_behind (parameter blanks key b k g ps) e = refl

-- these rows are those of the parameters that are found, and these bytes are theirs
pub record ReadAll (number at : ℕ) (text tail : List ℕ) (rows : List ParameterRow) : Type 0 where
  pub rows_are : rows ≡ map (parameter_row number) (params_after at 0 (text ++ tail))
  pub size : params_used (params_after at 0 (text ++ tail)) ≡ length text

-- a parameter at the front, and then those behind it
read_one : (number at : ℕ) (blanks key value later tail : List ℕ) {present start len : ℕ} {rows : List ParameterRow} {p : Param}
    → Taken number at blanks key value (later ++ tail) present start len p → ReadAll number (at + 1 + length blanks + length key + length value) later tail rows
    → ReadAll number at (semicolon ∷ (blanks ++ (key ++ (value ++ later)))) tail
    (row_with number (at + 1 + length blanks) (length key) present start len ∷ rows)
read_one number at blanks key value later tail {present} {start} {len} {rows} {p} t ih =
    let regroup : (semicolon ∷ (blanks ++ (key ++ (value ++ later)))) ++ tail ≡ semicolon ∷ (blanks ++ (key ++ (value ++ (later ++ tail)))) = simp append_assoc in
    record {
      rows_are =
          ap (◌∷◌ (row_with number (at + 1 + length blanks) (length key) present start len)) ih.rows_are
          ∙ sym (rows_turned number at blanks key value (later ++ tail) t.shows t.found)
          ∙ ap (λ (l : List ℕ). map (parameter_row number) (params_after at 0 l)) (sym regroup);
      size =
          ap (λ (l : List ℕ). params_used (params_after at 0 l)) regroup
          ∙ omega (
            arith,
            used_turned number at blanks key value (later ++ tail) t.shows t.found,
            t.shows.used,
            ih.size,
            size_from number at blanks key value later t.shows,
          );
    }

pub read_all : {number : ℕ} {tail : List ℕ} {at : ℕ} {text : List ℕ} {rows : List ParameterRow} → Parameters number tail at text rows → front_of tail ≡ None → Ends tail
    → ReadAll number at text tail rows
unfolding params_used
read_all {tail = tail} {at = at} no_parameter n e = let s = stop at tail n in record { rows_are = rw s; size = ap params_used s }
read_all {number} {tail = tail} {at = at} (parameter blanks key {value = value} {later = later} b k g ps) n e =
    read_one number at blanks key value later tail (taken number at blanks key b k g (ends_behind ps e)).1 (read_all ps n e)
