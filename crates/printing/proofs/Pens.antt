-- Laws of a line that is laid piece by piece: pieces in turn, the parameters of a property in turn, and the CRLF behind it. Assumes nothing.
use mathlib.Core.Path.{◌≡◌, refl, sym, ◌∙◌}
use mathlib.Core.Bool.{true}
use mathlib.Core.List.{List, [], ◌∷◌, ◌++◌, append_assoc, append-nil}
use Prim.Native.Nat.{ℕ, ◌+◌, ◌-◌, ◌≤◌, ◌<◌, ◌/◌, max}
use native.Mathlib.Omega.{arith}
use lib.ListN.{length, drop, length-drop}
use borrow.Author.Tests.{eq-eqb, ne_eqb, eqb-true}
use Rattle.octets.specs.Laid.{most, Lays}
use Rattle.octets.specs.Bytes.{cr, lf, quote, colon, semicolon, equals, ascii}
use Rattle.octets.specs.Runs.{run, only}
use Rattle.octets.specs.Words.{begin_word, end_word}
use Rattle.octets.specs.Views.{viewed}
use Rattle.octets.proofs.Runs.{no_run}
use Rattle.octets.proofs.Writing.{length_from, both, from_as, stays}
use Rattle.characters.specs.Units.{tail, units_from, units}
use Rattle.characters.proofs.Units.{ascii_alone, before_start, behind_ascii}
use Rattle.folding.specs.Strict.{first, folded_units, left_after}
use Rattle.folding.proofs.Strict.{fold_append, left_append, fold_fits, left_fits}
use Rattle.tables.specs.Rows.{parameter_size, parameter_at}
use Rattle.tables.specs.Trees.{Parameter, present, parameter_of}
use Rattle.tables.specs.Fronts.{belongs, own_parameters}
use Rattle.tables.specs.Lent.{parameters_in}
use Rattle.tables.specs.declared.ParameterRow.{ParameterRow}
use Rattle.tables.proofs.Laws.{row_here, rows_end, length_rows}
use Rattle.tables.proofs.Fronts.{on, stop, ended, run_on, run_none, within, each}
use Rattle.printing.specs.Lines.{closed_line, value_text, parameter_text, parameters_text}
use Rattle.printing.specs.Pens.{Penned, behind_run, behind, key_of, value_of, own_of, line_of}
use Rattle.printing.specs.declared.Pen.{Pen}
use Rattle.printing.specs.declared.Line.{Line}

-- two pieces in turn are one, if no character reaches from one into the other
module _ {pen mid next : Pen} {xs ys old out new : List ℕ} (p : Penned pen xs old out mid) (q : Penned mid ys out new next) (h : length old ≤ most) where
  then : units (xs ++ ys) ≡ units xs ++ units ys → Penned pen (xs ++ ys) old new next
  then apart =
      let e : folded_units pen.left (units xs) ++ folded_units mid.left (units ys) ≡ folded_units pen.left (units (xs ++ ys)) =
      rw (apart, fold_append pen.left (units xs) (units ys), p.left) in
      record {
        left = q.left ∙ rw (apart, left_append pen.left (units xs) (units ys), p.left);
        lays = from_as e (both p.lays q.lays h);
      }

  -- the first of them is ASCII
  pub behind_mark : only ascii xs ≡ true → Penned pen (xs ++ ys) old new next
  behind_mark e = then (behind_ascii xs ys e)

  -- or the second begins with it
  pub before_mark : run tail ys ≡ 0 → Penned pen (xs ++ ys) old new next
  before_mark e = then (before_start xs ys e)

-- a byte of ASCII is ASCII by itself, and ends the character before; what opens a quoted value is ASCII
pub one_mark : (b : ℕ) → ascii b ≡ true → only ascii (b ∷ []) ≡ true
unfolding run
one_mark b e = rw e refl

pub marks_front : (b : ℕ) (rest : List ℕ) → ascii b ≡ true → run tail (b ∷ rest) ≡ 0
marks_front b rest e = no_run tail (b ∷ rest) 0 (ascii_alone b e).0

pub two_marks : only ascii (equals ∷ quote ∷ []) ≡ true
unfolding run
two_marks = refl

-- and so is what opens or closes a component
pub begin_mark : only ascii (begin_word ++ colon ∷ []) ≡ true
unfolding run
begin_mark = refl

pub end_mark : only ascii (end_word ++ colon ∷ []) ≡ true
unfolding run
end_mark = refl

-- a piece that the physical line takes whole is laid as it is
pub whole : {pen next : Pen} {piece old new : List ℕ} → length piece ≤ pen.left → next.left ≡ pen.left - length piece
    → Lays pen.at piece old new next.at → Penned pen piece old new next
whole {pen} {next} {piece} h e p = record { left = e ∙ sym (left_fits pen.left piece h); lays = from_as (sym (fold_fits pen.left piece h)) p }

-- no piece
pub nothing : (pen : Pen) (old : List ℕ) → pen.at ≤ most → Penned pen [] old old pen
unfolding units_from folded_units left_after
nothing pen old h = record { left = refl; lays = stays pen.at old h }

pub piece_as : {pen next : Pen} {xs ys old new : List ℕ} → xs ≡ ys → Penned pen xs old new next → Penned pen ys old new next
piece_as e p = rw e at p

-- the whole line, and CRLF behind it
pub closed : {next : Pen} {line old out new : List ℕ} {n : ℕ} → Penned (record { left = first; at = 0 }) line old out next
    → Lays next.at (cr ∷ lf ∷ []) out new n → length old ≤ most → Lays 0 (closed_line line) old new n
closed p q h = both p.lays q h

-- ---- the line of a property

-- of its parts: key, parameters, and the value behind a colon
pub parts : (l : Line) → (key_of l ++ parameters_text (own_of l)) ++ colon ∷ value_of l ≡ line_of l
parts l = append_assoc (key_of l) (parameters_text (own_of l)) (colon ∷ value_of l)

-- and without parameters
pub bare : (l : Line) {line : List ℕ} → l.first ≡ behind l → line ≡ key_of l ++ colon ∷ value_of l → line ≡ line_of l
unfolding parameters_text
bare l none e =
    let rows = drop l.first (parameters_in l.tables.now.parameters.now) in
    e ∙ rw (run_none (belongs l.number) rows (omega arith))

-- ---- one parameter

pub key_alone : (text : List ℕ) (p : ParameterRow) {key : List ℕ} → key ≡ viewed text p.key_start p.key_len → p.present ≡ 0
    → semicolon ∷ key ≡ parameter_text (parameter_of text p)
key_alone text p e f = rw (e, eq-eqb p.present 0 f, append-nil)

pub with_value : (text : List ℕ) (p : ParameterRow) {key value : List ℕ}
    → key ≡ viewed text p.key_start p.key_len → value ≡ viewed text p.value_start p.value_len → (p.present ≡ 0 → ⊥)
    → semicolon ∷ (key ++ value_text (present value)) ≡ parameter_text (parameter_of text p)
with_value text p e f g = rw (e, f, ne_eqb p.present 0 g)

-- the text of parameters begins with `;`, if there are any
pub marked : (ps : List Parameter) → run tail (parameters_text ps) ≡ 0
unfolding run parameters_text
marked [] = refl
marked (p ∷ ps) = refl

-- ---- the run of a property's parameters, row by row

module _ (table : List ℕ) (number first : ℕ) where
  abbrev rows : List ParameterRow
  rows = parameters_in table

  -- the run goes on at this row
  abbrev pub Within : ℕ → Type 0
  Within row = behind_run number row rows ≡ behind_run number first rows

  module _ {row : ℕ} (w : Within row) where
    pub one_more : row < length table / parameter_size → (parameter_at table row).property ≡ number → Within (row + 1)
    one_more h o =
        omega (
          arith,
          w,
          on (belongs number) (drop row rows) (drop (row + 1) rows) (parameter_at table row) (row_here parameter_size parameter_at table row h) (eq-eqb _ number o),
        )

    pub no_more : row < length table / parameter_size → ((parameter_at table row).property ≡ number → ⊥) → row ≡ behind_run number first rows
    no_more h o =
        omega (
          arith,
          w,
          stop (belongs number) (drop row rows) (drop (row + 1) rows) (parameter_at table row) (row_here parameter_size parameter_at table row h) (ne_eqb _ number o),
        )

    pub over : length table / parameter_size ≤ row → max (length table / parameter_size) first ≡ behind_run number first rows
    over h =
        omega (
          arith,
          w,
          ended (belongs number) (drop row rows) (rows_end parameter_size parameter_at table row h),
          within (belongs number) (drop first rows),
          length-drop first rows,
          length_rows parameter_size parameter_at table,
        )

    -- a row before the end of the run is there, and is the property's own
    pub inside : row < behind_run number first rows → row < length table / parameter_size
    inside h =
        omega (
          arith,
          w,
          within (belongs number) (drop row rows),
          length-drop row rows,
          length_rows parameter_size parameter_at table,
        )

    pub own : row < behind_run number first rows → (parameter_at table row).property ≡ number
    own h =
        let p = parameter_at table row in
        let here = row_here parameter_size parameter_at table row (inside h) in
        let e : belongs number p ≡ true = rw here at (each (belongs number) (drop row rows) 0 p (omega (arith, w))) in
        eqb-true p.property number e

-- ---- the parameters of a property: those before `row` are laid, and laying the others lays them all

abbrev own_text : Line → ℕ → List ℕ
own_text l row = parameters_text (own_parameters l.tables.now.text.now l.number row (parameters_in l.tables.now.parameters.now))

pub record Listing (l : Line) (start : Pen) (old out : List ℕ) (pen : Pen) (row : ℕ) : Type 0 where
  pub rest : {new : List ℕ} {end : Pen} → Penned pen (own_text l row) out new end → Penned start (own_text l l.first) old new end
  pub same : length out ≡ length old
  pub room : pen.at ≤ most
  pub along : Within l.tables.now.parameters.now l.number l.first row

pub begin : (l : Line) (pen : Pen) (old : List ℕ) → pen.at ≤ most → Listing l pen old old pen l.first
begin l pen old h = record { rest = λ p. p; same = refl; room = h; along = refl }

module _ {l : Line} {start : Pen} {old out : List ℕ} {pen : Pen} {row : ℕ} (s : Listing l start old out pen row) where
  -- the row is laid
  pub turn : row < behind l → length old ≤ most
      → {new : List ℕ} {end : Pen} → Penned pen (parameter_text (parameter_of l.tables.now.text.now (parameter_at l.tables.now.parameters.now row))) out new end → Listing l start old new end (row + 1)
  unfolding parameters_text
  turn h k {new} {end} laid =
      let table = l.tables.now.parameters.now in
      let rows = parameters_in table in
      let p = parameter_at table row in
      let there = inside table l.number l.first s.along h in
      let its = own table l.number l.first s.along h in
      let here = row_here parameter_size parameter_at table row there in
      let own_text_holds = run_on (belongs l.number) (drop row rows) (drop (row + 1) rows) p here (eq-eqb p.property l.number its) in
      record {
        rest = λ q. s.rest (rw own_text_holds (before_mark laid q (omega (arith, s.same)) (marked (own_parameters l.tables.now.text.now l.number (row + 1) rows))));
        same = rw laid.lays.is (length_from pen.at (folded_units pen.left (units (parameter_text (parameter_of l.tables.now.text.now p)))) out ∙ s.same);
        room = omega (arith, laid.lays.count);
        along = one_more table l.number l.first s.along there its;
      }

  -- and no other is left
  pub listed : behind l ≤ row → Penned start (parameters_text (own_of l)) old out pen
  unfolding parameters_text
  listed h =
      let rows = drop row (parameters_in l.tables.now.parameters.now) in
      s.rest (rw (run_none (belongs l.number) rows (omega (arith, s.along))) (nothing pen out s.room))
