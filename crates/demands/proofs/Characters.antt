-- A line is UTF-8 just if its values are, so that each value is checked by itself; and every line that the writer folds is UTF-8 (document 02, request 4).
-- Assumes nothing.
use mathlib.Core.Path.{◌≡◌, refl, ◌∙◌}
use mathlib.Core.Bool.{Bool, true, false, ◌&&◌, and-true, and-false}
use mathlib.Core.List.{List, [], ◌∷◌, ◌++◌}
use Prim.Native.Nat.{ℕ}
use native.Mathlib.Omega.{arith}
use lib.ListN.{length}
use lib.Dec.{leb}
use borrow.Author.Tests.{le-leb, lt-leb, leb-false, ne_eqb}
use Rattle.octets.specs.Choice.{pick}
use Rattle.octets.specs.Bytes.{quote, colon, semicolon, equals, key_byte, ascii}
use Rattle.octets.specs.Runs.{run, only}
use Rattle.octets.specs.Words.{begin_word, end_word}
use Rattle.octets.specs.All.{All}
use Rattle.octets.proofs.Bools.{both}
use Rattle.octets.proofs.Runs.{whole_wider, all_of}
use Rattle.characters.specs.Units.{tail}
use Rattle.characters.specs.Utf8.{is_utf8}
use Rattle.characters.specs.Grammar.{Utf8}
use Rattle.characters.proofs.Units.{before_start, behind_ascii}
use Rattle.characters.proofs.Utf8.{utf8_exactly, utf8_append, ascii_utf8}
use Rattle.tables.specs.Trees.{Value, absent, present, Parameter, Property, Trees}
use Rattle.quoting.specs.Quoting.{wraps, quoted}
use Rattle.writable.specs.WritingRule.{some_byte, name_fits, value_utf8}
use Rattle.printing.specs.Lines.{value_text, parameter_text, parameters_text, property_line}
use Rattle.printing.proofs.Pens.{one_mark, marks_front, begin_mark, end_mark, marked}
use Rattle.demands.specs.Returning.{lines_of, fit_parameter, FitProperty, Fit, values_utf8}
use Rattle.demands.proofs.Scanning.{each_line}

-- ---- two parts of a line

-- ASCII in front decides nothing
behind : (xs ys : List ℕ) → only ascii xs ≡ true → is_utf8 (xs ++ ys) ≡ is_utf8 ys
behind xs ys e = utf8_append xs ys (behind_ascii xs ys e) ∙ rw (ascii_utf8 xs e) refl

behind_one : (x : ℕ) (ys : List ℕ) → ascii x ≡ true → is_utf8 (x ∷ ys) ≡ is_utf8 ys
behind_one x ys e = behind (x ∷ []) ys (one_mark x e)

-- and before ASCII a character ends
before : (xs ys : List ℕ) → run tail ys ≡ 0 → is_utf8 (xs ++ ys) ≡ is_utf8 xs && is_utf8 ys
before xs ys e = utf8_append xs ys (before_start xs ys e)

none_utf8 : is_utf8 [] ≡ true
unfolding run
none_utf8 = ascii_utf8 [] refl

-- a key byte is ASCII
key_ascii : (x : ℕ) → key_byte x ≡ true → ascii x ≡ true
key_ascii x e = go (leb x 127) refl
  where
    go : (t : Bool) → leb x 127 ≡ t → t ≡ true
    go true h = refl
    go false h =
        let far = leb-false x 127 h in
        let off : key_byte x ≡ false = rw (
          lt-leb x 90 (omega arith),
          lt-leb x 122 (omega arith),
          lt-leb x 57 (omega arith),
          ne_eqb x 46 (λ z. omega arith),
          ne_eqb x 44 (λ z. omega arith),
          ne_eqb x 47 (λ z. omega arith),
          ne_eqb x 95 (λ z. omega arith),
          ne_eqb x 45 (λ z. omega arith),
          and-false (leb 65 x),
          and-false (leb 97 x),
          and-false (leb 48 x),
        ) refl in
        cc

key_whole : (key : List ℕ) → only key_byte key ≡ true → only ascii key ≡ true
key_whole key e = le-leb (length key) (run ascii key) (omega (arith, whole_wider key_byte ascii key_ascii key (all_of key_byte key e)))

-- ---- a line is UTF-8 just if its values are

quoted_utf8 : (value : List ℕ) → is_utf8 (quoted value) ≡ is_utf8 value
quoted_utf8 value = go (wraps value)
  where
    go : (t : Bool) → is_utf8 (pick t (quote ∷ (value ++ quote ∷ [])) value) ≡ is_utf8 value
    go true =
        behind_one quote (value ++ quote ∷ []) refl
        ∙ (before value (quote ∷ []) (marks_front quote [] refl) ∙ (rw (ascii_utf8 (quote ∷ []) (one_mark quote refl)) refl ∙ and-true (is_utf8 value)))
    go false = refl

text_utf8 : (value : Value) → is_utf8 (value_text value) ≡ value_utf8 value
text_utf8 absent = none_utf8
text_utf8 (present value) = behind_one equals (quoted value) refl ∙ quoted_utf8 value

parameter_utf8 : (p : Parameter) → only key_byte p.key ≡ true → is_utf8 (parameter_text p) ≡ value_utf8 p.value
parameter_utf8 p e =
    behind_one semicolon (p.key ++ value_text p.value) refl ∙ (behind p.key (value_text p.value) (key_whole p.key e) ∙ text_utf8 p.value)

abbrev Keyed : Parameter → Type 0
Keyed p = only key_byte p.key ≡ true

parameters_utf8 : (ps : List Parameter) → All Keyed ps → is_utf8 (parameters_text ps) ≡ values_utf8 ps
unfolding All parameters_text values_utf8
parameters_utf8 [] keys = none_utf8
parameters_utf8 (p ∷ ps) (e, keys) =
    before (parameter_text p) (parameters_text ps) (marked ps) ∙ rw (parameter_utf8 p e, parameters_utf8 ps keys) refl

pub property_utf8 : (p : Property) → only key_byte p.key ≡ true → All Keyed p.parameters → is_utf8 (property_line p) ≡ values_utf8 p.parameters && is_utf8 p.value
property_utf8 p e keys =
    let text = parameters_text p.parameters in
    behind p.key (text ++ colon ∷ p.value) (key_whole p.key e)
    ∙ (before text (colon ∷ p.value) (marks_front colon p.value refl) ∙ rw (parameters_utf8 p.parameters keys, behind_one colon p.value refl) refl)

-- ---- what the writer folds is UTF-8

name_utf8 : (mark name : List ℕ) → only ascii mark ≡ true → name_fits name ≡ true → Utf8 (mark ++ name)
name_utf8 mark name m e =
    let fits = both (some_byte name) (only key_byte name) e in
    (utf8_exactly (mark ++ name)).0 (behind mark name m ∙ ascii_utf8 name (key_whole name fits.1))

all_keyed : (ps : List Parameter) → All (λ (q : Parameter). fit_parameter q ≡ true) ps → All Keyed ps
unfolding All
all_keyed [] fit = tt
all_keyed (p ∷ ps) (f, fit) = ((both (only key_byte p.key) _ f).0, all_keyed ps fit)

all_utf8 : (ps : List Parameter) → All (λ (q : Parameter). value_utf8 q.value ≡ true) ps → values_utf8 ps ≡ true
unfolding All values_utf8
all_utf8 [] fit = refl
all_utf8 (p ∷ ps) (f, fit) = rw (f, all_utf8 ps fit) refl

fit_utf8 : (p : Property) → FitProperty p → Utf8 (property_line p)
fit_utf8 p fit =
    let key = (both (name_fits p.key) _ fit.key).0 in
    let line = property_utf8 p (both (some_byte p.key) (only key_byte p.key) key).1 (all_keyed p.parameters fit.parameters) in
    (utf8_exactly (property_line p)).0 (line ∙ rw (all_utf8 p.parameters fit.parameters_utf8, fit.utf8) refl)

pub utf8_lines : (ts : Trees) → Fit ts → All Utf8 (lines_of ts)
utf8_lines =
    each_line Utf8 (λ name. name_utf8 (begin_word ++ colon ∷ []) name begin_mark) (λ name. name_utf8 (end_word ++ colon ∷ []) name end_mark) fit_utf8
