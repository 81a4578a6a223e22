-- The writing rule by example. Assumes nothing.
use mathlib.Core.Path.{◌≡◌, refl}
use mathlib.Core.List.{List, [], ◌∷◌, ◌++◌, map}
use Prim.Native.Nat.{ℕ}
use lib.ListN.{length}
use Rattle.octets.specs.Runs.{run}
use Rattle.octets.specs.Words.{starts_word}
use Rattle.characters.specs.Units.{units_from}
use Rattle.characters.specs.Utf8.{sound_len}
use Rattle.parameters.specs.Values.{quoted_len, further_after, form_of}
use Rattle.tables.specs.Rows.{tabulate, component_from, property_from, parameter_from}
use Rattle.tables.specs.Lent.{lent}
use Rattle.writable.specs.WritingRule.{component_verdict, property_verdict, parameter_verdict, judged_from, judged_in}
use Rattle.std.specs.Prelude.{Result, Ok, Err}
use Rattle.writable.specs.declared.Fault.{Fault}
use Rattle.writable.specs.declared.Fault.TheVariants.{Unwritable, NotUtf8}
use Rattle.writable.specs.declared.Unfit.{Unfit}

abbrev Told : Type 0
Told = Result (Unit {0}) Fault

abbrev fine : Told
fine = Ok tt

abbrev unwritable : Told
unwritable = Err Unwritable

abbrev not_utf8 : Told
not_utf8 = Err NotUtf8

-- a name or a key, a value, and what a row of them is found to be
record Case : Type 0 where
  key : List ℕ
  value : List ℕ
  told : Told

abbrev row : List ℕ → List ℕ → Told → Case
row key value told = record { key = key; value = value; told = told }

abbrev answer : Case → Told
answer c = c.told

abbrev component : Case → Told
component c = component_verdict c.key (component_from (0 ∷ 1 ∷ 0 ∷ length c.key ∷ []) 0)

abbrev property : Case → Told
property c = property_verdict (c.key ++ c.value) (property_from (0 ∷ 0 ∷ length c.key ∷ length c.key ∷ length c.value ∷ []) 0)

abbrev parameter : Case → Told
parameter c = parameter_verdict (c.key ++ c.value) (parameter_from (0 ∷ 0 ∷ length c.key ∷ 1 ∷ length c.key ∷ length c.value ∷ []) 0)

-- `END`, `Begin` and `BEGINNING`
abbrev end : List ℕ
end = 69 ∷ 78 ∷ 68 ∷ []

abbrev begin : List ℕ
begin = 66 ∷ 101 ∷ 103 ∷ 105 ∷ 110 ∷ []

abbrev beginning : List ℕ
beginning = 66 ∷ 69 ∷ 71 ∷ 73 ∷ 78 ∷ 78 ∷ 73 ∷ 78 ∷ 71 ∷ []

-- `K`
abbrev k : List ℕ
k = 75 ∷ []

-- an empty name, two words, a byte of 128 and more in a name; END is a name
abbrev components : List Case
components =
    row [] [] unwritable
    ∷ row end [] fine
    ∷ row (86 ∷ 45 ∷ 46 ∷ 44 ∷ 47 ∷ 95 ∷ 57 ∷ []) [] fine
    ∷ row (65 ∷ 32 ∷ 66 ∷ []) [] unwritable
    ∷ row (65 ∷ 200 ∷ []) [] unwritable
    ∷ []

-- no key BEGIN or END in any case; a value may be empty and may hold quotes, and accents; a break wins over a value that is not UTF-8, and so does a key
abbrev properties : List Case
properties =
    row [] k unwritable
    ∷ row end k unwritable
    ∷ row begin k unwritable
    ∷ row beginning k fine
    ∷ row (75 ∷ 58 ∷ []) k unwritable
    ∷ row k [] fine
    ∷ row k (34 ∷ 58 ∷ 127 ∷ []) fine
    ∷ row k (97 ∷ 13 ∷ []) unwritable
    ∷ row k (10 ∷ 97 ∷ []) unwritable
    ∷ row k (83 ∷ 195 ∷ 163 ∷ 111 ∷ []) fine
    ∷ row k (97 ∷ 128 ∷ []) not_utf8
    ∷ row k (83 ∷ 195 ∷ []) not_utf8
    ∷ row k (195 ∷ 163 ∷ 13 ∷ []) unwritable
    ∷ row k (200 ∷ 10 ∷ []) unwritable
    ∷ row k (13 ∷ 200 ∷ []) unwritable
    ∷ row begin (200 ∷ []) unwritable
    ∷ []

-- any key of key bytes; `a,b` and `a:b`; `""`, `"a"`, `a"b`, `"a",b` and `"a","b",` are no lists, `"a","b"` is one
abbrev parameters : List Case
parameters =
    row [] k fine
    ∷ row begin k fine
    ∷ row (75 ∷ 61 ∷ []) k unwritable
    ∷ row k [] unwritable
    ∷ row k (97 ∷ 44 ∷ 98 ∷ []) fine
    ∷ row k (97 ∷ 58 ∷ 98 ∷ []) fine
    ∷ row k (34 ∷ 34 ∷ []) unwritable
    ∷ row k (34 ∷ 97 ∷ 34 ∷ []) unwritable
    ∷ row k (97 ∷ 34 ∷ 98 ∷ []) unwritable
    ∷ row k (34 ∷ 97 ∷ 34 ∷ 44 ∷ 98 ∷ []) unwritable
    ∷ row k (34 ∷ 97 ∷ 34 ∷ 44 ∷ 34 ∷ 98 ∷ 34 ∷ 44 ∷ []) unwritable
    ∷ row k (34 ∷ 97 ∷ 34 ∷ 44 ∷ 34 ∷ 98 ∷ 34 ∷ []) fine
    ∷ row k (34 ∷ 97 ∷ 34 ∷ 44 ∷ 34 ∷ 13 ∷ 34 ∷ []) unwritable
    ∷ row k (34 ∷ 97 ∷ 34 ∷ 44 ∷ 34 ∷ 200 ∷ 34 ∷ []) not_utf8
    ∷ row k (197 ∷ 129 ∷ []) fine
    ∷ row k (34 ∷ 97 ∷ 34 ∷ 44 ∷ 34 ∷ 230 ∷ 157 ∷ 142 ∷ 34 ∷ []) fine
    ∷ row k (200 ∷ []) not_utf8
    ∷ row k (200 ∷ 34 ∷ []) unwritable
    ∷ row k (97 ∷ 13 ∷ []) unwritable
    ∷ []

named : map component components ≡ map answer components
unfolding run
named = refl

valued : map property properties ≡ map answer properties
unfolding run starts_word units_from sound_len
valued = refl

quoted : map parameter parameters ≡ map answer parameters
unfolding run quoted_len further_after form_of units_from sound_len
quoted = refl

-- in the text `K`, LF, 200: a component; properties with the value `K`, LF or 200; parameters without a value and with these
abbrev text : List ℕ
text = 75 ∷ 10 ∷ 200 ∷ []

abbrev top : List ℕ
top = 4294967295 ∷ 1 ∷ 0 ∷ 1 ∷ []

abbrev line : ℕ → List ℕ
line at = 0 ∷ 0 ∷ 1 ∷ at ∷ 1 ∷ []

abbrev given : ℕ → List ℕ
given at = 0 ∷ 0 ∷ 0 ∷ 1 ∷ at ∷ 1 ∷ []

abbrev bare : List ℕ
bare = 0 ∷ 0 ∷ 1 ∷ 0 ∷ 0 ∷ 0 ∷ []

abbrev unfit : ℕ → Fault → Result (Unit {0}) Unfit
unfit row fault = Err (record { row = row; fault = fault })

record Tables : Type 0 where
  three : List ℕ × (List ℕ × List ℕ)
  told : Result (Unit {0}) Unfit

abbrev tables : List ℕ → List ℕ → List ℕ → Result (Unit {0}) Unfit → Tables
tables c p q told = record { three = (c, (p, q)); told = told }

abbrev judge : Tables → Result (Unit {0}) Unfit
judge t = judged_in (lent text t.three.0 t.three.1.0 t.three.1.1)

abbrev judged : Tables → Result (Unit {0}) Unfit
judged t = t.told

-- rows are numbered through the three tables, the first one is told, and words that are no whole row are none
abbrev cases : List Tables
cases =
    tables top (line 0) (bare ++ given 0) (Ok tt)
    ∷ tables (top ++ top) (line 0 ++ line 2) (given 1) (unfit 3 NotUtf8)
    ∷ tables (top ++ top) (line 0 ++ line 1) (given 2) (unfit 3 Unwritable)
    ∷ tables (top ++ top) (line 0 ++ line 0) (given 2 ++ given 1) (unfit 4 NotUtf8)
    ∷ tables top (line 0) (bare ++ given 1) (unfit 3 Unwritable)
    ∷ tables (top ++ (0 ∷ 2 ∷ 1 ∷ 1 ∷ [])) (line 2) (given 1) (unfit 1 Unwritable)
    ∷ tables (0 ∷ 2 ∷ 3 ∷ 1 ∷ []) (line 2) [] (unfit 0 Unwritable)
    ∷ tables (top ++ (0 ∷ 2 ∷ 1 ∷ [])) (line 0 ++ (0 ∷ 0 ∷ [])) [] (Ok tt)
    ∷ []

told : map judge cases ≡ map judged cases
unfolding run starts_word quoted_len further_after form_of units_from sound_len tabulate judged_from judged_in
told = refl
