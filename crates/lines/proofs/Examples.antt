-- Lines by example, held against document 01, "Lines and nesting". Assumes nothing.
use Prim.Native.Nat.{ℕ}
use mathlib.Core.Path.{◌≡◌, refl}
use mathlib.Core.List.{List, [], ◌∷◌, map}
use Rattle.octets.specs.Literals.{bytes}
use Rattle.octets.specs.Runs as runs
use Rattle.octets.specs.Words.{starts_word}
use Rattle.parameters.specs.Values.{span, quoted_len, further_after, form_of}
use Rattle.parameters.specs.Parameter.{param_of, front_of}
use Rattle.parameters.specs.Parameters.{params_after, params_used}
use Rattle.lines.specs.Split.{Placed, lines_from, lines_after}
use Rattle.lines.specs.Rule.{line_of}
use Rattle.lines.specs.declared.Fault.TheVariants.{ReservedKey, EmptyKey, StrayByte}
use Rattle.lines.specs.declared.Line.{Line}
use Rattle.lines.specs.declared.Line.TheVariants.{Empty, Begin, BadBegin, End, Content, Bad}

abbrev line : ℕ → List ℕ → Placed
line start content = record { start = start; content = content }

-- "one CR directly before the LF belongs to the break. Other CRs are ordinary bytes."
split : lines_from 0 (bytes "a\r\r\nb\n\r\nc\r") ≡ line 0 (bytes "a\r") ∷ line 4 (bytes "b") ∷ line 6 [] ∷ line 8 (bytes "c\r") ∷ []
unfolding bytes runs.run lines_after
split = refl

-- "`BEGIN:` and `END:` are known in any case"; "after BEGIN: nothing, or a byte that is no key byte"
marks : map line_of ([] ∷ bytes "bEgIn:AB" ∷ bytes "BEGIN:" ∷ bytes "BEGIN:A:" ∷ bytes "eNd:A:" ∷ bytes "END:" ∷ [])
    ≡ Empty ∷ Begin (span 6 2) ∷ BadBegin ∷ BadBegin ∷ End (span 4 2) ∷ End (span 4 0) ∷ []
unfolding bytes runs.run starts_word line_of
marks = refl

-- a key of so many bytes, so many parameters, and a value of so many bytes from there on
abbrev content : ℕ → ℕ → ℕ → ℕ → Line
content key parameters start len = Content (record { key = span 0 key; parameters = parameters; value = span start len })

-- "then `:` and the value to the end of the line, or the end at once, with an empty value"; "An empty property value has its own start and length 0."
values : map line_of (bytes "K:vw" ∷ bytes "K;P=a;Q:v:w" ∷ bytes "K:" ∷ bytes "KEY" ∷ bytes "K;P" ∷ [])
    ≡ content 1 0 2 2 ∷ content 1 2 8 3 ∷ content 1 0 2 0 ∷ content 3 0 3 0 ∷ content 1 1 3 0 ∷ []
unfolding bytes runs.run starts_word quoted_len further_after form_of param_of front_of params_after params_used line_of
values = refl

-- document 02, request 2: "an empty key, a reserved key, and a stray byte after key or parameters"; "the byte's own offset"
reserved : map line_of (bytes "BEGIN" ∷ bytes "end;P:v" ∷ []) ≡ Bad ReservedKey ∷ Bad ReservedKey ∷ []
unfolding bytes runs.run starts_word quoted_len further_after form_of param_of front_of params_after params_used line_of
reserved = refl

empty : map line_of (bytes ":v" ∷ bytes " K:v" ∷ bytes ";P:v" ∷ []) ≡ Bad EmptyKey ∷ Bad EmptyKey ∷ Bad EmptyKey ∷ []
unfolding bytes runs.run starts_word quoted_len further_after form_of param_of front_of params_after params_used line_of
empty = refl

-- BEGIN and END with such a byte behind them are keys, and not reserved
stray : map line_of (bytes "K v" ∷ bytes "K;P=\"a\"b:v" ∷ bytes "K;P=\"a\",b:v" ∷ bytes "K;P =a:v" ∷ bytes "BEGIN x" ∷ bytes "END\r" ∷ [])
    ≡ Bad (StrayByte 1) ∷ Bad (StrayByte 7) ∷ Bad (StrayByte 7) ∷ Bad (StrayByte 3) ∷ Bad (StrayByte 5) ∷ Bad (StrayByte 3) ∷ []
unfolding bytes runs.run starts_word quoted_len further_after form_of param_of front_of params_after params_used line_of
stray = refl
