-- Serves laws only. The parts of a reading by themselves: unfolding, views, keys and one parameter.
-- Assumes nothing.
use Rattle.std.specs.Prelude.{List, [], ◌∷◌, ◌++◌}
use Rattle.octets.specs.Literals.{bytes}
use Rattle.worked.specs.Cases.{bytes₀, Case, case, unfolds, views, has_key, has_parameter}

-- unfolding: the length, and the buffer as far as it goes
abbrev pub unfoldings : List Case
unfoldings =
    -- "Every LF followed at once by a space or tab goes, with that one blank"
    case "LF and a blank" (unfolds (bytes "a\n b") (bytes₀ 4) 2 (bytes "ab" ++ 172 ∷ 173 ∷ []))
    -- "and with a CR directly before the LF"
    ∷ case "CR LF and a tab" (unfolds (bytes "a\r\n\tb") (bytes₀ 4) 2 (bytes "ab" ++ 172 ∷ 173 ∷ []))
    -- one CR goes
    ∷ case "CR CR LF and a blank" (unfolds (bytes "a\r\r\n b") (bytes₀ 5) 3 (bytes "a\rb" ++ 173 ∷ 174 ∷ []))
    -- "Unfolding until nothing changes." is wrong: `\n` and a blank are left
    ∷ case "two folds in a row" (unfolds (bytes "\n\n  a") (bytes₀ 5) 3 (bytes "\n a" ++ 173 ∷ 174 ∷ []))
    -- nothing goes
    ∷ case "LF alone" (unfolds (bytes "a\nb") (bytes₀ 5) 3 (bytes "a\nb" ++ 173 ∷ 174 ∷ []))
    -- what fits is laid, and the length is counted in full
    ∷ case "a buffer that is short" (unfolds (bytes "a\n bc") (bytes₀ 2) 3 (bytes "ab"))
    ∷ []

-- views: any start and length
abbrev pub viewings : List Case
viewings =
    -- "Any start and length can be answered as a part of the text lent"
    case "a view inside" (views (bytes "abc") 1 1 (bytes "b"))
    -- the same
    ∷ case "a view of all" (views (bytes "abc") 0 3 (bytes "abc"))
    -- the same
    ∷ case "a view to the end" (views (bytes "abc") 1 2 (bytes "bc"))
    -- it reaches nowhere (C-14)
    ∷ case "an empty view at the end" (views (bytes "abc") 3 0 [])
    -- "a view that reaches outside gives the empty part at its front": it is not clipped
    ∷ case "a length over the end" (views (bytes "abc") 1 3 [])
    -- the same
    ∷ case "a length over from the start" (views (bytes "abc") 0 4 [])
    -- the same
    ∷ case "a start over the end" (views (bytes "abc") 4 0 [])
    -- the same
    ∷ case "a start over the end, and a length" (views (bytes "abc") 4 1 [])
    -- the sum does not wrap (C-12)
    ∷ case "a huge start" (views (bytes "abc") 18446744073709551615 1 [])
    -- the same
    ∷ case "a huge length" (views (bytes "abc") 1 18446744073709551615 [])
    -- the same
    ∷ case "a view of nothing" (views [] 0 0 [])
    ∷ []

-- keys: how many bytes, or refused
abbrev pub keyed : List Case
keyed =
    -- "Otherwise it is the longest run of key bytes."
    case "a key" (has_key (bytes "K:v") (1 ∷ []))
    -- "Key bytes are ASCII letters, digits and `.` `,` `/` `_` `-`"
    ∷ case "all kinds of key bytes" (has_key (bytes "azAZ09.,/_-;") (11 ∷ []))
    -- the same, all of them
    ∷ case "every key byte" (has_key (bytes "ABCDEFGHIJKLMNOPQRSTUVWXYZabcdefghijklmnopqrstuvwxyz0123456789.,/_-:") (67 ∷ []))
    -- no byte beside a range is one
    ∷ case "the byte before the comma" (has_key (bytes "K+") (1 ∷ []))
    -- the same
    ∷ case "the byte behind 9" (has_key (bytes "K:") (1 ∷ []))
    -- the same
    ∷ case "the byte before A" (has_key (bytes "K@") (1 ∷ []))
    -- the same
    ∷ case "the byte behind Z" (has_key (bytes "K[") (1 ∷ []))
    -- the same
    ∷ case "the byte before the underscore" (has_key (bytes "K^") (1 ∷ []))
    -- the same
    ∷ case "the byte before a" (has_key (bytes "K`") (1 ∷ []))
    -- the same
    ∷ case "the byte behind z" (has_key (bytes "K{") (1 ∷ []))
    -- the run may be empty
    ∷ case "no key byte" (has_key (bytes " K") (0 ∷ []))
    -- the same
    ∷ case "no line at all" (has_key [] (0 ∷ []))
    -- it is no key byte (C-34)
    ∷ case "a byte of 200 in a key" (has_key (bytes "K" ++ 200 ∷ []) (1 ∷ []))
    -- "if the line starts with BEGIN or END in any case and then has `:`, `;` or its end"
    ∷ case "BEGIN and the end" (has_key (bytes "BEGIN") [])
    -- the same
    ∷ case "begin and a semicolon" (has_key (bytes "bEgIn;X") [])
    -- the same
    ∷ case "End and a colon" (has_key (bytes "End:") [])
    -- it then has none of these
    ∷ case "BEGIN and a blank" (has_key (bytes "BEGIN x") (5 ∷ []))
    -- "`BEGINNING` is a key of 9 bytes"
    ∷ case "BEGINNING" (has_key (bytes "BEGINNING") (9 ∷ []))
    -- less than END
    ∷ case "EN" (has_key (bytes "EN") (2 ∷ []))
    ∷ []

-- one parameter: key start and length, 1 if a value is present else 0, its start and length, bytes used
abbrev pub one_parameter : List Case
one_parameter =
    -- "Without `=` the value is absent."
    case "a key without a value" (has_parameter (bytes ";KEY") (1 ∷ 3 ∷ 0 ∷ 0 ∷ 0 ∷ 4 ∷ []))
    -- the same
    ∷ case "a key before a colon" (has_parameter (bytes ";K:v") (1 ∷ 1 ∷ 0 ∷ 0 ∷ 0 ∷ 2 ∷ []))
    -- "`;KEY=` has key KEY, value absent, 5 bytes used"
    ∷ case "a key and an equals sign" (has_parameter (bytes ";KEY=") (1 ∷ 3 ∷ 0 ∷ 0 ∷ 0 ∷ 5 ∷ []))
    -- "one or more bytes up to `;`, `:` or the end"
    ∷ case "a bare value in a parameter" (has_parameter (bytes ";K=ab;") (1 ∷ 1 ∷ 1 ∷ 3 ∷ 2 ∷ 5 ∷ []))
    -- the same
    ∷ case "a bare value up to the end" (has_parameter (bytes ";K=ab") (1 ∷ 1 ∷ 1 ∷ 3 ∷ 2 ∷ 5 ∷ []))
    -- "One alone gives the inside"
    ∷ case "a quoted part" (has_parameter (bytes ";K=\"a\"") (1 ∷ 1 ∷ 1 ∷ 4 ∷ 1 ∷ 6 ∷ []))
    -- "one or more bytes other than `"`"
    ∷ case "a quoted part with marks" (has_parameter (bytes ";K=\";:,\":") (1 ∷ 1 ∷ 1 ∷ 4 ∷ 3 ∷ 8 ∷ []))
    -- "two or more give the whole list with its quotes"
    ∷ case "two quoted parts" (has_parameter (bytes ";K=\"a\",\"b\"") (1 ∷ 1 ∷ 1 ∷ 3 ∷ 7 ∷ 10 ∷ []))
    -- "as many further `,"..."` of the same kind as follow"
    ∷ case "three quoted parts" (has_parameter (bytes ";K=\"a\",\"b\",\"c\":") (1 ∷ 1 ∷ 1 ∷ 3 ∷ 11 ∷ 14 ∷ []))
    -- "`;K="a",b` gives `a` and stops before `,b`" (C-32)
    ∷ case "a further part that fails" (has_parameter (bytes ";K=\"a\",b") (1 ∷ 1 ∷ 1 ∷ 4 ∷ 1 ∷ 6 ∷ []))
    -- the same
    ∷ case "a further part that is empty" (has_parameter (bytes ";K=\"a\",\"\"") (1 ∷ 1 ∷ 1 ∷ 4 ∷ 1 ∷ 6 ∷ []))
    -- "`;K=""` gives `""`"
    ∷ case "empty quotes in a parameter" (has_parameter (bytes ";K=\"\"") (1 ∷ 1 ∷ 1 ∷ 3 ∷ 2 ∷ 5 ∷ []))
    -- "if that fails, one or more bytes up to `;`, `:` or the end" (C-33)
    ∷ case "an open quote" (has_parameter (bytes ";K=\"a;") (1 ∷ 1 ∷ 1 ∷ 3 ∷ 2 ∷ 5 ∷ []))
    -- "a key run that may be empty": it starts behind the `;`
    ∷ case "a semicolon alone" (has_parameter (bytes ";") (1 ∷ 0 ∷ 0 ∷ 0 ∷ 0 ∷ 1 ∷ []))
    -- "then any spaces and tabs": it starts behind them (C-30)
    ∷ case "a semicolon and blanks" (has_parameter (bytes "; \t") (3 ∷ 0 ∷ 0 ∷ 0 ∷ 0 ∷ 3 ∷ []))
    -- the same
    ∷ case "a value without a key" (has_parameter (bytes ";=a") (1 ∷ 0 ∷ 1 ∷ 2 ∷ 1 ∷ 3 ∷ []))
    -- the blank is no `=` (C-30)
    ∷ case "a blank before an equals sign in a parameter" (has_parameter (bytes ";K =a") (1 ∷ 1 ∷ 0 ∷ 0 ∷ 0 ∷ 2 ∷ []))
    -- no parameter stands there (C-31)
    ∷ case "no semicolon" (has_parameter (bytes "K=a") [])
    -- the same
    ∷ case "no bytes to read" (has_parameter [] [])
    ∷ []
