-- Serves laws only. Escaped text (document 02, request 1; RFC 5545, section 3.3.11): values read in both modes, texts written, bad escapes (16) and too little room (13).
-- Assumes nothing.
use Rattle.std.specs.Prelude.{List, [], ◌∷◌, ◌++◌}
use Rattle.octets.specs.Literals.{bytes}
use Rattle.escapes.specs.declared.Mode.{Mode}
use Rattle.worked.specs.Cases.{letters, bytes₀, Case, case, reads_text, writes_text}

-- reading in the strict mode, Done: each escape
abbrev pub strict_text_cases : List Case
strict_text_cases =
    -- "A BACKSLASH character in a "TEXT" property value MUST be escaped with another BACKSLASH character."
    case "an escaped backslash"
    (reads_text Mode.Strict (bytes "a\\\\b") (bytes₀ 5) (0 ∷ 0 ∷ 3 ∷ []) (bytes "a\\b" ++ 173 ∷ 174 ∷ []))
    -- "A SEMICOLON character in a "TEXT" property value MUST be escaped with a BACKSLASH character."
    ∷ case "an escaped semicolon"
    (reads_text Mode.Strict (bytes "a\\;b") (bytes₀ 5) (0 ∷ 0 ∷ 3 ∷ []) (bytes "a;b" ++ 173 ∷ 174 ∷ []))
    -- "A COMMA character in a "TEXT" property value MUST be escaped with a BACKSLASH character."
    ∷ case "an escaped comma"
    (reads_text Mode.Strict (bytes "a\\,b") (bytes₀ 5) (0 ∷ 0 ∷ 3 ∷ []) (bytes "a,b" ++ 173 ∷ 174 ∷ []))
    -- "n or N for a line break"
    ∷ case "an escaped small n"
    (reads_text Mode.Strict (bytes "a\\nb") (bytes₀ 5) (0 ∷ 0 ∷ 3 ∷ []) (bytes "a\nb" ++ 173 ∷ 174 ∷ []))
    -- the same
    ∷ case "an escaped capital N"
    (reads_text Mode.Strict (bytes "a\\Nb") (bytes₀ 5) (0 ∷ 0 ∷ 3 ∷ []) (bytes "a\nb" ++ 173 ∷ 174 ∷ []))
    -- "backslash before backslash": a backslash and an n, and no line break
    ∷ case "an escaped backslash before an n"
    (reads_text Mode.Strict (bytes "a\\\\nb") (bytes₀ 6) (0 ∷ 0 ∷ 4 ∷ []) (bytes "a\\nb" ++ 174 ∷ 175 ∷ []))
    -- the third begins an escape of its own
    ∷ case "an escaped backslash before an escaped n"
    (reads_text Mode.Strict (bytes "\\\\\\n") (bytes₀ 4) (0 ∷ 0 ∷ 2 ∷ []) (bytes "\\\n" ++ 172 ∷ 173 ∷ []))
    -- ESCAPED-CHAR = ("\\" / "\;" / "\," / "\N" / "\n")
    ∷ case "all escapes in turn"
    (reads_text Mode.Strict (bytes "\\\\\\;\\,\\N\\n") (bytes₀ 7) (0 ∷ 0 ∷ 5 ∷ []) (bytes "\\;,\n\n" ++ 175 ∷ 176 ∷ []))
    -- an escape in front, and one at the end
    ∷ case "an escape at both ends"
    (reads_text Mode.Strict (bytes "\\,a\\,") (bytes₀ 5) (0 ∷ 0 ∷ 3 ∷ []) (bytes ",a," ++ 173 ∷ 174 ∷ []))
    -- the example of the RFC
    ∷ case "the multiple line value"
    (reads_text Mode.Strict (bytes "Project XYZ Final Review\\nConference Room - 3B\\nCome Prepared.")
    (bytes₀ 62) (0 ∷ 0 ∷ 60 ∷ [])
    (bytes "Project XYZ Final Review\nConference Room - 3B\nCome Prepared." ++ 230 ∷ 231 ∷ []))
    -- it has no backslash
    ∷ case "an empty value to read as text"
    (reads_text Mode.Strict [] (bytes₀ 2) (0 ∷ 0 ∷ 0 ∷ []) (bytes₀ 2))
    ∷ []

-- bytes without a backslash before them stay as they are
abbrev pub plain_text_cases : List Case
plain_text_cases =
    -- no byte of it is special
    case "a value without escapes"
    (reads_text Mode.Strict (bytes "abc") (bytes₀ 5) (0 ∷ 0 ∷ 3 ∷ []) (bytes "abc" ++ 173 ∷ 174 ∷ []))
    -- "specified by a COMMA-separated list of values": it is left to the caller (C-70)
    ∷ case "a bare comma"
    (reads_text Mode.Strict (bytes "a,b") (bytes₀ 5) (0 ∷ 0 ∷ 3 ∷ []) (bytes "a,b" ++ 173 ∷ 174 ∷ []))
    -- "a SEMICOLON character for structured values" (C-70)
    ∷ case "a bare semicolon"
    (reads_text Mode.Strict (bytes "a;b") (bytes₀ 5) (0 ∷ 0 ∷ 3 ∷ []) (bytes "a;b" ++ 173 ∷ 174 ∷ []))
    -- an escape is refused, and nothing else (C-70)
    ∷ case "a bare LF"
    (reads_text Mode.Strict (bytes "a\nb") (bytes₀ 5) (0 ∷ 0 ∷ 3 ∷ []) (bytes "a\nb" ++ 173 ∷ 174 ∷ []))
    -- the same
    ∷ case "a bare CR"
    (reads_text Mode.Strict (bytes "a\rb") (bytes₀ 5) (0 ∷ 0 ∷ 3 ∷ []) (bytes "a\rb" ++ 173 ∷ 174 ∷ []))
    -- text = *(TSAFE-CHAR / ":" / DQUOTE / ESCAPED-CHAR)
    ∷ case "a bare colon"
    (reads_text Mode.Strict (bytes "a:b") (bytes₀ 5) (0 ∷ 0 ∷ 3 ∷ []) (bytes "a:b" ++ 173 ∷ 174 ∷ []))
    -- the same
    ∷ case "a bare quote"
    (reads_text Mode.Strict (bytes "a\"b") (bytes₀ 5) (0 ∷ 0 ∷ 3 ∷ []) (bytes "a\"b" ++ 173 ∷ 174 ∷ []))
    -- there is no backslash before them
    ∷ case "n and N by themselves"
    (reads_text Mode.Strict (bytes "nN") (bytes₀ 4) (0 ∷ 0 ∷ 2 ∷ []) (bytes "nN" ++ 172 ∷ 173 ∷ []))
    -- it is no backslash
    ∷ case "a slash before an n"
    (reads_text Mode.Strict (bytes "/n") (bytes₀ 4) (0 ∷ 0 ∷ 2 ∷ []) (bytes "/n" ++ 172 ∷ 173 ∷ []))
    -- an escape is refused, and nothing else
    ∷ case "bytes of 0 and 127 in a value"
    (reads_text Mode.Strict (0 ∷ 127 ∷ []) (bytes₀ 4) (0 ∷ 0 ∷ 2 ∷ []) (0 ∷ 127 ∷ 172 ∷ 173 ∷ []))
    -- the same
    ∷ case "bytes of 128 and more in a value"
    (reads_text Mode.Strict (128 ∷ 200 ∷ 255 ∷ []) (bytes₀ 5) (0 ∷ 0 ∷ 3 ∷ []) (128 ∷ 200 ∷ 255 ∷ 173 ∷ 174 ∷ []))
    ∷ []

-- reading in the second mode, Done: it has the escapes of the strict mode, and one more
abbrev pub second_mode_cases : List Case
second_mode_cases =
    -- "The repository's tests also turn `\:` into a colon; offer that as a second mode"
    case "an escaped colon, in the second mode"
    (reads_text Mode.Repository (bytes "a\\:b") (bytes₀ 5) (0 ∷ 0 ∷ 3 ∷ []) (bytes "a:b" ++ 173 ∷ 174 ∷ []))
    -- "backslash before backslash"
    ∷ case "an escaped backslash, in the second mode"
    (reads_text Mode.Repository (bytes "a\\\\b") (bytes₀ 5) (0 ∷ 0 ∷ 3 ∷ []) (bytes "a\\b" ++ 173 ∷ 174 ∷ []))
    -- "semicolon"
    ∷ case "an escaped semicolon, in the second mode"
    (reads_text Mode.Repository (bytes "a\\;b") (bytes₀ 5) (0 ∷ 0 ∷ 3 ∷ []) (bytes "a;b" ++ 173 ∷ 174 ∷ []))
    -- "comma"
    ∷ case "an escaped comma, in the second mode"
    (reads_text Mode.Repository (bytes "a\\,b") (bytes₀ 5) (0 ∷ 0 ∷ 3 ∷ []) (bytes "a,b" ++ 173 ∷ 174 ∷ []))
    -- "and n or N for a line break"
    ∷ case "an escaped small n, in the second mode"
    (reads_text Mode.Repository (bytes "a\\nb") (bytes₀ 5) (0 ∷ 0 ∷ 3 ∷ []) (bytes "a\nb" ++ 173 ∷ 174 ∷ []))
    -- the same
    ∷ case "an escaped capital N, in the second mode"
    (reads_text Mode.Repository (bytes "a\\Nb") (bytes₀ 5) (0 ∷ 0 ∷ 3 ∷ []) (bytes "a\nb" ++ 173 ∷ 174 ∷ []))
    -- a backslash and an n, and no line break
    ∷ case "an escaped backslash before an n, in the second mode"
    (reads_text Mode.Repository (bytes "a\\\\nb") (bytes₀ 6) (0 ∷ 0 ∷ 4 ∷ []) (bytes "a\\nb" ++ 174 ∷ 175 ∷ []))
    -- a backslash and a colon
    ∷ case "an escaped backslash before a colon, in the second mode"
    (reads_text Mode.Repository (bytes "\\\\:") (bytes₀ 4) (0 ∷ 0 ∷ 2 ∷ []) (bytes "\\:" ++ 172 ∷ 173 ∷ []))
    -- a colon needs no backslash
    ∷ case "a bare colon, in the second mode"
    (reads_text Mode.Repository (bytes "a:b") (bytes₀ 5) (0 ∷ 0 ∷ 3 ∷ []) (bytes "a:b" ++ 173 ∷ 174 ∷ []))
    -- these neither
    ∷ case "bare bytes, in the second mode"
    (reads_text Mode.Repository (bytes ",;\"\r\n" ++ 200 ∷ []) (bytes₀ 8) (0 ∷ 0 ∷ 6 ∷ []) (bytes ",;\"\r\n" ++ 200 ∷ 176 ∷ 177 ∷ []))
    -- it has no backslash
    ∷ case "an empty value, in the second mode"
    (reads_text Mode.Repository [] (bytes₀ 2) (0 ∷ 0 ∷ 0 ∷ []) (bytes₀ 2))
    ∷ []

-- 16: the place of the backslash in the value, and 0; the buffer stays
abbrev pub bad_escape_cases : List Case
bad_escape_cases =
    -- "However, a COLON character in a "TEXT" property value SHALL NOT be escaped with a BACKSLASH character."
    case "an escaped colon"
    (reads_text Mode.Strict (bytes "a\\:b") (bytes₀ 5) (16 ∷ 1 ∷ 0 ∷ []) (bytes₀ 5))
    -- "for any escape outside the mode"
    ∷ case "an unknown escape"
    (reads_text Mode.Strict (bytes "ab\\xc") (bytes₀ 5) (16 ∷ 2 ∷ 0 ∷ []) (bytes₀ 5))
    -- the same
    ∷ case "an unknown escape, in the second mode"
    (reads_text Mode.Repository (bytes "ab\\xc") (bytes₀ 5) (16 ∷ 2 ∷ 0 ∷ []) (bytes₀ 5))
    -- "place of the backslash"
    ∷ case "an unknown escape in front"
    (reads_text Mode.Strict (bytes "\\x") (bytes₀ 5) (16 ∷ 0 ∷ 0 ∷ []) (bytes₀ 5))
    -- "and a backslash at the end"
    ∷ case "a backslash at the end"
    (reads_text Mode.Strict (bytes "ab\\") (bytes₀ 5) (16 ∷ 2 ∷ 0 ∷ []) (bytes₀ 5))
    -- the same
    ∷ case "a backslash at the end, in the second mode"
    (reads_text Mode.Repository (bytes "ab\\") (bytes₀ 5) (16 ∷ 2 ∷ 0 ∷ []) (bytes₀ 5))
    -- it stands at the end
    ∷ case "a backslash alone"
    (reads_text Mode.Strict (bytes "\\") (bytes₀ 5) (16 ∷ 0 ∷ 0 ∷ []) (bytes₀ 5))
    -- the first two are an escape
    ∷ case "three backslashes"
    (reads_text Mode.Strict (bytes "\\\\\\") (bytes₀ 5) (16 ∷ 2 ∷ 0 ∷ []) (bytes₀ 5))
    -- no letter but n and N
    ∷ case "a backslash before an r"
    (reads_text Mode.Strict (bytes "\\r") (bytes₀ 5) (16 ∷ 0 ∷ 0 ∷ []) (bytes₀ 5))
    -- DQUOTE is no ESCAPED-CHAR
    ∷ case "a backslash before a quote"
    (reads_text Mode.Strict (bytes "\\\"") (bytes₀ 5) (16 ∷ 0 ∷ 0 ∷ []) (bytes₀ 5))
    -- a line break is n or N
    ∷ case "a backslash before an LF"
    (reads_text Mode.Strict (bytes "\\\n") (bytes₀ 5) (16 ∷ 0 ∷ 0 ∷ []) (bytes₀ 5))
    -- any byte but those
    ∷ case "a backslash before a byte of 200"
    (reads_text Mode.Strict (bytes "\\" ++ 200 ∷ []) (bytes₀ 5) (16 ∷ 0 ∷ 0 ∷ []) (bytes₀ 5))
    -- the first of them
    ∷ case "two bad escapes"
    (reads_text Mode.Strict (bytes "a\\x\\y") (bytes₀ 5) (16 ∷ 1 ∷ 0 ∷ []) (bytes₀ 5))
    -- the same
    ∷ case "a bad escape before a backslash at the end"
    (reads_text Mode.Strict (bytes "\\xab\\") (bytes₀ 5) (16 ∷ 0 ∷ 0 ∷ []) (bytes₀ 5))
    -- a place of the value: in the text it would be 3
    ∷ case "a bad escape behind good ones"
    (reads_text Mode.Strict (bytes "\\,\\nb\\x") (bytes₀ 5) (16 ∷ 5 ∷ 0 ∷ []) (bytes₀ 5))
    -- the mode has no `\:`
    ∷ case "an escaped colon before a bad escape"
    (reads_text Mode.Strict (bytes "\\:\\x") (bytes₀ 5) (16 ∷ 0 ∷ 0 ∷ []) (bytes₀ 5))
    -- the mode has it
    ∷ case "an escaped colon before a bad escape, in the second mode"
    (reads_text Mode.Repository (bytes "\\:\\x") (bytes₀ 5) (16 ∷ 2 ∷ 0 ∷ []) (bytes₀ 5))
    -- "place of the backslash"
    ∷ case "a bad escape behind 64 letters"
    (reads_text Mode.Strict (letters 64 ++ bytes "\\x") (bytes₀ 5) (16 ∷ 64 ∷ 0 ∷ []) (bytes₀ 5))
    ∷ []

-- room for a text that is read, too little (13), and 16 before it
abbrev pub text_room_cases : List Case
text_room_cases =
    -- a buffer of just that length is not too short
    case "just room for a text"
    (reads_text Mode.Strict (bytes "a\\,b") (bytes₀ 3) (0 ∷ 0 ∷ 3 ∷ []) (bytes "a,b"))
    -- "output longer than the buffer"; "on 13 the length needed": that of the text
    ∷ case "one byte short of a text"
    (reads_text Mode.Strict (bytes "a\\,b") (bytes₀ 2) (13 ∷ 0 ∷ 3 ∷ []) (bytes₀ 2))
    -- the text counts, and not the value
    ∷ case "no room for the value, but for its text"
    (reads_text Mode.Strict (bytes "\\,\\,") (bytes₀ 2) (0 ∷ 0 ∷ 2 ∷ []) (bytes ",,"))
    -- "Done writes the first bytes .. only": what stands behind them stays
    ∷ case "more room than a text"
    (reads_text Mode.Strict (bytes "\\n") (bytes₀ 4) (0 ∷ 0 ∷ 1 ∷ []) (bytes "\n" ++ 171 ∷ 172 ∷ 173 ∷ []))
    -- "The output then stays."
    ∷ case "no room for a text"
    (reads_text Mode.Strict (bytes "\\n") [] (13 ∷ 0 ∷ 1 ∷ []) [])
    -- it needs none
    ∷ case "an empty value and no room for a text"
    (reads_text Mode.Strict [] [] (0 ∷ 0 ∷ 0 ∷ []) [])
    -- "16 BadEscape ..; then 13"
    ∷ case "a bad escape and no room"
    (reads_text Mode.Strict (bytes "abc\\x") [] (16 ∷ 3 ∷ 0 ∷ []) [])
    -- the same
    ∷ case "a backslash at the end and one byte short"
    (reads_text Mode.Strict (bytes "ab\\") (bytes₀ 1) (16 ∷ 2 ∷ 0 ∷ []) (bytes₀ 1))
    -- "Both go into a lent output, answered as the fold is"
    ∷ case "just room for a text, in the second mode"
    (reads_text Mode.Repository (bytes "a\\:b") (bytes₀ 3) (0 ∷ 0 ∷ 3 ∷ []) (bytes "a:b"))
    -- the same
    ∷ case "one byte short of a text, in the second mode"
    (reads_text Mode.Repository (bytes "a\\:b") (bytes₀ 2) (13 ∷ 0 ∷ 3 ∷ []) (bytes₀ 2))
    -- 16 first
    ∷ case "a bad escape and no room, in the second mode"
    (reads_text Mode.Repository (bytes "\\:\\x") [] (16 ∷ 2 ∷ 0 ∷ []) [])
    ∷ []

-- writing, Done: one way for both modes
abbrev pub written_text_cases : List Case
written_text_cases =
    -- "A BACKSLASH character .. MUST be escaped with another BACKSLASH character."
    case "a backslash to write"
    (writes_text (bytes "a\\b") (bytes₀ 6) (0 ∷ 0 ∷ 4 ∷ []) (bytes "a\\\\b" ++ 174 ∷ 175 ∷ []))
    -- "A SEMICOLON character .. MUST be escaped with a BACKSLASH character."
    ∷ case "a semicolon to write"
    (writes_text (bytes "a;b") (bytes₀ 6) (0 ∷ 0 ∷ 4 ∷ []) (bytes "a\\;b" ++ 174 ∷ 175 ∷ []))
    -- "A COMMA character .. MUST be escaped with a BACKSLASH character."
    ∷ case "a comma to write"
    (writes_text (bytes "a,b") (bytes₀ 6) (0 ∷ 0 ∷ 4 ∷ []) (bytes "a\\,b" ++ 174 ∷ 175 ∷ []))
    -- "both modes write alike, LF as `\n`"
    ∷ case "an LF to write"
    (writes_text (bytes "a\nb") (bytes₀ 6) (0 ∷ 0 ∷ 4 ∷ []) (bytes "a\\nb" ++ 174 ∷ 175 ∷ []))
    -- no rule names it (C-70)
    ∷ case "a CR to write"
    (writes_text (bytes "a\rb") (bytes₀ 5) (0 ∷ 0 ∷ 3 ∷ []) (bytes "a\rb" ++ 173 ∷ 174 ∷ []))
    -- the CR stays
    ∷ case "a CR and an LF to write"
    (writes_text (bytes "\r\n") (bytes₀ 5) (0 ∷ 0 ∷ 3 ∷ []) (bytes "\r\\n" ++ 173 ∷ 174 ∷ []))
    -- "a COLON character .. SHALL NOT be escaped with a BACKSLASH character": "both modes write alike"
    ∷ case "a colon to write"
    (writes_text (bytes "a:b") (bytes₀ 5) (0 ∷ 0 ∷ 3 ∷ []) (bytes "a:b" ++ 173 ∷ 174 ∷ []))
    -- text = *(TSAFE-CHAR / ":" / DQUOTE / ESCAPED-CHAR)
    ∷ case "a quote to write"
    (writes_text (bytes "a\"b") (bytes₀ 5) (0 ∷ 0 ∷ 3 ∷ []) (bytes "a\"b" ++ 173 ∷ 174 ∷ []))
    -- they are no line breaks
    ∷ case "n and N to write"
    (writes_text (bytes "nN") (bytes₀ 4) (0 ∷ 0 ∷ 2 ∷ []) (bytes "nN" ++ 172 ∷ 173 ∷ []))
    -- only the backslash gets one
    ∷ case "a backslash and an n to write"
    (writes_text (bytes "\\n") (bytes₀ 5) (0 ∷ 0 ∷ 3 ∷ []) (bytes "\\\\n" ++ 173 ∷ 174 ∷ []))
    -- the same
    ∷ case "a backslash and a colon to write"
    (writes_text (bytes "\\:") (bytes₀ 5) (0 ∷ 0 ∷ 3 ∷ []) (bytes "\\\\:" ++ 173 ∷ 174 ∷ []))
    -- each of the four
    ∷ case "all that is escaped to write"
    (writes_text (bytes "\\;,\n") (bytes₀ 10) (0 ∷ 0 ∷ 8 ∷ []) (bytes "\\\\\\;\\,\\n" ++ 178 ∷ 179 ∷ []))
    -- the example of the RFC
    ∷ case "the multiple line text to write"
    (writes_text (bytes "Project XYZ Final Review\nConference Room - 3B\nCome Prepared.")
    (bytes₀ 64) (0 ∷ 0 ∷ 62 ∷ [])
    (bytes "Project XYZ Final Review\\nConference Room - 3B\\nCome Prepared." ++ 232 ∷ 233 ∷ []))
    -- the letters stay
    ∷ case "64 letters and a comma to write"
    (writes_text (letters 64 ++ bytes ",") (bytes₀ 68) (0 ∷ 0 ∷ 66 ∷ []) (letters 64 ++ bytes "\\," ++ 236 ∷ 237 ∷ []))
    -- no rule names them
    ∷ case "bytes of 0 and 127 to write"
    (writes_text (0 ∷ 127 ∷ []) (bytes₀ 4) (0 ∷ 0 ∷ 2 ∷ []) (0 ∷ 127 ∷ 172 ∷ 173 ∷ []))
    -- the same
    ∷ case "bytes of 128 and more to write"
    (writes_text (128 ∷ 200 ∷ 255 ∷ []) (bytes₀ 5) (0 ∷ 0 ∷ 3 ∷ []) (128 ∷ 200 ∷ 255 ∷ 173 ∷ 174 ∷ []))
    -- there is nothing to write
    ∷ case "an empty text to write"
    (writes_text [] (bytes₀ 2) (0 ∷ 0 ∷ 0 ∷ []) (bytes₀ 2))
    ∷ []

-- room for a value that is written, and too little (13)
abbrev pub written_room_cases : List Case
written_room_cases =
    -- a buffer of just that length is not too short
    case "just room for a written value"
    (writes_text (bytes "a,b") (bytes₀ 4) (0 ∷ 0 ∷ 4 ∷ []) (bytes "a\\,b"))
    -- the backslash counts; "The output then stays."
    ∷ case "one byte short of a written value"
    (writes_text (bytes "a,b") (bytes₀ 3) (13 ∷ 0 ∷ 4 ∷ []) (bytes₀ 3))
    -- the backslash alone would fit
    ∷ case "room for the backslash alone"
    (writes_text (bytes "\n") (bytes₀ 1) (13 ∷ 0 ∷ 2 ∷ []) (bytes₀ 1))
    -- "on 13 the length needed"
    ∷ case "no room for a written value"
    (writes_text (bytes ",") [] (13 ∷ 0 ∷ 2 ∷ []) [])
    -- "Done writes the first bytes .. only"
    ∷ case "more room than a written value"
    (writes_text (bytes "a") (bytes₀ 3) (0 ∷ 0 ∷ 1 ∷ []) (bytes "a" ++ 171 ∷ 172 ∷ []))
    -- it needs none
    ∷ case "an empty text and no room"
    (writes_text [] [] (0 ∷ 0 ∷ 0 ∷ []) [])
    ∷ []
