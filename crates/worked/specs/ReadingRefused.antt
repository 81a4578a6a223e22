-- Serves laws only. Readings that are refused for a line (3 to 7, 17, 18) or at the end of the text (8, 9). The text is in front, and the tables stay.
-- Assumes nothing.
use Rattle.std.specs.Prelude.{List, [], ◌∷◌, ◌++◌}
use Rattle.tables.specs.Lent.{lent}
use Rattle.octets.specs.Literals.{bytes}
use Rattle.worked.specs.Cases.{bytes₀, properties₀, parameters₀, room, repeated, deep, nested, Case, case, reads, refuses}

-- 3: the place is the start of the line, never the byte
abbrev pub bad_begin_cases : List Case
bad_begin_cases =
    -- "after BEGIN: nothing, or a byte that is no key byte"; "line start; length, counts 0"
    case "BEGIN with nothing behind"
    (refuses (bytes "BEGIN:\n") (room 9 5 6 7) (3 ∷ 0 ∷ 7 ∷ 0 ∷ 0 ∷ 0 ∷ []) (bytes "BEGIN:\n" ++ 177 ∷ 178 ∷ []))
    -- in any case, and at the end of the text
    ∷ case "begin with the end behind"
    (refuses (bytes "begin:") (room 8 5 6 7) (3 ∷ 0 ∷ 6 ∷ 0 ∷ 0 ∷ 0 ∷ []) (bytes "begin:" ++ 176 ∷ 177 ∷ []))
    -- (C-20)
    ∷ case "a name with a blank"
    (refuses (bytes "BEGIN:A X\n") (room 12 5 6 7) (3 ∷ 0 ∷ 10 ∷ 0 ∷ 0 ∷ 0 ∷ []) (bytes "BEGIN:A X\n" ++ 180 ∷ 181 ∷ []))
    -- (C-20)
    ∷ case "a name with a semicolon"
    (refuses (bytes "BEGIN:A;B\n") (room 12 5 6 7) (3 ∷ 0 ∷ 10 ∷ 0 ∷ 0 ∷ 0 ∷ []) (bytes "BEGIN:A;B\n" ++ 180 ∷ 181 ∷ []))
    -- only the second CR belongs to the break (C-20)
    ∷ case "a name before CR CR LF"
    (refuses (bytes "BEGIN:A\r\r\n") (room 12 5 6 7) (3 ∷ 0 ∷ 10 ∷ 0 ∷ 0 ∷ 0 ∷ []) (bytes "BEGIN:A\r\r\n" ++ 180 ∷ 181 ∷ []))
    -- a CR at the end of the text is a byte of its line (C-20)
    ∷ case "a name before CR and the end"
    (refuses (bytes "BEGIN:A\r") (room 10 5 6 7) (3 ∷ 0 ∷ 8 ∷ 0 ∷ 0 ∷ 0 ∷ []) (bytes "BEGIN:A\r" ++ 178 ∷ 179 ∷ []))
    -- key bytes are ASCII (C-34)
    ∷ case "a name with a byte of 200"
    (refuses (bytes "BEGIN:A" ++ 200 ∷ bytes "\n") (room 11 5 6 7) (3 ∷ 0 ∷ 9 ∷ 0 ∷ 0 ∷ 0 ∷ []) (bytes "BEGIN:A" ++ 200 ∷ (bytes "\n" ++ 179 ∷ 180 ∷ [])))
    -- the place is the start of that line
    ∷ case "a bad BEGIN in the second line"
    (refuses (bytes "BEGIN:A\nBEGIN::\nEND:A\n") (room 24 5 6 7) (3 ∷ 8 ∷ 22 ∷ 0 ∷ 0 ∷ 0 ∷ []) (bytes "BEGIN:A\nBEGIN::\nEND:A\n" ++ 192 ∷ 193 ∷ []))
    ∷ []

-- 4: depth 64 is read, and 65 is not; 3 before 4
abbrev pub too_deep_cases : List Case
too_deep_cases =
    -- "depth 64 is read, 65 refused"
    case "64 inside each other"
    (reads (deep (repeated 64 (bytes "END:A\n"))) (room 898 260 6 7) (0 ∷ 0 ∷ 896 ∷ 64 ∷ 0 ∷ 0 ∷ [])
    (lent (deep (repeated 64 (bytes "END:A\n") ++ 186 ∷ 187 ∷ [])) (nested 8 6 64 4294967295 0 ++ 900257 ∷ 900258 ∷ 900259 ∷ 900260 ∷ []) (properties₀ 6) (parameters₀ 7)))
    -- 3 and not 4: "a sound BEGIN would be at depth 65" (C-21)
    ∷ case "a bad BEGIN at depth 65"
    (refuses (deep (bytes "BEGIN:\n")) (room 521 260 6 7) (3 ∷ 512 ∷ 519 ∷ 0 ∷ 0 ∷ 0 ∷ []) (deep (bytes "BEGIN:\n" ++ 209 ∷ 210 ∷ [])))
    -- "a sound BEGIN would be at depth 65"; place "line start"
    ∷ case "a sound BEGIN at depth 65"
    (refuses (deep (bytes "BEGIN:A\n")) (room 522 260 6 7) (4 ∷ 512 ∷ 520 ∷ 0 ∷ 0 ∷ 0 ∷ []) (deep (bytes "BEGIN:A\n" ++ 210 ∷ 211 ∷ [])))
    -- what is open counts, and not how many BEGIN there were
    ∷ case "depth 65 behind an END"
    (refuses (deep (bytes "END:A\nBEGIN:A\nBEGIN:A\n")) (room 536 260 6 7) (4 ∷ 526 ∷ 534 ∷ 0 ∷ 0 ∷ 0 ∷ []) (deep (bytes "END:A\nBEGIN:A\nBEGIN:A\n" ++ 224 ∷ 225 ∷ [])))
    ∷ []

-- 5: nothing open, or the rest differs from the open name
abbrev pub bad_end_cases : List Case
bad_end_cases =
    -- "nothing open, or the rest differs from the open name": 5 and not 6 (C-22)
    case "END with nothing open"
    (refuses (bytes "END:A\n") (room 8 5 6 7) (5 ∷ 0 ∷ 6 ∷ 0 ∷ 0 ∷ 0 ∷ []) (bytes "END:A\n" ++ 176 ∷ 177 ∷ []))
    -- (C-22)
    ∷ case "END of nothing with nothing open"
    (refuses (bytes "END:\n") (room 7 5 6 7) (5 ∷ 0 ∷ 5 ∷ 0 ∷ 0 ∷ 0 ∷ []) (bytes "END:\n" ++ 175 ∷ 176 ∷ []))
    -- "the rest differs from the open name"
    ∷ case "END of another name"
    (refuses (bytes "BEGIN:A\nEND:B\n") (room 16 5 6 7) (5 ∷ 8 ∷ 14 ∷ 0 ∷ 0 ∷ 0 ∷ []) (bytes "BEGIN:A\nEND:B\n" ++ 184 ∷ 185 ∷ []))
    -- (C-22)
    ∷ case "END of nothing"
    (refuses (bytes "BEGIN:A\nEND:\n") (room 15 5 6 7) (5 ∷ 8 ∷ 13 ∷ 0 ∷ 0 ∷ 0 ∷ []) (bytes "BEGIN:A\nEND:\n" ++ 183 ∷ 184 ∷ []))
    -- "the name is compared exactly" (C-24)
    ∷ case "END of the name in another case"
    (refuses (bytes "BEGIN:A\nEND:a\n") (room 16 5 6 7) (5 ∷ 8 ∷ 14 ∷ 0 ∷ 0 ∷ 0 ∷ []) (bytes "BEGIN:A\nEND:a\n" ++ 184 ∷ 185 ∷ []))
    -- a prefix is another name
    ∷ case "END of a part of the name"
    (refuses (bytes "BEGIN:AB\nEND:A\n") (room 17 5 6 7) (5 ∷ 9 ∷ 15 ∷ 0 ∷ 0 ∷ 0 ∷ []) (bytes "BEGIN:AB\nEND:A\n" ++ 185 ∷ 186 ∷ []))
    -- "an END name is only a prefix test in the Rust, so END:FOOBAR closes FOO": not here
    ∷ case "END of the name and more"
    (refuses (bytes "BEGIN:A\nEND:AB\n") (room 17 5 6 7) (5 ∷ 8 ∷ 15 ∷ 0 ∷ 0 ∷ 0 ∷ []) (bytes "BEGIN:A\nEND:AB\n" ++ 185 ∷ 186 ∷ []))
    -- the open name is the innermost
    ∷ case "END of the outer name"
    (refuses (bytes "BEGIN:A\nBEGIN:B\nEND:A\n") (room 24 5 6 7) (5 ∷ 16 ∷ 22 ∷ 0 ∷ 0 ∷ 0 ∷ []) (bytes "BEGIN:A\nBEGIN:B\nEND:A\n" ++ 192 ∷ 193 ∷ []))
    -- nothing is open then
    ∷ case "END once more"
    (refuses (bytes "BEGIN:A\nEND:A\nEND:A\n") (room 22 5 6 7) (5 ∷ 14 ∷ 20 ∷ 0 ∷ 0 ∷ 0 ∷ []) (bytes "BEGIN:A\nEND:A\nEND:A\n" ++ 190 ∷ 191 ∷ []))
    -- "A line ends at LF or at the end of text": the CR is a byte of the line (C-25)
    ∷ case "END before CR and the end"
    (refuses (bytes "BEGIN:A\nEND:A\r") (room 16 5 6 7) (5 ∷ 8 ∷ 14 ∷ 0 ∷ 0 ∷ 0 ∷ []) (bytes "BEGIN:A\nEND:A\r" ++ 184 ∷ 185 ∷ []))
    -- the first CR is a byte of the line (C-26)
    ∷ case "END before CR CR LF"
    (refuses (bytes "BEGIN:A\nEND:A\r\r\n") (room 18 5 6 7) (5 ∷ 8 ∷ 16 ∷ 0 ∷ 0 ∷ 0 ∷ []) (bytes "BEGIN:A\nEND:A\r\r\n" ++ 186 ∷ 187 ∷ []))
    -- what stands behind END need not be of key bytes (C-22)
    ∷ case "END of a byte of 200"
    (refuses (bytes "BEGIN:A\nEND:" ++ 200 ∷ bytes "\n") (room 16 5 6 7) (5 ∷ 8 ∷ 14 ∷ 0 ∷ 0 ∷ 0 ∷ []) (bytes "BEGIN:A\nEND:" ++ 200 ∷ (bytes "\n" ++ 184 ∷ 185 ∷ [])))
    ∷ []

-- 6: any other line with nothing open
abbrev pub outside_cases : List Case
outside_cases =
    -- "any other line with nothing open"
    case "a property outside"
    (refuses (bytes "K:v\n") (room 6 5 6 7) (6 ∷ 0 ∷ 4 ∷ 0 ∷ 0 ∷ 0 ∷ []) (bytes "K:v\n" ++ 174 ∷ 175 ∷ []))
    -- 6 and not 7
    ∷ case "a bad line outside"
    (refuses (bytes ":\n") (room 4 5 6 7) (6 ∷ 0 ∷ 2 ∷ 0 ∷ 0 ∷ 0 ∷ []) (bytes ":\n" ++ 172 ∷ 173 ∷ []))
    -- it is no BEGIN line (C-23)
    ∷ case "BEGIN without a colon outside"
    (refuses (bytes "BEGIN\n") (room 8 5 6 7) (6 ∷ 0 ∷ 6 ∷ 0 ∷ 0 ∷ 0 ∷ []) (bytes "BEGIN\n" ++ 176 ∷ 177 ∷ []))
    -- (C-23)
    ∷ case "end without a colon outside"
    (refuses (bytes "end") (room 5 5 6 7) (6 ∷ 0 ∷ 3 ∷ 0 ∷ 0 ∷ 0 ∷ []) (bytes "end" ++ 173 ∷ 174 ∷ []))
    -- (C-23)
    ∷ case "BEGIN with a parameter outside"
    (refuses (bytes "BEGIN;X=1:V\n") (room 14 5 6 7) (6 ∷ 0 ∷ 12 ∷ 0 ∷ 0 ∷ 0 ∷ []) (bytes "BEGIN;X=1:V\n" ++ 182 ∷ 183 ∷ []))
    -- 6 and not 18, and the place is the line start
    ∷ case "a stray byte outside"
    (refuses (bytes "K v\n") (room 6 5 6 7) (6 ∷ 0 ∷ 4 ∷ 0 ∷ 0 ∷ 0 ∷ []) (bytes "K v\n" ++ 174 ∷ 175 ∷ []))
    -- it is not empty (C-27)
    ∷ case "a line of a blank"
    (refuses (bytes " \n") (room 4 5 6 7) (6 ∷ 0 ∷ 2 ∷ 0 ∷ 0 ∷ 0 ∷ []) (bytes " \n" ++ 172 ∷ 173 ∷ []))
    -- "Other CRs are ordinary bytes.": 6 at 0 and not 9 (C-25)
    ∷ case "a CR alone"
    (refuses (bytes "\r") (room 3 5 6 7) (6 ∷ 0 ∷ 1 ∷ 0 ∷ 0 ∷ 0 ∷ []) (bytes "\r" ++ 171 ∷ 172 ∷ []))
    -- the line is a CR (C-26)
    ∷ case "CR CR LF alone"
    (refuses (bytes "\r\r\n") (room 5 5 6 7) (6 ∷ 0 ∷ 3 ∷ 0 ∷ 0 ∷ 0 ∷ []) (bytes "\r\r\n" ++ 173 ∷ 174 ∷ []))
    -- no LF before it, so it stays (C-27)
    ∷ case "a blank before everything"
    (refuses (bytes " BEGIN:A\nEND:A\n") (room 17 5 6 7) (6 ∷ 0 ∷ 15 ∷ 0 ∷ 0 ∷ 0 ∷ []) (bytes " BEGIN:A\nEND:A\n" ++ 185 ∷ 186 ∷ []))
    -- nothing is open there
    ∷ case "a property behind the last END"
    (refuses (bytes "BEGIN:A\nEND:A\nK\n") (room 18 5 6 7) (6 ∷ 14 ∷ 16 ∷ 0 ∷ 0 ∷ 0 ∷ []) (bytes "BEGIN:A\nEND:A\nK\n" ++ 186 ∷ 187 ∷ []))
    -- 6 and not 17, behind the last END too
    ∷ case "END without a colon behind the last END"
    (refuses (bytes "BEGIN:A\nEND:A\nEND\n") (room 20 5 6 7) (6 ∷ 14 ∷ 18 ∷ 0 ∷ 0 ∷ 0 ∷ []) (bytes "BEGIN:A\nEND:A\nEND\n" ++ 188 ∷ 189 ∷ []))
    ∷ []

-- 17: "7 then means empty key, 17 ReservedKey is checked before it"; the place is "the line start"
abbrev pub reserved_key_cases : List Case
reserved_key_cases =
    -- "A property key is refused if the line starts with BEGIN or END in any case and then has `:`, `;` or its end" (C-23)
    case "BEGIN without a colon inside"
    (refuses (bytes "BEGIN:A\nBEGIN\nEND:A\n") (room 22 5 6 7) (17 ∷ 8 ∷ 20 ∷ 0 ∷ 0 ∷ 0 ∷ []) (bytes "BEGIN:A\nBEGIN\nEND:A\n" ++ 190 ∷ 191 ∷ []))
    -- (C-23)
    ∷ case "end without a colon inside"
    (refuses (bytes "BEGIN:A\nend\nEND:A\n") (room 20 5 6 7) (17 ∷ 8 ∷ 18 ∷ 0 ∷ 0 ∷ 0 ∷ []) (bytes "BEGIN:A\nend\nEND:A\n" ++ 188 ∷ 189 ∷ []))
    -- (C-23)
    ∷ case "BEGIN with a parameter inside"
    (refuses (bytes "BEGIN:A\nBEGIN;X=1:V\nEND:A\n") (room 28 5 6 7) (17 ∷ 8 ∷ 26 ∷ 0 ∷ 0 ∷ 0 ∷ []) (bytes "BEGIN:A\nBEGIN;X=1:V\nEND:A\n" ++ 196 ∷ 197 ∷ []))
    -- in any case, and with nothing behind the `;`
    ∷ case "eNd with a semicolon inside"
    (refuses (bytes "BEGIN:A\neNd;\nEND:A\n") (room 21 5 6 7) (17 ∷ 8 ∷ 19 ∷ 0 ∷ 0 ∷ 0 ∷ []) (bytes "BEGIN:A\neNd;\nEND:A\n" ++ 189 ∷ 190 ∷ []))
    -- the CR belongs to the break
    ∷ case "BEGIN before CR LF inside"
    (refuses (bytes "BEGIN:A\nBEGIN\r\nEND:A\n") (room 23 5 6 7) (17 ∷ 8 ∷ 21 ∷ 0 ∷ 0 ∷ 0 ∷ []) (bytes "BEGIN:A\nBEGIN\r\nEND:A\n" ++ 191 ∷ 192 ∷ []))
    -- the end of the text is the end of the line (C-25)
    ∷ case "END before the end of the text"
    (refuses (bytes "BEGIN:A\nEND") (room 13 5 6 7) (17 ∷ 8 ∷ 11 ∷ 0 ∷ 0 ∷ 0 ∷ []) (bytes "BEGIN:A\nEND" ++ 181 ∷ 182 ∷ []))
    -- 17 and not 18: the key comes first
    ∷ case "a reserved key and a stray byte"
    (refuses (bytes "BEGIN:A\nEND;X=\"a\"b\nEND:A\n") (room 27 5 6 7) (17 ∷ 8 ∷ 25 ∷ 0 ∷ 0 ∷ 0 ∷ []) (bytes "BEGIN:A\nEND;X=\"a\"b\nEND:A\n" ++ 195 ∷ 196 ∷ []))
    -- the line start counts in the unfolded text
    ∷ case "a reserved key behind a folded line"
    (refuses (bytes "BEGIN:A\nK:v\n w\nE\n\tND\nEND:A\n") (room 25 5 6 7) (17 ∷ 13 ∷ 23 ∷ 0 ∷ 0 ∷ 0 ∷ []) (bytes "BEGIN:A\nK:vw\nEND\nEND:A\n" ++ 193 ∷ 194 ∷ []))
    -- "The order among lines is unchanged.": 18 in a later line does not come first
    ∷ case "a reserved key before a stray byte"
    (refuses (bytes "BEGIN:A\nEND\nK v\nEND:A\n") (room 24 5 6 7) (17 ∷ 8 ∷ 22 ∷ 0 ∷ 0 ∷ 0 ∷ []) (bytes "BEGIN:A\nEND\nK v\nEND:A\n" ++ 192 ∷ 193 ∷ []))
    ∷ []

-- 7: "7 then means empty key"; the place is "the line start"
abbrev pub empty_key_cases : List Case
empty_key_cases =
    -- "a key of at least one byte"
    case "a line without a key"
    (refuses (bytes "BEGIN:A\n:v\nEND:A\n") (room 19 5 6 7) (7 ∷ 8 ∷ 17 ∷ 0 ∷ 0 ∷ 0 ∷ []) (bytes "BEGIN:A\n:v\nEND:A\n" ++ 187 ∷ 188 ∷ []))
    -- the same
    ∷ case "a parameter without a key before it"
    (refuses (bytes "BEGIN:A\n;P:v\nEND:A\n") (room 21 5 6 7) (7 ∷ 8 ∷ 19 ∷ 0 ∷ 0 ∷ 0 ∷ []) (bytes "BEGIN:A\n;P:v\nEND:A\n" ++ 189 ∷ 190 ∷ []))
    -- of two blanks behind an LF one is left (C-28)
    ∷ case "a line that begins with a blank"
    (refuses (bytes "BEGIN:A\n\n  K:v\nEND:A\n") (room 21 5 6 7) (7 ∷ 8 ∷ 19 ∷ 0 ∷ 0 ∷ 0 ∷ []) (bytes "BEGIN:A\n K:v\nEND:A\n" ++ 189 ∷ 190 ∷ []))
    -- the blank stands before the word, so the key is not reserved
    ∷ case "BEGIN behind a blank"
    (refuses (bytes "BEGIN:A\n\n  BEGIN\nEND:A\n") (room 23 5 6 7) (7 ∷ 8 ∷ 21 ∷ 0 ∷ 0 ∷ 0 ∷ []) (bytes "BEGIN:A\n BEGIN\nEND:A\n" ++ 191 ∷ 192 ∷ []))
    -- it is no key byte (C-34)
    ∷ case "a line that begins with a byte of 200"
    (refuses (bytes "BEGIN:A\n" ++ 200 ∷ bytes "K:v\nEND:A\n") (room 21 5 6 7) (7 ∷ 8 ∷ 19 ∷ 0 ∷ 0 ∷ 0 ∷ []) (bytes "BEGIN:A\n" ++ 200 ∷ (bytes "K:v\nEND:A\n" ++ 189 ∷ 190 ∷ [])))
    -- the line is a CR and not empty (C-26)
    ∷ case "CR CR LF inside"
    (refuses (bytes "BEGIN:A\n\r\r\nEND:A\n") (room 19 5 6 7) (7 ∷ 8 ∷ 17 ∷ 0 ∷ 0 ∷ 0 ∷ []) (bytes "BEGIN:A\n\r\r\nEND:A\n" ++ 187 ∷ 188 ∷ []))
    -- the same (C-25)
    ∷ case "a CR and the end inside"
    (refuses (bytes "BEGIN:A\n\r") (room 11 5 6 7) (7 ∷ 8 ∷ 9 ∷ 0 ∷ 0 ∷ 0 ∷ []) (bytes "BEGIN:A\n\r" ++ 179 ∷ 180 ∷ []))
    -- of two blanks behind an LF one is left, and a line of it is not empty (C-27)
    ∷ case "a line of a blank inside"
    (refuses (bytes "BEGIN:A\n\n  \nEND:A\n") (room 18 5 6 7) (7 ∷ 8 ∷ 16 ∷ 0 ∷ 0 ∷ 0 ∷ []) (bytes "BEGIN:A\n \nEND:A\n" ++ 186 ∷ 187 ∷ []))
    -- "lines one after another with 3 to 7 as they stand"
    ∷ case "a bad line before a bad END"
    (refuses (bytes "BEGIN:A\nK:v\n:\nEND:B\n") (room 22 5 6 7) (7 ∷ 12 ∷ 20 ∷ 0 ∷ 0 ∷ 0 ∷ []) (bytes "BEGIN:A\nK:v\n:\nEND:B\n" ++ 190 ∷ 191 ∷ []))
    -- "The order among lines is unchanged.": 17 in a later line does not come first
    ∷ case "an empty key before a reserved key"
    (refuses (bytes "BEGIN:A\n:\nEND\nEND:A\n") (room 22 5 6 7) (7 ∷ 8 ∷ 20 ∷ 0 ∷ 0 ∷ 0 ∷ []) (bytes "BEGIN:A\n:\nEND\nEND:A\n" ++ 190 ∷ 191 ∷ []))
    ∷ []

-- 18: "18 StrayByte after it"; "The stray one gives the byte's own offset, the others the line start."
abbrev pub stray_byte_cases : List Case
stray_byte_cases =
    -- "a stray byte after key or parameters": `:`, `;` or the end is due there
    case "a blank behind the key"
    (refuses (bytes "BEGIN:A\nK v\nEND:A\n") (room 20 5 6 7) (18 ∷ 9 ∷ 18 ∷ 0 ∷ 0 ∷ 0 ∷ []) (bytes "BEGIN:A\nK v\nEND:A\n" ++ 188 ∷ 189 ∷ []))
    -- the same
    ∷ case "a blank behind a longer key"
    (refuses (bytes "BEGIN:A\nKEY foo:bar\nEND:A\n") (room 28 5 6 7) (18 ∷ 11 ∷ 26 ∷ 0 ∷ 0 ∷ 0 ∷ []) (bytes "BEGIN:A\nKEY foo:bar\nEND:A\n" ++ 196 ∷ 197 ∷ []))
    -- the same
    ∷ case "an equals sign behind the key"
    (refuses (bytes "BEGIN:A\nK=v\nEND:A\n") (room 20 5 6 7) (18 ∷ 9 ∷ 18 ∷ 0 ∷ 0 ∷ 0 ∷ []) (bytes "BEGIN:A\nK=v\nEND:A\n" ++ 188 ∷ 189 ∷ []))
    -- at the end of the text too
    ∷ case "a blank behind the key and the end"
    (refuses (bytes "BEGIN:A\nK ") (room 12 5 6 7) (18 ∷ 9 ∷ 10 ∷ 0 ∷ 0 ∷ 0 ∷ []) (bytes "BEGIN:A\nK " ++ 180 ∷ 181 ∷ []))
    -- neither `:`, `;` nor the end is behind the word, so it is no reserved key
    ∷ case "BEGIN and a blank"
    (refuses (bytes "BEGIN:A\nBEGIN x\nEND:A\n") (room 24 5 6 7) (18 ∷ 13 ∷ 22 ∷ 0 ∷ 0 ∷ 0 ∷ []) (bytes "BEGIN:A\nBEGIN x\nEND:A\n" ++ 192 ∷ 193 ∷ []))
    -- a CR at the end of the text is a byte of its line (C-25)
    ∷ case "END and CR before the end"
    (refuses (bytes "BEGIN:A\nEND\r") (room 14 5 6 7) (18 ∷ 11 ∷ 12 ∷ 0 ∷ 0 ∷ 0 ∷ []) (bytes "BEGIN:A\nEND\r" ++ 182 ∷ 183 ∷ []))
    -- the first CR is a byte of the line (C-26)
    ∷ case "BEGIN before CR CR LF"
    (refuses (bytes "BEGIN:A\nBEGIN\r\r\nEND:A\n") (room 24 5 6 7) (18 ∷ 13 ∷ 22 ∷ 0 ∷ 0 ∷ 0 ∷ []) (bytes "BEGIN:A\nBEGIN\r\r\nEND:A\n" ++ 192 ∷ 193 ∷ []))
    -- "Reading parameters stops, without refusal, at a byte that is not `;`" (C-32)
    ∷ case "a comma that no quoted part follows"
    (refuses (bytes "BEGIN:A\nK;P=\"a\",b:v\nEND:A\n") (room 28 5 6 7) (18 ∷ 15 ∷ 26 ∷ 0 ∷ 0 ∷ 0 ∷ []) (bytes "BEGIN:A\nK;P=\"a\",b:v\nEND:A\n" ++ 196 ∷ 197 ∷ []))
    -- the same
    ∷ case "a byte behind a quoted part"
    (refuses (bytes "BEGIN:A\nK;P=\"a\"b:v\nEND:A\n") (room 27 5 6 7) (18 ∷ 15 ∷ 25 ∷ 0 ∷ 0 ∷ 0 ∷ []) (bytes "BEGIN:A\nK;P=\"a\"b:v\nEND:A\n" ++ 195 ∷ 196 ∷ []))
    -- the same
    ∷ case "a byte behind a list of quoted parts"
    (refuses (bytes "BEGIN:A\nK;A=\"x\",\"y\"z:v\nEND:A\n") (room 31 5 6 7) (18 ∷ 19 ∷ 29 ∷ 0 ∷ 0 ∷ 0 ∷ []) (bytes "BEGIN:A\nK;A=\"x\",\"y\"z:v\nEND:A\n" ++ 199 ∷ 200 ∷ []))
    -- the same
    ∷ case "a byte behind the second parameter"
    (refuses (bytes "BEGIN:A\nK;A=x;B=\"y\"z:v\nEND:A\n") (room 31 5 6 7) (18 ∷ 19 ∷ 29 ∷ 0 ∷ 0 ∷ 0 ∷ []) (bytes "BEGIN:A\nK;A=x;B=\"y\"z:v\nEND:A\n" ++ 199 ∷ 200 ∷ []))
    -- (C-30)
    ∷ case "a blank before a semicolon"
    (refuses (bytes "BEGIN:A\nK ;P:v\nEND:A\n") (room 23 5 6 7) (18 ∷ 9 ∷ 21 ∷ 0 ∷ 0 ∷ 0 ∷ []) (bytes "BEGIN:A\nK ;P:v\nEND:A\n" ++ 191 ∷ 192 ∷ []))
    -- (C-30)
    ∷ case "a blank before an equals sign"
    (refuses (bytes "BEGIN:A\nK;P =a:v\nEND:A\n") (room 25 5 6 7) (18 ∷ 11 ∷ 23 ∷ 0 ∷ 0 ∷ 0 ∷ []) (bytes "BEGIN:A\nK;P =a:v\nEND:A\n" ++ 193 ∷ 194 ∷ []))
    -- (C-30)
    ∷ case "a blank behind a parameter key"
    (refuses (bytes "BEGIN:A\nK;A b:v\nEND:A\n") (room 24 5 6 7) (18 ∷ 11 ∷ 22 ∷ 0 ∷ 0 ∷ 0 ∷ []) (bytes "BEGIN:A\nK;A b:v\nEND:A\n" ++ 192 ∷ 193 ∷ []))
    -- it ends the run of key bytes (C-34)
    ∷ case "a key with a byte of 200"
    (refuses (bytes "BEGIN:A\nK" ++ 200 ∷ bytes ":v\nEND:A\n") (room 21 5 6 7) (18 ∷ 9 ∷ 19 ∷ 0 ∷ 0 ∷ 0 ∷ []) (bytes "BEGIN:A\nK" ++ 200 ∷ (bytes ":v\nEND:A\n" ++ 189 ∷ 190 ∷ [])))
    -- so does this one
    ∷ case "a key with a byte of 0"
    (refuses (bytes "BEGIN:A\nK" ++ 0 ∷ bytes ":v\nEND:A\n") (room 21 5 6 7) (18 ∷ 9 ∷ 19 ∷ 0 ∷ 0 ∷ 0 ∷ []) (bytes "BEGIN:A\nK" ++ 0 ∷ (bytes ":v\nEND:A\n" ++ 189 ∷ 190 ∷ [])))
    -- the first CR is a byte of the line (C-26)
    ∷ case "a key before CR CR LF"
    (refuses (bytes "BEGIN:A\nK\r\r\nEND:A\n") (room 20 5 6 7) (18 ∷ 9 ∷ 18 ∷ 0 ∷ 0 ∷ 0 ∷ []) (bytes "BEGIN:A\nK\r\r\nEND:A\n" ++ 188 ∷ 189 ∷ []))
    -- the offset counts in the unfolded text
    ∷ case "a stray byte behind folds"
    (refuses (bytes "BEGIN:A\nK;P\r\n =\"a\"\n\tb:v\nEND:A\n") (room 27 5 6 7) (18 ∷ 15 ∷ 25 ∷ 0 ∷ 0 ∷ 0 ∷ []) (bytes "BEGIN:A\nK;P=\"a\"b:v\nEND:A\n" ++ 195 ∷ 196 ∷ []))
    -- "The order among lines is unchanged.": 17 and 7 in later lines do not come first
    ∷ case "a stray byte before the other two"
    (refuses (bytes "BEGIN:A\nK v\nEND\n:\nEND:A\n") (room 26 5 6 7) (18 ∷ 9 ∷ 24 ∷ 0 ∷ 0 ∷ 0 ∷ []) (bytes "BEGIN:A\nK v\nEND\n:\nEND:A\n" ++ 194 ∷ 195 ∷ []))
    ∷ []

-- 8: the place is the text length
abbrev pub unclosed_cases : List Case
unclosed_cases =
    -- "end of text with a component open"; "text length; length, counts 0"
    case "a component left open"
    (refuses (bytes "BEGIN:A\n") (room 10 5 6 7) (8 ∷ 8 ∷ 8 ∷ 0 ∷ 0 ∷ 0 ∷ []) (bytes "BEGIN:A\n" ++ 178 ∷ 179 ∷ []))
    -- the same
    ∷ case "a component left open, without a break"
    (refuses (bytes "BEGIN:A") (room 9 5 6 7) (8 ∷ 7 ∷ 7 ∷ 0 ∷ 0 ∷ 0 ∷ []) (bytes "BEGIN:A" ++ 177 ∷ 178 ∷ []))
    -- the same
    ∷ case "the outer component left open"
    (refuses (bytes "BEGIN:A\nBEGIN:B\nEND:B\n") (room 24 5 6 7) (8 ∷ 22 ∷ 22 ∷ 0 ∷ 0 ∷ 0 ∷ []) (bytes "BEGIN:A\nBEGIN:B\nEND:B\n" ++ 192 ∷ 193 ∷ []))
    -- the same
    ∷ case "the second component left open"
    (refuses (bytes "BEGIN:A\nEND:A\nBEGIN:B\n") (room 24 5 6 7) (8 ∷ 22 ∷ 22 ∷ 0 ∷ 0 ∷ 0 ∷ []) (bytes "BEGIN:A\nEND:A\nBEGIN:B\n" ++ 192 ∷ 193 ∷ []))
    -- it is a byte of the value
    ∷ case "a CR at the end of the text"
    (refuses (bytes "BEGIN:A\nK:v\r") (room 14 5 6 7) (8 ∷ 12 ∷ 12 ∷ 0 ∷ 0 ∷ 0 ∷ []) (bytes "BEGIN:A\nK:v\r" ++ 182 ∷ 183 ∷ []))
    ∷ []

-- 9: the place is the text length here too
abbrev pub no_component_cases : List Case
no_component_cases =
    -- "no line but empty ones"; "same as 8"
    case "no bytes at all"
    (refuses [] (room 2 5 6 7) (9 ∷ 0 ∷ 0 ∷ 0 ∷ 0 ∷ 0 ∷ []) (bytes₀ 2))
    -- (C-25)
    ∷ case "an empty line"
    (refuses (bytes "\r\n") (room 4 5 6 7) (9 ∷ 2 ∷ 2 ∷ 0 ∷ 0 ∷ 0 ∷ []) (bytes "\r\n" ++ 172 ∷ 173 ∷ []))
    -- the same
    ∷ case "two empty lines"
    (refuses (bytes "\n\n") (room 4 5 6 7) (9 ∷ 2 ∷ 2 ∷ 0 ∷ 0 ∷ 0 ∷ []) (bytes "\n\n" ++ 172 ∷ 173 ∷ []))
    -- nothing is left of it
    ∷ case "a fold alone"
    (refuses (bytes "\n ") (room 2 5 6 7) (9 ∷ 0 ∷ 0 ∷ 0 ∷ 0 ∷ 0 ∷ []) (bytes₀ 2))
    ∷ []
