-- Serves laws only. Readings that are Done (answer 0): raw words of the rows, the text in front, and what stands behind both.
-- Assumes nothing.
use Rattle.std.specs.Prelude.{List, [], ◌∷◌, ◌++◌}
use Rattle.tables.specs.Lent.{lent}
use Rattle.octets.specs.Literals.{bytes}
use Rattle.worked.specs.Cases.{properties₀, parameters₀, room, Case, case, reads}

-- components: which rows, and in which order
abbrev pub components : List Case
components =
    -- "parent row or 4294967295 for none, depth, name start, name length"
    case "a component alone"
    (reads (bytes "BEGIN:A\nEND:A\n") (room 16 5 6 7) (0 ∷ 0 ∷ 14 ∷ 1 ∷ 0 ∷ 0 ∷ [])
    (lent (bytes "BEGIN:A\nEND:A\n" ++ 184 ∷ 185 ∷ [])
    (4294967295 ∷ 1 ∷ 6 ∷ 1 ∷ 900005 ∷ [])
    (properties₀ 6)
    (parameters₀ 7)))
    -- "one CR directly before the LF belongs to the break"
    ∷ case "a break of CR and LF"
    (reads (bytes "BEGIN:A\r\nEND:A\r\n") (room 18 5 6 7) (0 ∷ 0 ∷ 16 ∷ 1 ∷ 0 ∷ 0 ∷ [])
    (lent (bytes "BEGIN:A\r\nEND:A\r\n" ++ 186 ∷ 187 ∷ [])
    (4294967295 ∷ 1 ∷ 6 ∷ 1 ∷ 900005 ∷ [])
    (properties₀ 6)
    (parameters₀ 7)))
    -- "A line ends at LF or at the end of text"
    ∷ case "a last line without its break"
    (reads (bytes "BEGIN:A\nEND:A") (room 15 5 6 7) (0 ∷ 0 ∷ 13 ∷ 1 ∷ 0 ∷ 0 ∷ [])
    (lent (bytes "BEGIN:A\nEND:A" ++ 183 ∷ 184 ∷ [])
    (4294967295 ∷ 1 ∷ 6 ∷ 1 ∷ 900005 ∷ [])
    (properties₀ 6)
    (parameters₀ 7)))
    -- "Empty lines are skipped."
    ∷ case "empty lines"
    (reads (bytes "\nBEGIN:A\n\r\nEND:A\n\n") (room 20 5 6 7) (0 ∷ 0 ∷ 18 ∷ 1 ∷ 0 ∷ 0 ∷ [])
    (lent (bytes "\nBEGIN:A\n\r\nEND:A\n\n" ++ 188 ∷ 189 ∷ [])
    (4294967295 ∷ 1 ∷ 7 ∷ 1 ∷ 900005 ∷ [])
    (properties₀ 6)
    (parameters₀ 7)))
    -- "One or more components may stand at top level."
    ∷ case "two components at the top"
    (reads (bytes "BEGIN:A\nEND:A\nBEGIN:B\nEND:B\n") (room 30 9 6 7) (0 ∷ 0 ∷ 28 ∷ 2 ∷ 0 ∷ 0 ∷ [])
    (lent (bytes "BEGIN:A\nEND:A\nBEGIN:B\nEND:B\n" ++ 198 ∷ 199 ∷ [])
    (4294967295 ∷ 1 ∷ 6 ∷ 1
    ∷ 4294967295 ∷ 1 ∷ 20 ∷ 1
    ∷ 900009 ∷ [])
    (properties₀ 6)
    (parameters₀ 7)))
    -- "Components stand in order of BEGIN"; the parent is the open one
    ∷ case "two components inside one"
    (reads (bytes "BEGIN:A\nBEGIN:B\nEND:B\nBEGIN:C\nEND:C\nEND:A\n") (room 44 13 6 7) (0 ∷ 0 ∷ 42 ∷ 3 ∷ 0 ∷ 0 ∷ [])
    (lent (bytes "BEGIN:A\nBEGIN:B\nEND:B\nBEGIN:C\nEND:C\nEND:A\n" ++ 212 ∷ 213 ∷ [])
    (4294967295 ∷ 1 ∷ 6 ∷ 1
    ∷ 0 ∷ 2 ∷ 14 ∷ 1
    ∷ 0 ∷ 2 ∷ 28 ∷ 1
    ∷ 900013 ∷ [])
    (properties₀ 6)
    (parameters₀ 7)))
    -- "nest at most 64 deep (top level is 1)"
    ∷ case "three inside each other"
    (reads (bytes "BEGIN:A\nBEGIN:B\nBEGIN:C\nEND:C\nEND:B\nEND:A\n") (room 44 13 6 7) (0 ∷ 0 ∷ 42 ∷ 3 ∷ 0 ∷ 0 ∷ [])
    (lent (bytes "BEGIN:A\nBEGIN:B\nBEGIN:C\nEND:C\nEND:B\nEND:A\n" ++ 212 ∷ 213 ∷ [])
    (4294967295 ∷ 1 ∷ 6 ∷ 1
    ∷ 0 ∷ 2 ∷ 14 ∷ 1
    ∷ 1 ∷ 3 ∷ 22 ∷ 1
    ∷ 900013 ∷ [])
    (properties₀ 6)
    (parameters₀ 7)))
    -- "`BEGIN:` and `END:` are known in any case and the name is compared exactly" (C-24)
    ∷ case "BEGIN and END in any case"
    (reads (bytes "bEgIn:a\neNd:a\n") (room 16 5 6 7) (0 ∷ 0 ∷ 14 ∷ 1 ∷ 0 ∷ 0 ∷ [])
    (lent (bytes "bEgIn:a\neNd:a\n" ++ 184 ∷ 185 ∷ [])
    (4294967295 ∷ 1 ∷ 6 ∷ 1 ∷ 900005 ∷ [])
    (properties₀ 6)
    (parameters₀ 7)))
    -- "Key bytes are ASCII letters, digits and `.` `,` `/` `_` `-`"
    ∷ case "a name of all kinds of key bytes"
    (reads (bytes "BEGIN:aZ0.,/_-\nEND:aZ0.,/_-\n") (room 30 5 6 7) (0 ∷ 0 ∷ 28 ∷ 1 ∷ 0 ∷ 0 ∷ [])
    (lent (bytes "BEGIN:aZ0.,/_-\nEND:aZ0.,/_-\n" ++ 198 ∷ 199 ∷ [])
    (4294967295 ∷ 1 ∷ 6 ∷ 8 ∷ 900005 ∷ [])
    (properties₀ 6)
    (parameters₀ 7)))
    ∷ []

-- properties: where key and value stand
abbrev pub properties : List Case
properties =
    -- "owner row, key start, key length, value start, value length"
    case "a property"
    (reads (bytes "BEGIN:A\nK:v\nEND:A\n") (room 20 5 6 7) (0 ∷ 0 ∷ 18 ∷ 1 ∷ 1 ∷ 0 ∷ [])
    (lent (bytes "BEGIN:A\nK:v\nEND:A\n" ++ 188 ∷ 189 ∷ [])
    (4294967295 ∷ 1 ∷ 6 ∷ 1 ∷ 900005 ∷ [])
    (0 ∷ 8 ∷ 1 ∷ 10 ∷ 1 ∷ 910006 ∷ [])
    (parameters₀ 7)))
    -- "An empty property value has its own start and length 0."
    ∷ case "a value that is empty"
    (reads (bytes "BEGIN:A\nK:\nEND:A\n") (room 19 5 6 7) (0 ∷ 0 ∷ 17 ∷ 1 ∷ 1 ∷ 0 ∷ [])
    (lent (bytes "BEGIN:A\nK:\nEND:A\n" ++ 187 ∷ 188 ∷ [])
    (4294967295 ∷ 1 ∷ 6 ∷ 1 ∷ 900005 ∷ [])
    (0 ∷ 8 ∷ 1 ∷ 10 ∷ 0 ∷ 910006 ∷ [])
    (parameters₀ 7)))
    -- "or the end at once, with an empty value": it starts at the end of the line (C-29)
    ∷ case "a value without a colon"
    (reads (bytes "BEGIN:A\nK\nEND:A\n") (room 18 5 6 7) (0 ∷ 0 ∷ 16 ∷ 1 ∷ 1 ∷ 0 ∷ [])
    (lent (bytes "BEGIN:A\nK\nEND:A\n" ++ 186 ∷ 187 ∷ [])
    (4294967295 ∷ 1 ∷ 6 ∷ 1 ∷ 900005 ∷ [])
    (0 ∷ 8 ∷ 1 ∷ 9 ∷ 0 ∷ 910006 ∷ [])
    (parameters₀ 7)))
    -- and that end is before the break (C-29)
    ∷ case "a value without a colon before CR LF"
    (reads (bytes "BEGIN:A\nK\r\nEND:A\n") (room 19 5 6 7) (0 ∷ 0 ∷ 17 ∷ 1 ∷ 1 ∷ 0 ∷ [])
    (lent (bytes "BEGIN:A\nK\r\nEND:A\n" ++ 187 ∷ 188 ∷ [])
    (4294967295 ∷ 1 ∷ 6 ∷ 1 ∷ 900005 ∷ [])
    (0 ∷ 8 ∷ 1 ∷ 9 ∷ 0 ∷ 910006 ∷ [])
    (parameters₀ 7)))
    -- "a key of at least one byte, parameters, then `:` and the value to the end of the line, or the end at once"
    ∷ case "a value without a colon behind a parameter"
    (reads (bytes "BEGIN:A\nK;P\nEND:A\n") (room 20 5 6 7) (0 ∷ 0 ∷ 18 ∷ 1 ∷ 1 ∷ 1 ∷ [])
    (lent (bytes "BEGIN:A\nK;P\nEND:A\n" ++ 188 ∷ 189 ∷ [])
    (4294967295 ∷ 1 ∷ 6 ∷ 1 ∷ 900005 ∷ [])
    (0 ∷ 8 ∷ 1 ∷ 11 ∷ 0 ∷ 910006 ∷ [])
    (0 ∷ 10 ∷ 1 ∷ 0 ∷ 0 ∷ 0 ∷ 920007 ∷ [])))
    -- "`:` and the value to the end of the line"
    ∷ case "a value with marks in it"
    (reads (bytes "BEGIN:A\nK:v;w:x\nEND:A\n") (room 24 5 6 7) (0 ∷ 0 ∷ 22 ∷ 1 ∷ 1 ∷ 0 ∷ [])
    (lent (bytes "BEGIN:A\nK:v;w:x\nEND:A\n" ++ 192 ∷ 193 ∷ [])
    (4294967295 ∷ 1 ∷ 6 ∷ 1 ∷ 900005 ∷ [])
    (0 ∷ 8 ∷ 1 ∷ 10 ∷ 5 ∷ 910006 ∷ [])
    (parameters₀ 7)))
    -- NUL and bytes of 128 or more are ordinary in values (C-34)
    ∷ case "a value of any bytes"
    (reads (bytes "BEGIN:A\nK:\0" ++ 200 ∷ bytes "\nEND:A\n") (room 21 5 6 7) (0 ∷ 0 ∷ 19 ∷ 1 ∷ 1 ∷ 0 ∷ [])
    (lent (bytes "BEGIN:A\nK:\0" ++ 200 ∷ (bytes "\nEND:A\n" ++ 189 ∷ 190 ∷ []))
    (4294967295 ∷ 1 ∷ 6 ∷ 1 ∷ 900005 ∷ [])
    (0 ∷ 8 ∷ 1 ∷ 10 ∷ 2 ∷ 910006 ∷ [])
    (parameters₀ 7)))
    -- "Other CRs are ordinary bytes.": of CR CR LF the first one (C-26)
    ∷ case "a value that ends with a CR"
    (reads (bytes "BEGIN:A\nK:v\r\r\nEND:A\n") (room 22 5 6 7) (0 ∷ 0 ∷ 20 ∷ 1 ∷ 1 ∷ 0 ∷ [])
    (lent (bytes "BEGIN:A\nK:v\r\r\nEND:A\n" ++ 190 ∷ 191 ∷ [])
    (4294967295 ∷ 1 ∷ 6 ∷ 1 ∷ 900005 ∷ [])
    (0 ∷ 8 ∷ 1 ∷ 10 ∷ 2 ∷ 910006 ∷ [])
    (parameters₀ 7)))
    ∷ []

-- keys, owners, and offsets behind folds
abbrev pub owners : List Case
owners =
    -- "Testing BEGIN as a bare prefix, which loses BEGINNING." is wrong
    case "a key that begins with BEGIN"
    (reads (bytes "BEGIN:A\nBEGINNING:v\nEND:A\n") (room 28 5 6 7) (0 ∷ 0 ∷ 26 ∷ 1 ∷ 1 ∷ 0 ∷ [])
    (lent (bytes "BEGIN:A\nBEGINNING:v\nEND:A\n" ++ 196 ∷ 197 ∷ [])
    (4294967295 ∷ 1 ∷ 6 ∷ 1 ∷ 900005 ∷ [])
    (0 ∷ 8 ∷ 9 ∷ 18 ∷ 1 ∷ 910006 ∷ [])
    (parameters₀ 7)))
    -- and so it is with END
    ∷ case "a key that begins with END"
    (reads (bytes "BEGIN:A\nENDS:v\nEND:A\n") (room 23 5 6 7) (0 ∷ 0 ∷ 21 ∷ 1 ∷ 1 ∷ 0 ∷ [])
    (lent (bytes "BEGIN:A\nENDS:v\nEND:A\n" ++ 191 ∷ 192 ∷ [])
    (4294967295 ∷ 1 ∷ 6 ∷ 1 ∷ 900005 ∷ [])
    (0 ∷ 8 ∷ 4 ∷ 13 ∷ 1 ∷ 910006 ∷ [])
    (parameters₀ 7)))
    -- "properties and parameters in order of reading", each with the row that is open
    ∷ case "properties around a child"
    (reads (bytes "BEGIN:A\nK:v\nBEGIN:B\nL:w\nEND:B\nM:x\nEND:A\n") (room 42 9 16 7) (0 ∷ 0 ∷ 40 ∷ 2 ∷ 3 ∷ 0 ∷ [])
    (lent (bytes "BEGIN:A\nK:v\nBEGIN:B\nL:w\nEND:B\nM:x\nEND:A\n" ++ 210 ∷ 211 ∷ [])
    (4294967295 ∷ 1 ∷ 6 ∷ 1
    ∷ 0 ∷ 2 ∷ 18 ∷ 1
    ∷ 900009 ∷ [])
    (0 ∷ 8 ∷ 1 ∷ 10 ∷ 1
    ∷ 1 ∷ 20 ∷ 1 ∷ 22 ∷ 1
    ∷ 0 ∷ 30 ∷ 1 ∷ 32 ∷ 1
    ∷ 910016 ∷ [])
    (parameters₀ 7)))
    -- "Offsets count in the unfolded text."; "with a CR directly before the LF"
    ∷ case "a folded line"
    (reads (bytes "BEGIN:A\nK:v\r\n w\nEND:A\n") (room 21 5 6 7) (0 ∷ 0 ∷ 19 ∷ 1 ∷ 1 ∷ 0 ∷ [])
    (lent (bytes "BEGIN:A\nK:vw\nEND:A\n" ++ 189 ∷ 190 ∷ [])
    (4294967295 ∷ 1 ∷ 6 ∷ 1 ∷ 900005 ∷ [])
    (0 ∷ 8 ∷ 1 ∷ 10 ∷ 2 ∷ 910006 ∷ [])
    (parameters₀ 7)))
    -- "Every LF followed at once by a space or tab goes, with that one blank" (C-27)
    ∷ case "a fold before everything"
    (reads (bytes "\n BEGIN:A\nEND:A\n") (room 16 5 6 7) (0 ∷ 0 ∷ 14 ∷ 1 ∷ 0 ∷ 0 ∷ [])
    (lent (bytes "BEGIN:A\nEND:A\n" ++ 184 ∷ 185 ∷ [])
    (4294967295 ∷ 1 ∷ 6 ∷ 1 ∷ 900005 ∷ [])
    (properties₀ 6)
    (parameters₀ 7)))
    -- "It is one pass over the original bytes.", before any line is looked at
    ∷ case "a fold inside a word"
    (reads (bytes "BEG\n\tIN:A\nEND:A\n") (room 16 5 6 7) (0 ∷ 0 ∷ 14 ∷ 1 ∷ 0 ∷ 0 ∷ [])
    (lent (bytes "BEGIN:A\nEND:A\n" ++ 184 ∷ 185 ∷ [])
    (4294967295 ∷ 1 ∷ 6 ∷ 1 ∷ 900005 ∷ [])
    (properties₀ 6)
    (parameters₀ 7)))
    -- "with that one blank": the second stays
    ∷ case "a fold of two blanks"
    (reads (bytes "BEGIN:A\nK:v\n  w\nEND:A\n") (room 22 5 6 7) (0 ∷ 0 ∷ 20 ∷ 1 ∷ 1 ∷ 0 ∷ [])
    (lent (bytes "BEGIN:A\nK:v w\nEND:A\n" ++ 190 ∷ 191 ∷ [])
    (4294967295 ∷ 1 ∷ 6 ∷ 1 ∷ 900005 ∷ [])
    (0 ∷ 8 ∷ 1 ∷ 10 ∷ 3 ∷ 910006 ∷ [])
    (parameters₀ 7)))
    ∷ []

-- parameters: absent, present, quoted, listed
abbrev pub parameters : List Case
parameters =
    -- "property row, key start, key length, 1 if a value is present else 0, value start, value length"; "An absent parameter value has start 0 and length 0."
    case "an absent value"
    (reads (bytes "BEGIN:A\nK;P:v\nEND:A\n") (room 22 5 6 7) (0 ∷ 0 ∷ 20 ∷ 1 ∷ 1 ∷ 1 ∷ [])
    (lent (bytes "BEGIN:A\nK;P:v\nEND:A\n" ++ 190 ∷ 191 ∷ [])
    (4294967295 ∷ 1 ∷ 6 ∷ 1 ∷ 900005 ∷ [])
    (0 ∷ 8 ∷ 1 ∷ 12 ∷ 1 ∷ 910006 ∷ [])
    (0 ∷ 10 ∷ 1 ∷ 0 ∷ 0 ∷ 0 ∷ 920007 ∷ [])))
    -- "if there are none, absent"
    ∷ case "an absent value behind ="
    (reads (bytes "BEGIN:A\nK;P=:v\nEND:A\n") (room 23 5 6 7) (0 ∷ 0 ∷ 21 ∷ 1 ∷ 1 ∷ 1 ∷ [])
    (lent (bytes "BEGIN:A\nK;P=:v\nEND:A\n" ++ 191 ∷ 192 ∷ [])
    (4294967295 ∷ 1 ∷ 6 ∷ 1 ∷ 900005 ∷ [])
    (0 ∷ 8 ∷ 1 ∷ 13 ∷ 1 ∷ 910006 ∷ [])
    (0 ∷ 10 ∷ 1 ∷ 0 ∷ 0 ∷ 0 ∷ 920007 ∷ [])))
    -- "one or more bytes up to `;`, `:` or the end"
    ∷ case "a present value"
    (reads (bytes "BEGIN:A\nK;P=a:v\nEND:A\n") (room 24 5 6 7) (0 ∷ 0 ∷ 22 ∷ 1 ∷ 1 ∷ 1 ∷ [])
    (lent (bytes "BEGIN:A\nK;P=a:v\nEND:A\n" ++ 192 ∷ 193 ∷ [])
    (4294967295 ∷ 1 ∷ 6 ∷ 1 ∷ 900005 ∷ [])
    (0 ∷ 8 ∷ 1 ∷ 14 ∷ 1 ∷ 910006 ∷ [])
    (0 ∷ 10 ∷ 1 ∷ 1 ∷ 12 ∷ 1 ∷ 920007 ∷ [])))
    -- "One alone gives the inside"
    ∷ case "a quoted value"
    (reads (bytes "BEGIN:A\nK;P=\"a:b\":v\nEND:A\n") (room 28 5 6 7) (0 ∷ 0 ∷ 26 ∷ 1 ∷ 1 ∷ 1 ∷ [])
    (lent (bytes "BEGIN:A\nK;P=\"a:b\":v\nEND:A\n" ++ 196 ∷ 197 ∷ [])
    (4294967295 ∷ 1 ∷ 6 ∷ 1 ∷ 900005 ∷ [])
    (0 ∷ 8 ∷ 1 ∷ 18 ∷ 1 ∷ 910006 ∷ [])
    (0 ∷ 10 ∷ 1 ∷ 1 ∷ 13 ∷ 3 ∷ 920007 ∷ [])))
    -- "two or more give the whole list with its quotes"
    ∷ case "a list of quoted parts"
    (reads (bytes "BEGIN:A\nK;P=\"a\",\"b\":v\nEND:A\n") (room 30 5 6 7) (0 ∷ 0 ∷ 28 ∷ 1 ∷ 1 ∷ 1 ∷ [])
    (lent (bytes "BEGIN:A\nK;P=\"a\",\"b\":v\nEND:A\n" ++ 198 ∷ 199 ∷ [])
    (4294967295 ∷ 1 ∷ 6 ∷ 1 ∷ 900005 ∷ [])
    (0 ∷ 8 ∷ 1 ∷ 20 ∷ 1 ∷ 910006 ∷ [])
    (0 ∷ 10 ∷ 1 ∷ 1 ∷ 12 ∷ 7 ∷ 920007 ∷ [])))
    -- "`"`, one or more bytes other than `"`": else bare bytes, here the two quotes
    ∷ case "empty quotes"
    (reads (bytes "BEGIN:A\nK;P=\"\":v\nEND:A\n") (room 25 5 6 7) (0 ∷ 0 ∷ 23 ∷ 1 ∷ 1 ∷ 1 ∷ [])
    (lent (bytes "BEGIN:A\nK;P=\"\":v\nEND:A\n" ++ 193 ∷ 194 ∷ [])
    (4294967295 ∷ 1 ∷ 6 ∷ 1 ∷ 900005 ∷ [])
    (0 ∷ 8 ∷ 1 ∷ 15 ∷ 1 ∷ 910006 ∷ [])
    (0 ∷ 10 ∷ 1 ∷ 1 ∷ 12 ∷ 2 ∷ 920007 ∷ [])))
    ∷ []

-- parameters: keys, blanks, and whose they are
abbrev pub keys : List Case
keys =
    -- "if that fails, one or more bytes up to `;`, `:` or the end" (C-33)
    case "a quote that is not closed"
    (reads (bytes "BEGIN:A\nK;P=\"a;Q:v\nEND:A\n") (room 27 5 6 13) (0 ∷ 0 ∷ 25 ∷ 1 ∷ 1 ∷ 2 ∷ [])
    (lent (bytes "BEGIN:A\nK;P=\"a;Q:v\nEND:A\n" ++ 195 ∷ 196 ∷ [])
    (4294967295 ∷ 1 ∷ 6 ∷ 1 ∷ 900005 ∷ [])
    (0 ∷ 8 ∷ 1 ∷ 17 ∷ 1 ∷ 910006 ∷ [])
    (0 ∷ 10 ∷ 1 ∷ 1 ∷ 12 ∷ 2
    ∷ 0 ∷ 15 ∷ 1 ∷ 0 ∷ 0 ∷ 0
    ∷ 920013 ∷ [])))
    -- "a key run that may be empty": it starts behind the `;`
    ∷ case "an empty key with a value"
    (reads (bytes "BEGIN:A\nK;=a:v\nEND:A\n") (room 23 5 6 7) (0 ∷ 0 ∷ 21 ∷ 1 ∷ 1 ∷ 1 ∷ [])
    (lent (bytes "BEGIN:A\nK;=a:v\nEND:A\n" ++ 191 ∷ 192 ∷ [])
    (4294967295 ∷ 1 ∷ 6 ∷ 1 ∷ 900005 ∷ [])
    (0 ∷ 8 ∷ 1 ∷ 13 ∷ 1 ∷ 910006 ∷ [])
    (0 ∷ 10 ∷ 0 ∷ 1 ∷ 11 ∷ 1 ∷ 920007 ∷ [])))
    -- "then any spaces and tabs, then a key run": it starts behind the blanks (C-30)
    ∷ case "an empty key behind blanks"
    (reads (bytes "BEGIN:A\nK; \t:v\nEND:A\n") (room 23 5 6 7) (0 ∷ 0 ∷ 21 ∷ 1 ∷ 1 ∷ 1 ∷ [])
    (lent (bytes "BEGIN:A\nK; \t:v\nEND:A\n" ++ 191 ∷ 192 ∷ [])
    (4294967295 ∷ 1 ∷ 6 ∷ 1 ∷ 900005 ∷ [])
    (0 ∷ 8 ∷ 1 ∷ 13 ∷ 1 ∷ 910006 ∷ [])
    (0 ∷ 12 ∷ 0 ∷ 0 ∷ 0 ∷ 0 ∷ 920007 ∷ [])))
    -- blanks are never part of a key (C-30)
    ∷ case "a key behind a blank"
    (reads (bytes "BEGIN:A\nK; P=a:v\nEND:A\n") (room 25 5 6 7) (0 ∷ 0 ∷ 23 ∷ 1 ∷ 1 ∷ 1 ∷ [])
    (lent (bytes "BEGIN:A\nK; P=a:v\nEND:A\n" ++ 193 ∷ 194 ∷ [])
    (4294967295 ∷ 1 ∷ 6 ∷ 1 ∷ 900005 ∷ [])
    (0 ∷ 8 ∷ 1 ∷ 15 ∷ 1 ∷ 910006 ∷ [])
    (0 ∷ 11 ∷ 1 ∷ 1 ∷ 13 ∷ 1 ∷ 920007 ∷ [])))
    -- "property row", and "in order of reading"
    ∷ case "parameters of two properties"
    (reads (bytes "BEGIN:A\nK;P:v\nL;Q=a;R:w\nEND:A\n") (room 32 5 11 19) (0 ∷ 0 ∷ 30 ∷ 1 ∷ 2 ∷ 3 ∷ [])
    (lent (bytes "BEGIN:A\nK;P:v\nL;Q=a;R:w\nEND:A\n" ++ 200 ∷ 201 ∷ [])
    (4294967295 ∷ 1 ∷ 6 ∷ 1 ∷ 900005 ∷ [])
    (0 ∷ 8 ∷ 1 ∷ 12 ∷ 1
    ∷ 0 ∷ 14 ∷ 1 ∷ 22 ∷ 1
    ∷ 910011 ∷ [])
    (0 ∷ 10 ∷ 1 ∷ 0 ∷ 0 ∷ 0
    ∷ 1 ∷ 16 ∷ 1 ∷ 1 ∷ 18 ∷ 1
    ∷ 1 ∷ 20 ∷ 1 ∷ 0 ∷ 0 ∷ 0
    ∷ 920019 ∷ [])))
    ∷ []
