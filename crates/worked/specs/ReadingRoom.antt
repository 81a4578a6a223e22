-- Serves laws only. Readings and room: too little text (2), too few rows (10), just enough, and more than is asked for.
-- Assumes nothing.
use Rattle.std.specs.Prelude.{List, [], ◌∷◌, ◌++◌}
use Rattle.tables.specs.Lent.{lent}
use Rattle.octets.specs.Literals.{bytes}
use Rattle.worked.specs.Cases.{bytes₀, properties₀, parameters₀, room, Case, case, reads, refuses}

-- 2: nothing lent is changed, and the counts are 0
abbrev pub no_text_room_cases : List Case
no_text_room_cases =
    -- "unfolded length exceeds the text lent"; "0; length needed, counts 0"; "Refusals 1 and 2 change nothing lent."
    case "a text one byte short"
    (refuses (bytes "BEGIN:A\nEND:A\n") (room 13 5 6 7) (2 ∷ 0 ∷ 14 ∷ 0 ∷ 0 ∷ 0 ∷ []) (bytes₀ 13))
    -- the same: even a line that is Outside is not looked at
    ∷ case "no text at all"
    (refuses (bytes "K") (room 0 5 6 7) (2 ∷ 0 ∷ 1 ∷ 0 ∷ 0 ∷ 0 ∷ []) [])
    -- the length needed is that of the unfolded text
    ∷ case "a folded feed, one byte short"
    (refuses (bytes "BEGIN:A\r\n \nEND:A\n") (room 13 5 6 7) (2 ∷ 0 ∷ 14 ∷ 0 ∷ 0 ∷ 0 ∷ []) (bytes₀ 13))
    -- and with that length it is read, though the feed is longer
    ∷ case "a folded feed, exactly full"
    (reads (bytes "BEGIN:A\r\n \nEND:A\n") (room 14 5 6 7) (0 ∷ 0 ∷ 14 ∷ 1 ∷ 0 ∷ 0 ∷ [])
    (lent (bytes "BEGIN:A\nEND:A\n")
    (4294967295 ∷ 1 ∷ 6 ∷ 1 ∷ 900005 ∷ [])
    (properties₀ 6)
    (parameters₀ 7)))
    -- "Order in a reading: 1, 2, then lines one after another" (C-35)
    ∷ case "no text before a bad line"
    (refuses (bytes "BEGIN:\n") (room 6 5 6 7) (2 ∷ 0 ∷ 7 ∷ 0 ∷ 0 ∷ 0 ∷ []) (bytes₀ 6))
    -- "then 8 or 9"
    ∷ case "no text before no component"
    (refuses (bytes "\n") (room 0 5 6 7) (2 ∷ 0 ∷ 1 ∷ 0 ∷ 0 ∷ 0 ∷ []) [])
    -- "then 10": the counts are 0 and not those needed
    ∷ case "no text before no rows"
    (refuses (bytes "BEGIN:A\nEND:A\n") (room 13 0 0 0) (2 ∷ 0 ∷ 14 ∷ 0 ∷ 0 ∷ 0 ∷ []) (bytes₀ 13))
    ∷ []

-- 10: the text is there, no table word is changed, and the counts are those needed
abbrev pub no_room_cases : List Case
no_room_cases =
    -- "a count exceeds its rows"; "0; length and the three counts needed"
    case "components one word short"
    (refuses (bytes "BEGIN:A\nK;P=a:v\nEND:A\n") (room 24 3 6 7) (10 ∷ 0 ∷ 22 ∷ 1 ∷ 1 ∷ 1 ∷ []) (bytes "BEGIN:A\nK;P=a:v\nEND:A\n" ++ 192 ∷ 193 ∷ []))
    -- "3 to 10 leave the unfolded text at the front of the text buffer, the bytes behind it as they were, and no table word changed"
    ∷ case "properties one word short"
    (refuses (bytes "BEGIN:A\nK;P=a:v\nEND:A\n") (room 24 5 4 7) (10 ∷ 0 ∷ 22 ∷ 1 ∷ 1 ∷ 1 ∷ []) (bytes "BEGIN:A\nK;P=a:v\nEND:A\n" ++ 192 ∷ 193 ∷ []))
    -- the same
    ∷ case "parameters one word short"
    (refuses (bytes "BEGIN:A\nK;P=a:v\nEND:A\n") (room 24 5 6 5) (10 ∷ 0 ∷ 22 ∷ 1 ∷ 1 ∷ 1 ∷ []) (bytes "BEGIN:A\nK;P=a:v\nEND:A\n" ++ 192 ∷ 193 ∷ []))
    -- no row is written where one would fit
    ∷ case "a row for one of two components"
    (refuses (bytes "BEGIN:A\nEND:A\nBEGIN:B\nEND:B\n") (room 30 7 6 7) (10 ∷ 0 ∷ 28 ∷ 2 ∷ 0 ∷ 0 ∷ []) (bytes "BEGIN:A\nEND:A\nBEGIN:B\nEND:B\n" ++ 198 ∷ 199 ∷ []))
    -- the counts are those of the text
    ∷ case "no tables at all"
    (refuses (bytes "BEGIN:A\nK;P;Q:v\nEND:A\n") (room 24 0 0 0) (10 ∷ 0 ∷ 22 ∷ 1 ∷ 1 ∷ 2 ∷ []) (bytes "BEGIN:A\nK;P;Q:v\nEND:A\n" ++ 192 ∷ 193 ∷ []))
    -- "lines one after another with 3 to 7 as they stand, then 8 or 9, then 10" (C-35)
    ∷ case "no tables before a bad line"
    (refuses (bytes "BEGIN:A\n:\n") (room 12 0 0 0) (7 ∷ 8 ∷ 10 ∷ 0 ∷ 0 ∷ 0 ∷ []) (bytes "BEGIN:A\n:\n" ++ 180 ∷ 181 ∷ []))
    -- the same
    ∷ case "no tables before an open component"
    (refuses (bytes "BEGIN:A\n") (room 10 0 0 0) (8 ∷ 8 ∷ 8 ∷ 0 ∷ 0 ∷ 0 ∷ []) (bytes "BEGIN:A\n" ++ 178 ∷ 179 ∷ []))
    ∷ []

-- Done with just enough, and with words that are no whole row
abbrev pub just_enough : List Case
just_enough =
    -- "the lent length divided by the row size, rounded down"
    case "every buffer exactly full"
    (reads (bytes "BEGIN:A\nK;P=a:v\nEND:A\n") (room 22 4 5 6) (0 ∷ 0 ∷ 22 ∷ 1 ∷ 1 ∷ 1 ∷ [])
    (lent (bytes "BEGIN:A\nK;P=a:v\nEND:A\n")
    (4294967295 ∷ 1 ∷ 6 ∷ 1 ∷ [])
    (0 ∷ 8 ∷ 1 ∷ 14 ∷ 1 ∷ [])
    (0 ∷ 10 ∷ 1 ∷ 1 ∷ 12 ∷ 1 ∷ [])))
    -- "Done writes the first bytes and rows only." (C-07)
    ∷ case "words that are no whole row"
    (reads (bytes "BEGIN:A\nK;P=a:v\nEND:A\n") (room 24 7 9 11) (0 ∷ 0 ∷ 22 ∷ 1 ∷ 1 ∷ 1 ∷ [])
    (lent (bytes "BEGIN:A\nK;P=a:v\nEND:A\n" ++ 192 ∷ 193 ∷ [])
    (4294967295 ∷ 1 ∷ 6 ∷ 1 ∷ 900005 ∷ 900006 ∷ 900007 ∷ [])
    (0 ∷ 8 ∷ 1 ∷ 14 ∷ 1 ∷ 910006 ∷ 910007 ∷ 910008 ∷ 910009 ∷ [])
    (0 ∷ 10 ∷ 1 ∷ 1 ∷ 12 ∷ 1 ∷ 920007 ∷ 920008 ∷ 920009 ∷ 920010 ∷ 920011 ∷ [])))
    -- a table without a row is enough for a count of 0
    ∷ case "no rows where none are needed"
    (reads (bytes "BEGIN:A\nEND:A\n") (room 14 4 0 0) (0 ∷ 0 ∷ 14 ∷ 1 ∷ 0 ∷ 0 ∷ [])
    (lent (bytes "BEGIN:A\nEND:A\n")
    (4294967295 ∷ 1 ∷ 6 ∷ 1 ∷ [])
    []
    []))
    -- the second row stays as it was
    ∷ case "room for more rows"
    (reads (bytes "BEGIN:A\nEND:A\n") (room 14 8 5 6) (0 ∷ 0 ∷ 14 ∷ 1 ∷ 0 ∷ 0 ∷ [])
    (lent (bytes "BEGIN:A\nEND:A\n")
    (4294967295 ∷ 1 ∷ 6 ∷ 1 ∷ 900005 ∷ 900006 ∷ 900007 ∷ 900008 ∷ [])
    (properties₀ 5)
    (parameters₀ 6)))
    ∷ []
