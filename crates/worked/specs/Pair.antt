-- Serves laws only. Reading in two calls (document 02, request 6): a feed is measured into a text with no table lent, and the tables are filled from the text.
-- Assumes nothing.
use Rattle.std.specs.Prelude.{List, [], ◌∷◌, ◌++◌}
use Rattle.tables.specs.Lent.{lent}
use Rattle.octets.specs.Literals.{bytes}
use Rattle.worked.specs.Cases.{bytes₀, tables_for, new_tables, deep, Case, case, measures, fills, fills_nothing}

-- measuring: Done with the counts, 2 with nothing changed, or a refusal with the unfolded text in front; never 10
abbrev pub measured : List Case
measured =
    -- "a measuring call, which unfolds and returns the counts": no row is lent
    case "counts with no row lent"
    (measures (bytes "BEGIN:A\nK;P=a:v\nEND:A\n") (bytes₀ 24) (0 ∷ 0 ∷ 22 ∷ 1 ∷ 1 ∷ 1 ∷ []) (bytes "BEGIN:A\nK;P=a:v\nEND:A\n" ++ 192 ∷ 193 ∷ []))
    -- "measuring gives 1 to 9": what reading refuses by 10 as "no tables at all"
    ∷ case "measuring never gives 10"
    (measures (bytes "BEGIN:A\nK;P;Q:v\nEND:A\n") (bytes₀ 24) (0 ∷ 0 ∷ 22 ∷ 1 ∷ 1 ∷ 2 ∷ []) (bytes "BEGIN:A\nK;P;Q:v\nEND:A\n" ++ 192 ∷ 193 ∷ []))
    -- "which unfolds": the length is that of the unfolded text, and the bytes behind it are as they were
    ∷ case "measuring a folded feed"
    (measures (bytes "BEGIN:A\nK:v\r\n w\nEND:A\n") (bytes₀ 21) (0 ∷ 0 ∷ 19 ∷ 1 ∷ 1 ∷ 0 ∷ []) (bytes "BEGIN:A\nK:vw\nEND:A\n" ++ 189 ∷ 190 ∷ []))
    -- the same: a text as long as that is enough, though the feed is longer
    ∷ case "measuring into a text exactly full"
    (measures (bytes "BEGIN:A\r\n \nEND:A\n") (bytes₀ 14) (0 ∷ 0 ∷ 14 ∷ 1 ∷ 0 ∷ 0 ∷ []) (bytes "BEGIN:A\nEND:A\n"))
    -- "unfolded length exceeds the text lent"; "with the same changes to the text": "Refusals 1 and 2 change nothing lent."
    ∷ case "measuring into a text one byte short"
    (measures (bytes "BEGIN:A\r\n \nEND:A\n") (bytes₀ 13) (2 ∷ 0 ∷ 14 ∷ 0 ∷ 0 ∷ 0 ∷ []) (bytes₀ 13))
    -- "Order in a reading: 1, 2, then lines one after another"
    ∷ case "measuring, and no text before a bad line"
    (measures (bytes "BEGIN:\n") (bytes₀ 6) (2 ∷ 0 ∷ 7 ∷ 0 ∷ 0 ∷ 0 ∷ []) (bytes₀ 6))
    -- "with the same changes to the text": "3 to 10 leave the unfolded text at the front of the text buffer, the bytes behind it as they were"
    ∷ case "measuring a bad BEGIN"
    (measures (bytes "BEGIN\n :\n") (bytes₀ 9) (3 ∷ 0 ∷ 7 ∷ 0 ∷ 0 ∷ 0 ∷ []) (bytes "BEGIN:\n" ++ 177 ∷ 178 ∷ []))
    -- the same for 4: "a sound BEGIN would be at depth 65"
    ∷ case "measuring depth 65"
    (measures (deep (bytes "BEGIN:A\n")) (bytes₀ 522) (4 ∷ 512 ∷ 520 ∷ 0 ∷ 0 ∷ 0 ∷ []) (deep (bytes "BEGIN:A\n" ++ 210 ∷ 211 ∷ [])))
    -- for 5: "the rest differs from the open name"
    ∷ case "measuring a bad END"
    (measures (bytes "BEGIN:A\nEND\n :B\n") (bytes₀ 16) (5 ∷ 8 ∷ 14 ∷ 0 ∷ 0 ∷ 0 ∷ []) (bytes "BEGIN:A\nEND:B\n" ++ 184 ∷ 185 ∷ []))
    -- for 6: "any other line with nothing open"
    ∷ case "measuring a property outside"
    (measures (bytes "K\n :v\n") (bytes₀ 6) (6 ∷ 0 ∷ 4 ∷ 0 ∷ 0 ∷ 0 ∷ []) (bytes "K:v\n" ++ 174 ∷ 175 ∷ []))
    -- for 7: "7 then means empty key"
    ∷ case "measuring an empty key"
    (measures (bytes "BEGIN\n :A\n:v\nEND:A\n") (bytes₀ 19) (7 ∷ 8 ∷ 17 ∷ 0 ∷ 0 ∷ 0 ∷ []) (bytes "BEGIN:A\n:v\nEND:A\n" ++ 187 ∷ 188 ∷ []))
    -- for 8: "end of text with a component open"; "text length", that of the unfolded text
    ∷ case "measuring a component left open"
    (measures (bytes "BEGIN:\n A\n") (bytes₀ 10) (8 ∷ 8 ∷ 8 ∷ 0 ∷ 0 ∷ 0 ∷ []) (bytes "BEGIN:A\n" ++ 178 ∷ 179 ∷ []))
    -- for 9: "no line but empty ones"; "same as 8"
    ∷ case "measuring empty lines"
    (measures (bytes "\n\n \n") (bytes₀ 4) (9 ∷ 2 ∷ 2 ∷ 0 ∷ 0 ∷ 0 ∷ []) (bytes "\n\n" ++ 172 ∷ 173 ∷ []))
    -- "and later line refusals": "17 ReservedKey", with "the line start"
    ∷ case "measuring a reserved key"
    (measures (bytes "BEGIN:A\nEN\n D\nEND:A\n") (bytes₀ 20) (17 ∷ 8 ∷ 18 ∷ 0 ∷ 0 ∷ 0 ∷ []) (bytes "BEGIN:A\nEND\nEND:A\n" ++ 188 ∷ 189 ∷ []))
    -- and 18: "The stray one gives the byte's own offset", in the unfolded text
    ∷ case "measuring a stray byte"
    (measures (bytes "BEGIN:A\nK\n  v\nEND:A\n") (bytes₀ 20) (18 ∷ 9 ∷ 18 ∷ 0 ∷ 0 ∷ 0 ∷ []) (bytes "BEGIN:A\nK v\nEND:A\n" ++ 188 ∷ 189 ∷ []))
    -- "Split reading into a measuring call": 2 components, 3 properties and 4 parameters, which the next case fills
    ∷ case "a pair, measured"
    (measures (bytes "BEGIN:A\nK;P;Q:v\nBEGIN:B\nL;R=a\r\n ;S:w\nM\nEND:B\nEND:A\n") (bytes₀ 50) (0 ∷ 0 ∷ 48 ∷ 2 ∷ 3 ∷ 4 ∷ [])
    (bytes "BEGIN:A\nK;P;Q:v\nBEGIN:B\nL;R=a;S:w\nM\nEND:B\nEND:A\n" ++ 218 ∷ 219 ∷ []))
    ∷ []

-- filling: Done with the rows, or a refusal with every table as it was; never 2, and the text stays always
abbrev pub filled : List Case
filled =
    -- "and a filling call on the unfolded text": the 48 bytes that the case before left in front, and 2, 3 and 4 rows, as it told
    case "a pair, filled"
    (fills (tables_for (bytes "BEGIN:A\nK;P;Q:v\nBEGIN:B\nL;R=a;S:w\nM\nEND:B\nEND:A\n") 8 15 24) (0 ∷ 0 ∷ 48 ∷ 2 ∷ 3 ∷ 4 ∷ [])
    (lent (bytes "BEGIN:A\nK;P;Q:v\nBEGIN:B\nL;R=a;S:w\nM\nEND:B\nEND:A\n")
    (4294967295 ∷ 1 ∷ 6 ∷ 1 ∷ 0 ∷ 2 ∷ 22 ∷ 1 ∷ [])
    (0 ∷ 8 ∷ 1 ∷ 14 ∷ 1 ∷ 1 ∷ 24 ∷ 1 ∷ 32 ∷ 1 ∷ 1 ∷ 34 ∷ 1 ∷ 35 ∷ 0 ∷ [])
    (0 ∷ 10 ∷ 1 ∷ 0 ∷ 0 ∷ 0 ∷ 0 ∷ 12 ∷ 1 ∷ 0 ∷ 0 ∷ 0 ∷ 1 ∷ 26 ∷ 1 ∷ 1 ∷ 28 ∷ 1 ∷ 1 ∷ 30 ∷ 1 ∷ 0 ∷ 0 ∷ 0 ∷ [])))
    -- "the lent length divided by the row size, rounded down"
    ∷ case "every table exactly full"
    (fills (tables_for (bytes "BEGIN:A\nK;P=a:v\nEND:A\n") 4 5 6) (0 ∷ 0 ∷ 22 ∷ 1 ∷ 1 ∷ 1 ∷ [])
    (lent (bytes "BEGIN:A\nK;P=a:v\nEND:A\n")
    (4294967295 ∷ 1 ∷ 6 ∷ 1 ∷ [])
    (0 ∷ 8 ∷ 1 ∷ 14 ∷ 1 ∷ [])
    (0 ∷ 10 ∷ 1 ∷ 1 ∷ 12 ∷ 1 ∷ [])))
    -- "Done writes the first bytes and rows only."
    ∷ case "filling with more rows than needed"
    (fills (tables_for (bytes "BEGIN:A\nK;P=a:v\nEND:A\n") 9 11 13) (0 ∷ 0 ∷ 22 ∷ 1 ∷ 1 ∷ 1 ∷ [])
    (lent (bytes "BEGIN:A\nK;P=a:v\nEND:A\n")
    (4294967295 ∷ 1 ∷ 6 ∷ 1 ∷ 900005 ∷ 900006 ∷ 900007 ∷ 900008 ∷ 900009 ∷ [])
    (0 ∷ 8 ∷ 1 ∷ 14 ∷ 1 ∷ 910006 ∷ 910007 ∷ 910008 ∷ 910009 ∷ 910010 ∷ 910011 ∷ [])
    (0 ∷ 10 ∷ 1 ∷ 1 ∷ 12 ∷ 1 ∷ 920007 ∷ 920008 ∷ 920009 ∷ 920010 ∷ 920011 ∷ 920012 ∷ 920013 ∷ [])))
    -- "a count exceeds its rows": none does, as a count of 0 needs no row
    ∷ case "filling without rows that are not needed"
    (fills (tables_for (bytes "BEGIN:A\nEND:A\n") 4 0 0) (0 ∷ 0 ∷ 14 ∷ 1 ∷ 0 ∷ 0 ∷ [])
    (lent (bytes "BEGIN:A\nEND:A\n")
    (4294967295 ∷ 1 ∷ 6 ∷ 1 ∷ [])
    []
    []))
    -- "filling gives 1, 3 to 10": "a count exceeds its rows"; "0; length and the three counts needed"; "no table word changed"
    ∷ case "filling components one word short"
    (fills_nothing (tables_for (bytes "BEGIN:A\nK;P=a:v\nEND:A\n") 3 5 6) (10 ∷ 0 ∷ 22 ∷ 1 ∷ 1 ∷ 1 ∷ []))
    -- the same: the component is not written either, though it has its row
    ∷ case "filling properties one word short"
    (fills_nothing (tables_for (bytes "BEGIN:A\nK;P=a:v\nEND:A\n") 4 4 6) (10 ∷ 0 ∷ 22 ∷ 1 ∷ 1 ∷ 1 ∷ []))
    -- the same
    ∷ case "filling parameters one word short"
    (fills_nothing (tables_for (bytes "BEGIN:A\nK;P=a:v\nEND:A\n") 4 5 5) (10 ∷ 0 ∷ 22 ∷ 1 ∷ 1 ∷ 1 ∷ []))
    -- "lines one after another with 3 to 7 as they stand, then 8 or 9, then 10"
    ∷ case "filling no tables before a bad line"
    (fills_nothing (tables_for (bytes "BEGIN:A\n:\n") 0 0 0) (7 ∷ 8 ∷ 10 ∷ 0 ∷ 0 ∷ 0 ∷ []))
    -- "3 to 10 leave .. no table word changed": 3, "line start; length, counts 0"
    ∷ case "filling from a bad BEGIN"
    (fills_nothing (tables_for (bytes "BEGIN:A\nBEGIN::\nEND:A\n") 8 5 6) (3 ∷ 8 ∷ 22 ∷ 0 ∷ 0 ∷ 0 ∷ []))
    -- 4, "a sound BEGIN would be at depth 65", with a row for each
    ∷ case "filling from depth 65"
    (fills_nothing (tables_for (deep (bytes "BEGIN:A\n")) 260 6 7) (4 ∷ 512 ∷ 520 ∷ 0 ∷ 0 ∷ 0 ∷ []))
    -- 5, "the rest differs from the open name"
    ∷ case "filling from a bad END"
    (fills_nothing (tables_for (bytes "BEGIN:A\nK;P=a:v\nEND:B\n") 4 5 6) (5 ∷ 16 ∷ 22 ∷ 0 ∷ 0 ∷ 0 ∷ []))
    -- 6, "any other line with nothing open"
    ∷ case "filling from a property outside"
    (fills_nothing (tables_for (bytes "BEGIN:A\nEND:A\nK\n") 4 5 6) (6 ∷ 14 ∷ 16 ∷ 0 ∷ 0 ∷ 0 ∷ []))
    -- 7: "7 then means empty key"
    ∷ case "filling from an empty key"
    (fills_nothing (tables_for (bytes "BEGIN:A\n;P=a:v\nEND:A\n") 4 5 6) (7 ∷ 8 ∷ 21 ∷ 0 ∷ 0 ∷ 0 ∷ []))
    -- "a filling call on the unfolded text": it is not unfolded again, so that the line of the blank has no key (C-74)
    ∷ case "filling from a text with a fold"
    (fills_nothing (tables_for (bytes "BEGIN:A\n B\nEND:AB\n") 4 5 6) (7 ∷ 8 ∷ 18 ∷ 0 ∷ 0 ∷ 0 ∷ []))
    -- all bytes that are lent are the text: one of those that measuring left behind it is a line outside (C-74)
    ∷ case "filling from a text and a byte of its tail"
    (fills_nothing (tables_for (bytes "BEGIN:A\nEND:A\n" ++ 184 ∷ []) 4 5 6) (6 ∷ 14 ∷ 15 ∷ 0 ∷ 0 ∷ 0 ∷ []))
    -- 8, "end of text with a component open"; "text length; length, counts 0"
    ∷ case "filling from a component left open"
    (fills_nothing (tables_for (bytes "BEGIN:A\nK;P=a:v\n") 4 5 6) (8 ∷ 16 ∷ 16 ∷ 0 ∷ 0 ∷ 0 ∷ []))
    -- 9, "no line but empty ones"; "same as 8"
    ∷ case "filling from empty lines"
    (fills_nothing (tables_for (bytes "\n\n") 4 5 6) (9 ∷ 2 ∷ 2 ∷ 0 ∷ 0 ∷ 0 ∷ []))
    -- "and those too": "17 ReservedKey", with "the line start"
    ∷ case "filling from a reserved key"
    (fills_nothing (tables_for (bytes "BEGIN:A\nEND;P=a\nEND:A\n") 4 5 6) (17 ∷ 8 ∷ 22 ∷ 0 ∷ 0 ∷ 0 ∷ []))
    -- and 18: "The stray one gives the byte's own offset"
    ∷ case "filling from a stray byte"
    (fills_nothing (tables_for (bytes "BEGIN:A\nK;P v\nEND:A\n") 4 5 6) (18 ∷ 11 ∷ 20 ∷ 0 ∷ 0 ∷ 0 ∷ []))
    -- tables that are all zero are filled too: "Done writes the first bytes and rows only."
    ∷ case "filling new tables"
    (fills (new_tables (bytes "BEGIN:A\nK;P=a:value\nEND:A\n") 4 5 6) (0 ∷ 0 ∷ 26 ∷ 1 ∷ 1 ∷ 1 ∷ [])
    (lent (bytes "BEGIN:A\nK;P=a:value\nEND:A\n")
    (4294967295 ∷ 1 ∷ 6 ∷ 1 ∷ [])
    (0 ∷ 8 ∷ 1 ∷ 14 ∷ 5 ∷ [])
    (0 ∷ 10 ∷ 1 ∷ 1 ∷ 12 ∷ 1 ∷ [])))
    -- and are all zero again where that is refused: "no table word changed"
    ∷ case "filling new tables, properties one word short"
    (fills_nothing (new_tables (bytes "BEGIN:A\nK;P=a:value\nEND:A\n") 4 4 6) (10 ∷ 0 ∷ 26 ∷ 1 ∷ 1 ∷ 1 ∷ []))
    -- the same
    ∷ case "filling new tables from a bad END"
    (fills_nothing (new_tables (bytes "BEGIN:A\nK;P=a:value\nEND:B\n") 4 5 6) (5 ∷ 20 ∷ 26 ∷ 0 ∷ 0 ∷ 0 ∷ []))
    ∷ []
