-- Serves laws only. What is written (answer 0) for tables made by hand, and too little room for it (13).
-- Assumes nothing.
use Rattle.std.specs.Prelude.{List, [], ◌∷◌, ◌++◌, replicate}
use Rattle.tables.specs.Lent.{lent}
use Rattle.octets.specs.Literals.{bytes}
use Rattle.worked.specs.Cases.{letters, bytes₀, Case, case, writes}

-- the lines of a component
abbrev pub lines : List Case
lines =
    -- "BEGIN, its properties, its children inside it, END, each line closed by CRLF"
    case "a component alone is written"
    (writes (lent (bytes "A") (4294967295 ∷ 1 ∷ 0 ∷ 1 ∷ []) [] [])
    (bytes₀ 18) (0 ∷ 0 ∷ 16 ∷ []) (bytes "BEGIN:A\r\nEND:A\r\n" ++ 186 ∷ 187 ∷ []))
    -- its key, `:` and the value
    ∷ case "a property is written"
    (writes (lent (bytes "AKv") (4294967295 ∷ 1 ∷ 0 ∷ 1 ∷ []) (0 ∷ 1 ∷ 1 ∷ 2 ∷ 1 ∷ []) [])
    (bytes₀ 23) (0 ∷ 0 ∷ 21 ∷ []) (bytes "BEGIN:A\r\nK:v\r\nEND:A\r\n" ++ 191 ∷ 192 ∷ []))
    -- the colon always stands (C-43)
    ∷ case "an empty value is written"
    (writes (lent (bytes "AK") (4294967295 ∷ 1 ∷ 0 ∷ 1 ∷ []) (0 ∷ 1 ∷ 1 ∷ 2 ∷ 0 ∷ []) [])
    (bytes₀ 22) (0 ∷ 0 ∷ 20 ∷ []) (bytes "BEGIN:A\r\nK:\r\nEND:A\r\n" ++ 190 ∷ 191 ∷ []))
    -- "An absent value writes the key only."
    ∷ case "an absent value is written"
    (writes (lent (bytes "AKvP") (4294967295 ∷ 1 ∷ 0 ∷ 1 ∷ []) (0 ∷ 1 ∷ 1 ∷ 2 ∷ 1 ∷ []) (0 ∷ 3 ∷ 1 ∷ 0 ∷ 0 ∷ 0 ∷ []))
    (bytes₀ 25) (0 ∷ 0 ∷ 23 ∷ []) (bytes "BEGIN:A\r\nK;P:v\r\nEND:A\r\n" ++ 193 ∷ 194 ∷ []))
    -- behind `=`
    ∷ case "a present value is written"
    (writes (lent (bytes "AKvP") (4294967295 ∷ 1 ∷ 0 ∷ 1 ∷ []) (0 ∷ 1 ∷ 1 ∷ 2 ∷ 1 ∷ []) (0 ∷ 3 ∷ 1 ∷ 1 ∷ 0 ∷ 1 ∷ []))
    (bytes₀ 27) (0 ∷ 0 ∷ 25 ∷ []) (bytes "BEGIN:A\r\nK;P=A:v\r\nEND:A\r\n" ++ 195 ∷ 196 ∷ []))
    -- "A value is quoted as `quote_special_chars` does"
    ∷ case "a value with a colon is written"
    (writes (lent (bytes "AKvPa:b") (4294967295 ∷ 1 ∷ 0 ∷ 1 ∷ []) (0 ∷ 1 ∷ 1 ∷ 2 ∷ 1 ∷ []) (0 ∷ 3 ∷ 1 ∷ 1 ∷ 4 ∷ 3 ∷ []))
    (bytes₀ 31) (0 ∷ 0 ∷ 29 ∷ []) (bytes "BEGIN:A\r\nK;P=\"a:b\":v\r\nEND:A\r\n" ++ 199 ∷ 200 ∷ []))
    -- "left alone if it starts and ends with `"`"
    ∷ case "a list is written"
    (writes (lent (bytes "AK\"a\",\"b\"") (4294967295 ∷ 1 ∷ 0 ∷ 1 ∷ []) (0 ∷ 1 ∷ 1 ∷ 0 ∷ 1 ∷ []) (0 ∷ 1 ∷ 1 ∷ 1 ∷ 2 ∷ 7 ∷ []))
    (bytes₀ 33) (0 ∷ 0 ∷ 31 ∷ []) (bytes "BEGIN:A\r\nK;K=\"a\",\"b\":A\r\nEND:A\r\n" ++ 201 ∷ 202 ∷ []))
    -- "only parameter keys may be empty"
    ∷ case "an empty parameter key is written"
    (writes (lent (bytes "AKv") (4294967295 ∷ 1 ∷ 0 ∷ 1 ∷ []) (0 ∷ 1 ∷ 1 ∷ 2 ∷ 1 ∷ []) (0 ∷ 3 ∷ 0 ∷ 1 ∷ 2 ∷ 1 ∷ []))
    (bytes₀ 26) (0 ∷ 0 ∷ 24 ∷ []) (bytes "BEGIN:A\r\nK;=v:v\r\nEND:A\r\n" ++ 194 ∷ 195 ∷ []))
    ∷ []

-- names with accents: "The writer and every caller of the fold change with it"
abbrev pub accents : List Case
accents =
    -- S, U+00E3 and o
    case "a value with a tilde is written"
    (writes (lent (bytes "AKS" ++ 195 ∷ 163 ∷ bytes "o") (4294967295 ∷ 1 ∷ 0 ∷ 1 ∷ []) (0 ∷ 1 ∷ 1 ∷ 2 ∷ 4 ∷ []) [])
    (bytes₀ 26) (0 ∷ 0 ∷ 24 ∷ []) (bytes "BEGIN:A\r\nK:S" ++ 195 ∷ 163 ∷ (bytes "o\r\nEND:A\r\n" ++ 194 ∷ 195 ∷ [])))
    -- U+0141 and ukasz: no `:`, `;` or `,` stands in it, so that it is left bare
    ∷ case "a parameter value with a stroke is written"
    (writes (lent (bytes "AKvP" ++ 197 ∷ 129 ∷ bytes "ukasz") (4294967295 ∷ 1 ∷ 0 ∷ 1 ∷ []) (0 ∷ 1 ∷ 1 ∷ 2 ∷ 1 ∷ []) (0 ∷ 3 ∷ 1 ∷ 1 ∷ 4 ∷ 7 ∷ []))
    (bytes₀ 33) (0 ∷ 0 ∷ 31 ∷ []) (bytes "BEGIN:A\r\nK;P=" ++ 197 ∷ 129 ∷ (bytes "ukasz:v\r\nEND:A\r\n" ++ 201 ∷ 202 ∷ [])))
    -- U+674E, a comma and a letter: "A value is quoted as `quote_special_chars` does"
    ∷ case "a character of three bytes and a comma are written"
    (writes (lent (bytes "AKvP" ++ 230 ∷ 157 ∷ 142 ∷ bytes ",a") (4294967295 ∷ 1 ∷ 0 ∷ 1 ∷ []) (0 ∷ 1 ∷ 1 ∷ 2 ∷ 1 ∷ []) (0 ∷ 3 ∷ 1 ∷ 1 ∷ 4 ∷ 5 ∷ []))
    (bytes₀ 33) (0 ∷ 0 ∷ 31 ∷ []) (bytes "BEGIN:A\r\nK;P=\"" ++ 230 ∷ 157 ∷ 142 ∷ (bytes ",a\":v\r\nEND:A\r\n" ++ 201 ∷ 202 ∷ [])))
    -- `K:` and 72 letters have 74 octets: "A cut goes at the last character start within the limit of 75 or 74."
    ∷ case "a character across the cut of a property"
    (writes (lent (bytes "AK" ++ (letters 72 ++ 195 ∷ 169 ∷ [])) (4294967295 ∷ 1 ∷ 0 ∷ 1 ∷ []) (0 ∷ 1 ∷ 1 ∷ 2 ∷ 74 ∷ []) [])
    (bytes₀ 99) (0 ∷ 0 ∷ 97 ∷ []) (bytes "BEGIN:A\r\nK:" ++ (letters 72 ++ (bytes "\r\n " ++ 195 ∷ 169 ∷ (bytes "\r\nEND:A\r\n" ++ 187 ∷ 188 ∷ [])))))
    -- `K;P=` and 71 octets of the value fill the line: the colon is the first of the next
    ∷ case "a parameter value with an accent up to the cut"
    (writes (lent (bytes "AKvP" ++ (letters 69 ++ 195 ∷ 169 ∷ [])) (4294967295 ∷ 1 ∷ 0 ∷ 1 ∷ []) (0 ∷ 1 ∷ 1 ∷ 2 ∷ 1 ∷ []) (0 ∷ 3 ∷ 1 ∷ 1 ∷ 4 ∷ 71 ∷ []))
    (bytes₀ 100) (0 ∷ 0 ∷ 98 ∷ []) (bytes "BEGIN:A\r\nK;P=" ++ (letters 69 ++ 195 ∷ 169 ∷ (bytes "\r\n :v\r\nEND:A\r\n" ++ 188 ∷ 189 ∷ []))))
    ∷ []

-- the order of components and rows
abbrev pub trees : List Case
trees =
    -- "its children inside it"
    case "a child is written"
    (writes (lent (bytes "AB") (4294967295 ∷ 1 ∷ 0 ∷ 1 ∷ 0 ∷ 2 ∷ 1 ∷ 1 ∷ []) [] [])
    (bytes₀ 34) (0 ∷ 0 ∷ 32 ∷ []) (bytes "BEGIN:A\r\nBEGIN:B\r\nEND:B\r\nEND:A\r\n" ++ 202 ∷ 203 ∷ []))
    -- "whole tables stand for the list of their top trees"
    ∷ case "two at the top are written"
    (writes (lent (bytes "AB") (4294967295 ∷ 1 ∷ 0 ∷ 1 ∷ 4294967295 ∷ 1 ∷ 1 ∷ 1 ∷ []) [] [])
    (bytes₀ 34) (0 ∷ 0 ∷ 32 ∷ []) (bytes "BEGIN:A\r\nEND:A\r\nBEGIN:B\r\nEND:B\r\n" ++ 202 ∷ 203 ∷ []))
    -- "its properties, its children": whatever the order of rows (C-47)
    ∷ case "a child's property before its parent's"
    (writes (lent (bytes "ABKv") (4294967295 ∷ 1 ∷ 0 ∷ 1 ∷ 0 ∷ 2 ∷ 1 ∷ 1 ∷ []) (1 ∷ 2 ∷ 1 ∷ 3 ∷ 1 ∷ 0 ∷ 2 ∷ 1 ∷ 3 ∷ 1 ∷ []) [])
    (bytes₀ 44) (0 ∷ 0 ∷ 42 ∷ []) (bytes "BEGIN:A\r\nK:v\r\nBEGIN:B\r\nK:v\r\nEND:B\r\nEND:A\r\n" ++ 212 ∷ 213 ∷ []))
    -- "each its key, its parameters in order and its value"
    ∷ case "parameters of the second property"
    (writes (lent (bytes "AKvP") (4294967295 ∷ 1 ∷ 0 ∷ 1 ∷ []) (0 ∷ 1 ∷ 1 ∷ 2 ∷ 1 ∷ 0 ∷ 1 ∷ 1 ∷ 2 ∷ 1 ∷ []) (1 ∷ 3 ∷ 1 ∷ 0 ∷ 0 ∷ 0 ∷ 1 ∷ 3 ∷ 1 ∷ 1 ∷ 0 ∷ 1 ∷ []))
    (bytes₀ 34) (0 ∷ 0 ∷ 32 ∷ []) (bytes "BEGIN:A\r\nK:v\r\nK;P;P=A:v\r\nEND:A\r\n" ++ 202 ∷ 203 ∷ []))
    -- "rounded down" (C-07)
    ∷ case "words left over"
    (writes (lent (bytes "A") (4294967295 ∷ 1 ∷ 0 ∷ 1 ∷ 9 ∷ 9 ∷ 9 ∷ []) (9 ∷ 9 ∷ 9 ∷ 9 ∷ []) (9 ∷ 9 ∷ 9 ∷ 9 ∷ 9 ∷ []))
    (bytes₀ 18) (0 ∷ 0 ∷ 16 ∷ []) (bytes "BEGIN:A\r\nEND:A\r\n" ++ 186 ∷ 187 ∷ []))
    -- only property keys are reserved (C-45)
    ∷ case "names BEGIN and END"
    (writes (lent (bytes "ENDBEGINK") (4294967295 ∷ 1 ∷ 0 ∷ 3 ∷ []) (0 ∷ 8 ∷ 1 ∷ 8 ∷ 1 ∷ []) (0 ∷ 3 ∷ 5 ∷ 0 ∷ 0 ∷ 0 ∷ []))
    (bytes₀ 33) (0 ∷ 0 ∷ 31 ∷ []) (bytes "BEGIN:END\r\nK;BEGIN:K\r\nEND:END\r\n" ++ 201 ∷ 202 ∷ []))
    -- "The writer uses the strict fold for every line, BEGIN and END too."
    ∷ case "a folded BEGIN"
    (writes (lent (replicate 70 65) (4294967295 ∷ 1 ∷ 0 ∷ 70 ∷ []) [] [])
    (bytes₀ 159) (0 ∷ 0 ∷ 157 ∷ []) (bytes "BEGIN:" ++ (replicate 69 65 ++ (bytes "\r\n A\r\nEND:" ++ (replicate 70 65 ++ (bytes "\r\n" ++ 247 ∷ 248 ∷ []))))))
    ∷ []

-- 13: the length needed, and the buffer stays
abbrev pub no_out_room_cases : List Case
no_out_room_cases =
    -- a buffer of just that length is enough
    case "exactly full"
    (writes (lent (bytes "A") (4294967295 ∷ 1 ∷ 0 ∷ 1 ∷ []) [] [])
    (bytes₀ 16) (0 ∷ 0 ∷ 16 ∷ []) (bytes "BEGIN:A\r\nEND:A\r\n"))
    -- "output longer than the buffer"; "on 13 the length needed"; "11 to 15 change nothing"
    ∷ case "one byte short of the output"
    (writes (lent (bytes "A") (4294967295 ∷ 1 ∷ 0 ∷ 1 ∷ []) [] [])
    (bytes₀ 15) (13 ∷ 0 ∷ 16 ∷ []) (bytes₀ 15))
    -- the same
    ∷ case "no buffer"
    (writes (lent (bytes "A") (4294967295 ∷ 1 ∷ 0 ∷ 1 ∷ []) [] [])
    [] (13 ∷ 0 ∷ 16 ∷ []) [])
    ∷ []
