-- Serves laws only. The two folds: Done (0), an LF (11), a byte of 128 or more in the repository's (12), an ill-formed character in the strict one (19), too
-- little room (13), and their order.
-- Assumes nothing.
use Rattle.std.specs.Prelude.{List, [], ◌∷◌, ◌++◌}
use Rattle.octets.specs.Literals.{bytes}
use Rattle.worked.specs.Cases.{letters, bytes₀, Case, case, folds, folds_strictly}

-- the strict fold, Done
abbrev pub strictly : List Case
strictly =
    -- "75 octets for the first line"; "Done writes the first bytes ... only"
    case "a short line, strictly"
    (folds_strictly (bytes "ab") (bytes₀ 4) (0 ∷ 0 ∷ 2 ∷ []) (bytes "ab" ++ 172 ∷ 173 ∷ []))
    -- a fold of no bytes is no bytes (C-40)
    ∷ case "no line, strictly"
    (folds_strictly [] (bytes₀ 2) (0 ∷ 0 ∷ 0 ∷ []) (bytes₀ 2))
    -- "a line to fold holds LF": a CR may stand in it (C-41)
    ∷ case "a CR in the line, strictly"
    (folds_strictly (bytes "a\rb") (bytes₀ 5) (0 ∷ 0 ∷ 3 ∷ []) (bytes "a\rb" ++ 173 ∷ 174 ∷ []))
    -- "Lines of ASCII fold as before": 127 is the last byte of ASCII
    ∷ case "a byte of 127, strictly"
    (folds_strictly (127 ∷ []) (bytes₀ 3) (0 ∷ 0 ∷ 1 ∷ []) (127 ∷ 171 ∷ 172 ∷ []))
    -- "75 letters fold to one line"
    ∷ case "75 letters, strictly"
    (folds_strictly (letters 75) (bytes₀ 77) (0 ∷ 0 ∷ 75 ∷ []) (letters 75 ++ 245 ∷ 246 ∷ []))
    -- "joined by CRLF and a space"
    ∷ case "76 letters, strictly"
    (folds_strictly (letters 76) (bytes₀ 80) (0 ∷ 0 ∷ 79 ∷ []) (letters 75 ++ (bytes "\r\n a" ++ 249 ∷ [])))
    -- "74 for each later one"
    ∷ case "149 letters, strictly"
    (folds_strictly (letters 149) (bytes₀ 154) (0 ∷ 0 ∷ 152 ∷ []) (letters 75 ++ (bytes "\r\n " ++ (letters 74 ++ 242 ∷ 243 ∷ []))))
    -- "taken as full as they go"
    ∷ case "150 letters, strictly"
    (folds_strictly (letters 150) (bytes₀ 158) (0 ∷ 0 ∷ 156 ∷ []) (letters 75 ++ (bytes "\r\n " ++ (letters 74 ++ (bytes "\r\n a" ++ 246 ∷ 247 ∷ [])))))
    -- "strict 75 and 2"
    ∷ case "a space at offset 75, strictly"
    (folds_strictly (letters 75 ++ bytes " ") (bytes₀ 80) (0 ∷ 0 ∷ 79 ∷ []) (letters 75 ++ (bytes "\r\n  " ++ 249 ∷ [])))
    ∷ []

-- the strict fold, refused: 11, 19, 13 in this order, and the buffer stays
abbrev pub refused_strictly : List Case
refused_strictly =
    -- "first LF"; "on other refusals 0"; "11 to 15 change nothing"
    case "an LF, strictly"
    (folds_strictly (bytes "a\nb") (bytes₀ 5) (11 ∷ 1 ∷ 0 ∷ []) (bytes₀ 5))
    -- "first LF"
    ∷ case "an LF in front, strictly"
    (folds_strictly (bytes "\n\n") (bytes₀ 5) (11 ∷ 0 ∷ 0 ∷ []) (bytes₀ 5))
    -- "the first byte of the first ill-formed character"
    ∷ case "a byte of 128, strictly"
    (folds_strictly (bytes "a" ++ 128 ∷ []) (bytes₀ 5) (19 ∷ 1 ∷ 0 ∷ []) (bytes₀ 5))
    -- the same
    ∷ case "bytes of 255, strictly"
    (folds_strictly (255 ∷ 255 ∷ []) (bytes₀ 5) (19 ∷ 0 ∷ 0 ∷ []) (bytes₀ 5))
    -- "Order in a fold: 1, 11, 12, 13"; "19 NotUtf8 replaces 12 in the strict fold and writer"
    ∷ case "a byte of 128 before an LF, strictly"
    (folds_strictly (128 ∷ bytes "\n") (bytes₀ 5) (11 ∷ 1 ∷ 0 ∷ []) (bytes₀ 5))
    -- the same
    ∷ case "an LF and no room, strictly"
    (folds_strictly (bytes "\n") [] (11 ∷ 0 ∷ 0 ∷ []) [])
    -- the same
    ∷ case "a byte of 128 and no room, strictly"
    (folds_strictly (128 ∷ []) [] (19 ∷ 0 ∷ 0 ∷ []) [])
    -- "output longer than the buffer"; "on 13 the length needed"
    ∷ case "one byte short, strictly"
    (folds_strictly (bytes "ab") (bytes₀ 1) (13 ∷ 0 ∷ 2 ∷ []) (bytes₀ 1))
    -- the break takes room too
    ∷ case "one byte short of a break, strictly"
    (folds_strictly (letters 76) (bytes₀ 78) (13 ∷ 0 ∷ 79 ∷ []) (bytes₀ 78))
    ∷ []

-- names with accents, Done: "Let the strict fold take UTF-8 by RFC 3629"
abbrev pub with_accents : List Case
with_accents =
    -- S, U+00E3 and o
    case "a name with a tilde"
    (folds_strictly (bytes "S" ++ 195 ∷ 163 ∷ bytes "o") (bytes₀ 6) (0 ∷ 0 ∷ 4 ∷ []) (bytes "S" ++ 195 ∷ 163 ∷ (bytes "o" ++ 174 ∷ 175 ∷ [])))
    -- U+0141 and ukasz
    ∷ case "a name with a stroke"
    (folds_strictly (197 ∷ 129 ∷ bytes "ukasz") (bytes₀ 9) (0 ∷ 0 ∷ 7 ∷ []) (197 ∷ 129 ∷ (bytes "ukasz" ++ 177 ∷ 178 ∷ [])))
    -- U+674E
    ∷ case "a name of one character of three bytes"
    (folds_strictly (230 ∷ 157 ∷ 142 ∷ []) (bytes₀ 5) (0 ∷ 0 ∷ 3 ∷ []) (230 ∷ 157 ∷ 142 ∷ 173 ∷ 174 ∷ []))
    -- U+1F600
    ∷ case "an emoji"
    (folds_strictly (240 ∷ 159 ∷ 152 ∷ 128 ∷ []) (bytes₀ 6) (0 ∷ 0 ∷ 4 ∷ []) (240 ∷ 159 ∷ 152 ∷ 128 ∷ 174 ∷ 175 ∷ []))
    ∷ []

-- a character at the cut, and a letter behind it: "A cut goes at the last character start within the limit of 75 or 74."
abbrev pub across_the_cut : List Case
across_the_cut =
    -- it ends at the limit: the cut goes behind it
    case "73 letters and a character of two bytes"
    (folds_strictly (letters 73 ++ 195 ∷ 169 ∷ bytes "a") (bytes₀ 81) (0 ∷ 0 ∷ 79 ∷ []) (letters 73 ++ 195 ∷ 169 ∷ (bytes "\r\n a" ++ 249 ∷ 170 ∷ [])))
    -- octet 1 of its 2 is the last within the limit: the cut goes before it
    ∷ case "74 letters and a character of two bytes"
    (folds_strictly (letters 74 ++ 195 ∷ 169 ∷ bytes "a") (bytes₀ 82) (0 ∷ 0 ∷ 80 ∷ []) (letters 74 ++ (bytes "\r\n " ++ 195 ∷ 169 ∷ (bytes "a" ++ 170 ∷ 171 ∷ []))))
    -- it starts at the limit: the cut goes before it
    ∷ case "75 letters and a character of two bytes"
    (folds_strictly (letters 75 ++ 195 ∷ 169 ∷ bytes "a") (bytes₀ 83) (0 ∷ 0 ∷ 81 ∷ []) (letters 75 ++ (bytes "\r\n " ++ 195 ∷ 169 ∷ (bytes "a" ++ 171 ∷ 172 ∷ []))))
    -- it ends at the limit: the cut goes behind it
    ∷ case "72 letters and a character of three bytes"
    (folds_strictly (letters 72 ++ 230 ∷ 157 ∷ 142 ∷ bytes "a") (bytes₀ 81) (0 ∷ 0 ∷ 79 ∷ []) (letters 72 ++ 230 ∷ 157 ∷ 142 ∷ (bytes "\r\n a" ++ 249 ∷ 170 ∷ [])))
    -- octet 2 of its 3 is the last within the limit: the cut goes before it
    ∷ case "73 letters and a character of three bytes"
    (folds_strictly (letters 73 ++ 230 ∷ 157 ∷ 142 ∷ bytes "a") (bytes₀ 82) (0 ∷ 0 ∷ 80 ∷ []) (letters 73 ++ (bytes "\r\n " ++ 230 ∷ 157 ∷ 142 ∷ (bytes "a" ++ 170 ∷ 171 ∷ []))))
    -- octet 1 of its 3 is the last within the limit: the cut goes before it
    ∷ case "74 letters and a character of three bytes"
    (folds_strictly (letters 74 ++ 230 ∷ 157 ∷ 142 ∷ bytes "a") (bytes₀ 83) (0 ∷ 0 ∷ 81 ∷ []) (letters 74 ++ (bytes "\r\n " ++ 230 ∷ 157 ∷ 142 ∷ (bytes "a" ++ 171 ∷ 172 ∷ []))))
    -- it starts at the limit: the cut goes before it
    ∷ case "75 letters and a character of three bytes"
    (folds_strictly (letters 75 ++ 230 ∷ 157 ∷ 142 ∷ bytes "a") (bytes₀ 84) (0 ∷ 0 ∷ 82 ∷ []) (letters 75 ++ (bytes "\r\n " ++ 230 ∷ 157 ∷ 142 ∷ (bytes "a" ++ 172 ∷ 173 ∷ []))))
    -- it ends at the limit: the cut goes behind it
    ∷ case "71 letters and a character of four bytes"
    (folds_strictly (letters 71 ++ 240 ∷ 159 ∷ 152 ∷ 128 ∷ bytes "a") (bytes₀ 81) (0 ∷ 0 ∷ 79 ∷ []) (letters 71 ++ 240 ∷ 159 ∷ 152 ∷ 128 ∷ (bytes "\r\n a" ++ 249 ∷ 170 ∷ [])))
    -- octet 3 of its 4 is the last within the limit: the cut goes before it
    ∷ case "72 letters and a character of four bytes"
    (folds_strictly (letters 72 ++ 240 ∷ 159 ∷ 152 ∷ 128 ∷ bytes "a")
    (bytes₀ 82) (0 ∷ 0 ∷ 80 ∷ []) (letters 72 ++ (bytes "\r\n " ++ 240 ∷ 159 ∷ 152 ∷ 128 ∷ (bytes "a" ++ 170 ∷ 171 ∷ []))))
    -- octet 2 of its 4 is the last within the limit: the cut goes before it
    ∷ case "73 letters and a character of four bytes"
    (folds_strictly (letters 73 ++ 240 ∷ 159 ∷ 152 ∷ 128 ∷ bytes "a")
    (bytes₀ 83) (0 ∷ 0 ∷ 81 ∷ []) (letters 73 ++ (bytes "\r\n " ++ 240 ∷ 159 ∷ 152 ∷ 128 ∷ (bytes "a" ++ 171 ∷ 172 ∷ []))))
    -- octet 1 of its 4 is the last within the limit: the cut goes before it
    ∷ case "74 letters and a character of four bytes"
    (folds_strictly (letters 74 ++ 240 ∷ 159 ∷ 152 ∷ 128 ∷ bytes "a")
    (bytes₀ 84) (0 ∷ 0 ∷ 82 ∷ []) (letters 74 ++ (bytes "\r\n " ++ 240 ∷ 159 ∷ 152 ∷ 128 ∷ (bytes "a" ++ 172 ∷ 173 ∷ []))))
    -- it starts at the limit: the cut goes before it
    ∷ case "75 letters and a character of four bytes"
    (folds_strictly (letters 75 ++ 240 ∷ 159 ∷ 152 ∷ 128 ∷ bytes "a")
    (bytes₀ 85) (0 ∷ 0 ∷ 83 ∷ []) (letters 75 ++ (bytes "\r\n " ++ 240 ∷ 159 ∷ 152 ∷ 128 ∷ (bytes "a" ++ 173 ∷ 174 ∷ []))))
    -- 75 letters, and 73 behind the space of the second line: "within the limit of 75 or 74"
    ∷ case "148 letters and a character of two bytes"
    (folds_strictly (letters 148 ++ 195 ∷ 169 ∷ bytes "a")
    (bytes₀ 159) (0 ∷ 0 ∷ 157 ∷ []) (letters 75 ++ (bytes "\r\n " ++ (letters 73 ++ (bytes "\r\n " ++ 195 ∷ 169 ∷ (bytes "a" ++ 247 ∷ 248 ∷ []))))))
    -- 75 letters, and 72 behind the space of the second line: "within the limit of 75 or 74"
    ∷ case "147 letters and a character of three bytes"
    (folds_strictly (letters 147 ++ 230 ∷ 157 ∷ 142 ∷ bytes "a")
    (bytes₀ 159) (0 ∷ 0 ∷ 157 ∷ []) (letters 75 ++ (bytes "\r\n " ++ (letters 72 ++ (bytes "\r\n " ++ 230 ∷ 157 ∷ 142 ∷ (bytes "a" ++ 247 ∷ 248 ∷ []))))))
    -- 75 letters, and 71 behind the space of the second line: "within the limit of 75 or 74"
    ∷ case "146 letters and a character of four bytes"
    (folds_strictly (letters 146 ++ 240 ∷ 159 ∷ 152 ∷ 128 ∷ bytes "a")
    (bytes₀ 159) (0 ∷ 0 ∷ 157 ∷ []) (letters 75 ++ (bytes "\r\n " ++ (letters 71 ++ (bytes "\r\n " ++ 240 ∷ 159 ∷ 152 ∷ 128 ∷ (bytes "a" ++ 247 ∷ 248 ∷ []))))))
    ∷ []

-- the strict fold, refused with 19: "shortest forms only, no surrogates"; "the first byte of the first ill-formed character"
abbrev pub ill_formed : List Case
ill_formed =
    -- "shortest forms only": U+0000 in two bytes
    case "two bytes of C0"
    (folds_strictly (bytes "a" ++ 192 ∷ 128 ∷ []) (bytes₀ 8) (19 ∷ 1 ∷ 0 ∷ []) (bytes₀ 8))
    -- "shortest forms only": U+007F in two bytes
    ∷ case "two bytes of C1"
    (folds_strictly (bytes "a" ++ 193 ∷ 191 ∷ []) (bytes₀ 8) (19 ∷ 1 ∷ 0 ∷ []) (bytes₀ 8))
    -- "by RFC 3629": no character begins with F5
    ∷ case "four bytes of F5"
    (folds_strictly (bytes "a" ++ 245 ∷ 128 ∷ 128 ∷ 128 ∷ []) (bytes₀ 8) (19 ∷ 1 ∷ 0 ∷ []) (bytes₀ 8))
    -- "no surrogates": U+D800
    ∷ case "a surrogate"
    (folds_strictly (bytes "a" ++ 237 ∷ 160 ∷ 128 ∷ []) (bytes₀ 8) (19 ∷ 1 ∷ 0 ∷ []) (bytes₀ 8))
    -- "shortest forms only": U+0000 in three bytes
    ∷ case "three bytes where fewer do"
    (folds_strictly (bytes "a" ++ 224 ∷ 128 ∷ 128 ∷ []) (bytes₀ 8) (19 ∷ 1 ∷ 0 ∷ []) (bytes₀ 8))
    -- "shortest forms only": U+0000 in four bytes
    ∷ case "four bytes where fewer do"
    (folds_strictly (bytes "a" ++ 240 ∷ 128 ∷ 128 ∷ 128 ∷ []) (bytes₀ 8) (19 ∷ 1 ∷ 0 ∷ []) (bytes₀ 8))
    -- "by RFC 3629": U+110000 is over U+10FFFF
    ∷ case "a character that is too large"
    (folds_strictly (bytes "a" ++ 244 ∷ 144 ∷ 128 ∷ 128 ∷ []) (bytes₀ 8) (19 ∷ 1 ∷ 0 ∷ []) (bytes₀ 8))
    -- it belongs to no first byte: its own offset
    ∷ case "a continuation byte alone"
    (folds_strictly (bytes "a" ++ 128 ∷ []) (bytes₀ 8) (19 ∷ 1 ∷ 0 ∷ []) (bytes₀ 8))
    -- "The length of a character follows from how many leading ones its first byte has."
    ∷ case "one of two bytes"
    (folds_strictly (bytes "a" ++ 195 ∷ []) (bytes₀ 8) (19 ∷ 1 ∷ 0 ∷ []) (bytes₀ 8))
    -- the same
    ∷ case "two of three bytes"
    (folds_strictly (bytes "a" ++ 230 ∷ 157 ∷ []) (bytes₀ 8) (19 ∷ 1 ∷ 0 ∷ []) (bytes₀ 8))
    -- the same
    ∷ case "three of four bytes"
    (folds_strictly (bytes "a" ++ 240 ∷ 159 ∷ 152 ∷ []) (bytes₀ 8) (19 ∷ 1 ∷ 0 ∷ []) (bytes₀ 8))
    -- the same: its third byte is a letter
    ∷ case "two of three bytes, and a letter"
    (folds_strictly (bytes "a" ++ 230 ∷ 157 ∷ bytes "A") (bytes₀ 8) (19 ∷ 1 ∷ 0 ∷ []) (bytes₀ 8))
    -- "the first ill-formed character": the one before it is well formed
    ∷ case "a surrogate behind a character"
    (folds_strictly (195 ∷ 169 ∷ 237 ∷ 160 ∷ 128 ∷ []) (bytes₀ 8) (19 ∷ 2 ∷ 0 ∷ []) (bytes₀ 8))
    -- "Order in a fold: 1, 11, 12, 13"; "19 NotUtf8 replaces 12 in the strict fold and writer"
    ∷ case "an ill-formed character and no room"
    (folds_strictly (bytes "a" ++ 192 ∷ 128 ∷ []) [] (19 ∷ 1 ∷ 0 ∷ []) [])
    -- the same
    ∷ case "an ill-formed character before an LF"
    (folds_strictly (bytes "a" ++ 192 ∷ 128 ∷ bytes "\n") (bytes₀ 8) (11 ∷ 3 ∷ 0 ∷ []) (bytes₀ 8))
    ∷ []

-- the fold of the repository, Done
abbrev pub as_repository : List Case
as_repository =
    -- "The remainder, up to 75, is one line."
    case "a short line"
    (folds (bytes "ab") (bytes₀ 4) (0 ∷ 0 ∷ 2 ∷ []) (bytes "ab" ++ 172 ∷ 173 ∷ []))
    -- (C-40)
    ∷ case "no line"
    (folds [] (bytes₀ 2) (0 ∷ 0 ∷ 0 ∷ []) (bytes₀ 2))
    -- "75 letters fold to one line"
    ∷ case "75 letters"
    (folds (letters 75) (bytes₀ 77) (0 ∷ 0 ∷ 75 ∷ []) (letters 75 ++ 245 ∷ 246 ∷ []))
    -- "While more than 75 bytes remain, the cut stands 75 bytes on at first"
    ∷ case "76 letters"
    (folds (letters 76) (bytes₀ 80) (0 ∷ 0 ∷ 79 ∷ []) (letters 75 ++ (bytes "\r\n a" ++ 249 ∷ [])))
    -- "150 letters: repository lines of 75 and 76 octets"
    ∷ case "150 letters"
    (folds (letters 150) (bytes₀ 155) (0 ∷ 0 ∷ 153 ∷ []) (letters 75 ++ (bytes "\r\n " ++ (letters 75 ++ 243 ∷ 244 ∷ []))))
    -- "later 74 bytes past the last cut"
    ∷ case "151 letters"
    (folds (letters 151) (bytes₀ 159) (0 ∷ 0 ∷ 157 ∷ []) (letters 75 ++ (bytes "\r\n " ++ (letters 74 ++ (bytes "\r\n aa" ++ 247 ∷ 248 ∷ [])))))
    ∷ []

-- the fold of the repository: the byte at the cut
abbrev pub at_the_cut : List Case
at_the_cut =
    -- "one byte less if the byte at the cut is 9 to 13 or 32"; "repository 74 and 3"
    case "a space at offset 75"
    (folds (letters 75 ++ bytes " ") (bytes₀ 80) (0 ∷ 0 ∷ 79 ∷ []) (letters 74 ++ (bytes "\r\n a " ++ 249 ∷ [])))
    -- the same
    ∷ case "a byte of 9 at offset 75"
    (folds (letters 75 ++ bytes "\t") (bytes₀ 80) (0 ∷ 0 ∷ 79 ∷ []) (letters 74 ++ (bytes "\r\n a\t" ++ 249 ∷ [])))
    -- the same
    ∷ case "a byte of 13 at offset 75"
    (folds (letters 75 ++ bytes "\r") (bytes₀ 80) (0 ∷ 0 ∷ 79 ∷ []) (letters 74 ++ (bytes "\r\n a\r" ++ 249 ∷ [])))
    -- it is none of these
    ∷ case "a byte of 8 at offset 75"
    (folds (letters 75 ++ 8 ∷ []) (bytes₀ 80) (0 ∷ 0 ∷ 79 ∷ []) (letters 75 ++ (bytes "\r\n " ++ 8 ∷ 249 ∷ [])))
    -- it is none of these
    ∷ case "a byte of 14 at offset 75"
    (folds (letters 75 ++ 14 ∷ []) (bytes₀ 80) (0 ∷ 0 ∷ 79 ∷ []) (letters 75 ++ (bytes "\r\n " ++ 14 ∷ 249 ∷ [])))
    ∷ []

-- the fold of the repository, refused alike
abbrev pub refused_as_repository : List Case
refused_as_repository =
    -- "Order in a fold: 1, 11, 12, 13"
    case "an LF"
    (folds (128 ∷ bytes "\n") (bytes₀ 5) (11 ∷ 1 ∷ 0 ∷ []) (bytes₀ 5))
    -- "first such byte"
    ∷ case "a byte of 128"
    (folds (bytes "a" ++ 128 ∷ []) [] (12 ∷ 1 ∷ 0 ∷ []) [])
    -- "the repository fold remains ASCII": U+00E9
    ∷ case "a character of two bytes"
    (folds (195 ∷ 169 ∷ []) (bytes₀ 4) (12 ∷ 0 ∷ 0 ∷ []) (bytes₀ 4))
    -- "on 13 the length needed"
    ∷ case "one byte short"
    (folds (letters 76) (bytes₀ 78) (13 ∷ 0 ∷ 79 ∷ []) (bytes₀ 78))
    -- "on 13 the length needed"
    ∷ case "no room"
    (folds (bytes "a") [] (13 ∷ 0 ∷ 1 ∷ []) [])
    ∷ []
