-- The bytes that the format gives a meaning to (RFC 5545, section 3.1 and RFC 5234, appendix B.1), and the classes made of them.
-- Here document 01 departs from the RFC: docs/DIFFERENCES.md, R-1.
-- Assumes nothing.
use Rattle.std.specs.Prelude.{ℕ, ◌+◌, Bool, not, ◌&&◌, ◌||◌, eqb, leb}
use Rattle.octets.specs.Choice.{pick}

abbrev pub tab : ℕ
tab = 9

abbrev pub lf : ℕ
lf = 10

abbrev pub cr : ℕ
cr = 13

abbrev pub space : ℕ
space = 32

abbrev pub quote : ℕ
quote = 34

abbrev pub comma : ℕ
comma = 44

abbrev pub colon : ℕ
colon = 58

abbrev pub semicolon : ℕ
semicolon = 59

abbrev pub equals : ℕ
equals = 61

-- WSP: a space or a tab
abbrev pub blank : ℕ → Bool
blank x = eqb x space || eqb x tab

abbrev pub between : ℕ → ℕ → ℕ → Bool
between a z x = leb a x && leb x z

-- below 128
abbrev pub ascii : ℕ → Bool
ascii x = leb x 127

abbrev pub capital : ℕ → Bool
capital = between 65 90

-- document 01, "Keys": ASCII letters, digits and . , / _ -
abbrev pub key_byte : ℕ → Bool
key_byte x =
    capital x
    || (between 97 122 x || (between 48 57 x || (eqb x 46 || (eqb x comma || (eqb x 47 || (eqb x 95 || eqb x 45))))))

-- from the space on and below 128: what values are mostly made of
abbrev pub common : ℕ → Bool
common = between 32 127

abbrev pub other : ℕ → ℕ → Bool
other b x = not (eqb x b)

-- what a bare parameter value may hold: anything but `;` and `:`
abbrev pub bare : ℕ → Bool
bare x = not (eqb x semicolon || eqb x colon)

-- an ASCII letter in lower case, and any other byte as it is
abbrev pub lowered : ℕ → ℕ
lowered x = pick (capital x) (x + 32) x
