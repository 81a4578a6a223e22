-- What is compared in two trees, piece by piece (document 01, "Writing and trees", and document 02, request 5): names of components and values byte by
-- byte, keys without regard to ASCII case (RFC 5545, section 2), and the parameters of a property as a multiset.
-- Here documents 01 and 02 depart from the RFC: docs/DIFFERENCES.md, R-17, R-22, R-23.
-- Assumes nothing.
use Rattle.std.specs.Prelude.{ℕ, Bool, true, false, ◌&&◌, List}
use Rattle.octets.specs.Words.{same_bytes, same_word}
use Rattle.tables.specs.Trees.{Value, absent, present, Parameter}
use Rattle.comparing.specs.Multisets.{same_multiset}

-- the names of two components
abbrev pub same_name : List ℕ → List ℕ → Bool
same_name = same_bytes

-- the keys of two properties, or of two parameters
abbrev pub same_key : List ℕ → List ℕ → Bool
same_key = same_word

-- the values of two properties
abbrev pub same_value : List ℕ → List ℕ → Bool
same_value = same_bytes

-- the values of two parameters: one that is present and empty is not like an absent one
abbrev pub same_held : Value → Value → Bool
same_held absent absent = true
same_held absent (present w) = false
same_held (present v) absent = false
same_held (present v) (present w) = same_bytes v w

abbrev pub same_parameter : Parameter → Parameter → Bool
same_parameter p q = same_key p.key q.key && same_held p.value q.value

-- the parameters of two properties: as many of each in the one as in the other, in any order
abbrev pub same_parameters : List Parameter → List Parameter → Bool
same_parameters = same_multiset same_parameter
