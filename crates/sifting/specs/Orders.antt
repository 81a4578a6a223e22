-- Serves inner contracts only. An order of parameters in which those that are the same stand at the same place: by their keys in lower case, then by
-- their values. It only makes the search fast; no answer rests on it.
-- Assumes nothing.
use Rattle.std.specs.Prelude.{ℕ, Bool, List, map}
use Rattle.std.specs.Ordering.{nat_cmp, ordering_then, is_lt}
use Rattle.std.specs.Cmp.Lexicographic.{slice_cmp}
use Rattle.std.specs.declared.cmp.Ordering.{Ordering}
use Rattle.std.specs.declared.cmp.Ordering.TheVariants.{Less, Equal, Greater}
use Rattle.octets.specs.Bytes.{lowered}
use Rattle.tables.specs.Trees.{Value, absent, present, Parameter}

-- where the one key stands beside the other: the first letters that differ decide, and a key that ends stands before one that goes on
abbrev pub key_order : List ℕ → List ℕ → Ordering
key_order k l = slice_cmp nat_cmp (map lowered k) (map lowered l)

-- the same of values byte by byte; an absent one stands before one that is present
abbrev pub value_order : Value → Value → Ordering
value_order absent absent = Equal
value_order absent (present w) = Less
value_order (present v) absent = Greater
value_order (present v) (present w) = slice_cmp nat_cmp v w

-- the keys decide, and then the values
abbrev pub parameter_order : Parameter → Parameter → Ordering
parameter_order p q = ordering_then (key_order p.key q.key) (value_order p.value q.value)

abbrev pub precedes : Parameter → Parameter → Bool
precedes p q = is_lt (parameter_order p q)
