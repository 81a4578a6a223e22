-- `writing::write_end`: END is ASCII.
use mathlib.Core.Path.{ap}
use mathlib.Core.List.{List}
use Prim.Native.Nat.{ℕ}
use Rattle.octets.proofs.Writing.{from_as}
use Rattle.printing.specs.Lines.{closed_line, end_line}
use Rattle.printing.proofs.Pens.{end_mark}
use Rattle.writing.proofs.write_end.Goals as goal

pub write_mark-requires : goal.write_mark-requires
write_mark-requires c = end_mark

pub returns : goal.returns
returns c = from_as (ap (λ (n : List ℕ). closed_line (end_line n)) c.name_of.ensures) c.write_mark.ensures
