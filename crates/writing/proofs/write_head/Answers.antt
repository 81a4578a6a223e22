-- `writing::write_head`: BEGIN with the name of the row, and then the properties of its window.
use native.Mathlib.Omega.{arith}
use mathlib.Core.Path.{refl, ap}
use mathlib.Core.List.{List}
use Prim.Native.Nat.{ℕ}
use Rattle.octets.proofs.Writing.{from_as, both}
use Rattle.printing.specs.Lines.{closed_line, begin_line}
use Rattle.printing.proofs.Pens.{begin_mark}
use Rattle.walking.proofs.Rows.{row_there}
use Rattle.writing.proofs.write_head.Goals as goal

pub write_mark-opened-requires : goal.write_mark-opened-requires
write_mark-opened-requires c = begin_mark

pub window-window-requires-clause-row_in_bounds : goal.window-window-requires-clause-row_in_bounds
window-window-requires-clause-row_in_bounds c = row_there c.args.walk.now.tables.components.now c.args.place.row c.requires.there

pub returns : goal.returns
returns c =
    record {
      lays = both (from_as (ap (λ (n : List ℕ). closed_line (begin_line n)) c.name_of-name.ensures) c.write_mark-opened.ensures) c.write_properties-listed.ensures (omega arith);
      next = refl;
      end = c.window-window.ensures.end;
      reached = c.window-window.ensures.reached;
    }
