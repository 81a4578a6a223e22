-- `printing::count_marks`: BEGIN and END are ASCII.
use native.Mathlib.Omega.{arith}
use Rattle.printing.proofs.Pens.{begin_mark, end_mark}
use Rattle.printing.proofs.count_marks.Goals as goal

pub lay_mark-opened-requires : goal.lay_mark-opened-requires
lay_mark-opened-requires c = begin_mark

pub lay_mark-requires : goal.lay_mark-requires
lay_mark-requires c = end_mark

pub returns : goal.returns
returns c = omega (arith, c.lay_mark-opened.ensures.count, c.lay_mark.ensures.count, c.saturating_add.ensures)
