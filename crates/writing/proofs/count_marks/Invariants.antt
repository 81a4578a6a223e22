-- `writing::count_marks`: the rows so far are counted.
use Rattle.tables.specs.Lent.{held}
use Rattle.writing.specs.Lengths.{marks_length}
use Rattle.writing.proofs.Lengths.{Counts}
use Rattle.writing.proofs.count_marks.Given as goal

abbrev pub invariant-loop-row : goal.invariant-loop-row
invariant-loop-row l = Counts (marks_length (held l.tables)) 0 l.at l.row
