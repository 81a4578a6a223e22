-- `writing::count_lines`: the rows so far are counted, and no parameter behind those belongs to a row passed.
use Prim.Native.Nat.{◌≤◌}
use Rattle.tables.specs.Fronts.{front}
use Rattle.tables.specs.Lent.{held, parameters_in}
use Rattle.walking.specs.Walk.{held_before}
use Rattle.writing.specs.Lengths.{line_length}
use Rattle.writing.proofs.Lengths.{Counts}
use Rattle.writing.proofs.count_lines.Given as goal

abbrev pub invariant-loop-number : goal.invariant-loop-number
invariant-loop-number l =
    (l.printed.next ≤ front (held_before l.number) (parameters_in (held l.walk.tables).parameters))
    × Counts (line_length (held l.walk.tables)) l.at l.printed.length l.number
