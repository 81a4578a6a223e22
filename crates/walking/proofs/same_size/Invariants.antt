-- `walking::same_size`: wherever the loop stands, the rest of both subtrees compares as the whole of them.
use Rattle.std.proofs.Common.{◌≡◌, ◌-◌, ◌/◌, eqb, length}
use Rattle.tables.specs.Rows.{component_size, component_at}
use Rattle.tables.specs.Lent.{components_in}
use Rattle.walking.specs.Walk.{deeper, end_of}
use Rattle.walking.proofs.Lockstep.{level}
use Rattle.walking.proofs.same_size.Given as goal

abbrev pub invariant-loop-first : goal.invariant-loop-first
invariant-loop-first l =
    level component_size component_at (deeper l.one) (deeper l.other) l.components l.i l.j
    ≡ eqb (end_of (components_in l.components) l.first - l.first) (end_of (components_in l.components) l.second - l.second)

abbrev pub decreases-loop-first : goal.decreases-loop-first
decreases-loop-first l = length l.components / component_size - l.i
