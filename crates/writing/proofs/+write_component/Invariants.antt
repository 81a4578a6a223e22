-- `writing::write_component`, which calls itself for each child: its head, the children side by side, its end. The level falls with each call.
use Prim.Native.Nat.{◌+◌, ◌-◌}
use Rattle.tables.specs.Lent.{held}
use Rattle.tables.proofs.Nested.{depth_of}
use Rattle.walking.proofs.Along.{comps}
use Rattle.writing.proofs.Laws.{Going}
use Rattle.writing.proofs.+write_component.Given as goal

abbrev pub decreases-write_component : goal.decreases-write_component
decreases-write_component l = l.level

abbrev pub invariant-loop-child : goal.invariant-loop-child
invariant-loop-child l =
    let b = held l.walk.tables in
    Going b (l.level - 1) l.place.row (depth_of (comps b) l.place.row + 1) (l.place.row + 1) l.last l.head.children.at l.initial.out l.out l.child

abbrev pub decreases-loop-child : goal.decreases-loop-child
decreases-loop-child l = l.last - l.child.row
