-- `neighbours::count_children`: the children stand side by side, and each is compared with the one before it.
use mathlib.Core.Path.{◌≡◌}
use Prim.Native.Nat.{◌-◌}
use Rattle.std.specs.Prelude.{IfSome}
use Rattle.tables.specs.Lent.{held}
use Rattle.neighbours.proofs.Counting.{Counting}
use Rattle.neighbours.proofs.count_children.Given as goal

abbrev pub invariant-loop-next : goal.invariant-loop-next
invariant-loop-next l =
    Counting (held l.walk.tables) l.parent l.last l.before l.next l.found × IfSome l.with_order (λ w. w.tables ≡ l.walk.tables)

abbrev pub decreases-loop-next : goal.decreases-loop-next
decreases-loop-next l = l.last - l.next.row
