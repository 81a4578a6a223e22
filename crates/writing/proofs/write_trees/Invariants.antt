-- `writing::write_trees`: the rows at the top stand side by side, and those up to the place are written.
use Prim.Native.Nat.{◌-◌}
use lib.ListN.{length}
use Rattle.tables.specs.Rows.{no_parent}
use Rattle.tables.specs.Lent.{held}
use Rattle.walking.proofs.Along.{comps}
use Rattle.writing.proofs.Laws.{Going}
use Rattle.writing.proofs.write_trees.Given as goal

abbrev pub invariant-loop-place : goal.invariant-loop-place
invariant-loop-place l = let b = held l.walk.tables in Going b 63 no_parent 1 0 (length (comps b)) 0 l.fn.out l.out l.place

abbrev pub decreases-loop-place : goal.decreases-loop-place
decreases-loop-place l = l.rows - l.place.row
