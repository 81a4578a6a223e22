-- `twins::same_trees`: first properties that differ and subtrees of different size tell at once, and else the comparison does.
use native.Mathlib.Omega.{arith}
use mathlib.Core.Path.{sym, ◌∙◌}
use Prim.Native.Nat.{ℕ, ◌+◌, ◌≤◌, ◌<◌}
use lib.ListN.{length}
use Rattle.octets.specs.Answers.{deepest}
use Rattle.tables.specs.Lent.{held}
use Rattle.tables.proofs.Nested.{depth_of, rows_nested}
use Rattle.walking.proofs.Along.{comps, params}
use Rattle.walking.proofs.Rows.{row_there, walk_ruled}
use Rattle.walking.specs.declared.Walk.{Walk}
use Rattle.twins.proofs.Pairs.{properties_differ, sizes_differ}
use Rattle.twins.proofs.same_trees.Goals as goal
use Rattle.twins.proofs.same_trees.Goals.{then-same_front, else-same_front}

-- 63 levels are enough below any row
deep : (w : Walk) (row : ℕ) → row < length (comps (held w.tables)) → deepest ≤ depth_of (comps (held w.tables)) row + 63
deep w row h = omega (arith, (rows_nested (comps (held w.tables)) (length w.tables.text.now) w.nested row h).some)

pub same_size-requires : goal.same_size-requires
same_size-requires g c =
    let words = c.args.walk.now.tables.components.now in
    (row_there words c.args.first.row c.requires.first_arrived.there, row_there words c.args.second.row c.requires.second_arrived.there)

pub returns-else-same_size : goal.returns-else-same_size
returns-else-same_size g c =
    let w = c.args.walk.now in
    let b = held w.tables in
    let one = c.args.first.row in
    let other = c.args.second.row in
    let h = c.requires.first_arrived.there in
    let k = c.requires.second_arrived.there in
    c.if-same_size.false
    ∙ sym (elim c.if-same_front.branch [
      | then-same_front v ↦ sizes_differ g.V.Values.test b 63 one other (walk_ruled w) h k (deep w one h) (deep w other k)
          (sym v.same_size.ensures ∙ (sym v.value-is ∙ c.if-same_size.false))
      | else-same_front v ↦ properties_differ g.V.Values.test b 63 one other (c.same_front.ensures v.if-same_front.false (params b))
    ])
