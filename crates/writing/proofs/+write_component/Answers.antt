-- `writing::write_component`: the children stand side by side behind the head, and there is a level for them.
use native.Mathlib.Omega.{arith}
use mathlib.Core.Path.{sym, ap, ◌∙◌}
use Prim.Native.Nat.{ℕ, ◌+◌, ◌-◌, ◌≤◌}
use lib.ListN.{length}
use lib.Dec.{eqb}
use Rattle.octets.specs.Choice.{pick}
use Rattle.octets.specs.Laid.{most}
use Rattle.octets.proofs.Writing.{both, from_as}
use Rattle.tables.specs.Lent.{held}
use Rattle.walking.proofs.Along.{begin_children, children_ahead, behind}
use Rattle.walking.proofs.Rows.{walk_ruled}
use Rattle.printing.specs.Lines.{written}
use Rattle.writing.proofs.Laws.{same_room, going, one_written, all_written, component_bytes}
use Rattle.writing.proofs.+write_component.Goals as goal

pub loop-child-init : goal.loop-child-init
loop-child-init t c =
    let b = held c.args.walk.now.tables in
    let a = c.args in
    let h = c.write_head-head.ensures in
    let ends = c.children_end-last.ensures ∙ ap (λ (k : ℕ). pick (eqb a.level 0) (a.place.row + 1) k) h.end in
    going b (a.level - 1) c.write_head-head.new.out h.next (begin_children b (walk_ruled a.walk.now) a.level a.place.row c.requires.there ends h.reached) (omega (arith, h.lays.count))

pub loop-child-preserved : goal.loop-child-preserved
loop-child-preserved t c =
    let b = held c.args.walk.now.tables in
    one_written b (c.args.level - 1) c.loop-child.invariant c.loop-child-test.true (omega (arith, same_room c.write_head-head.ensures.lays)) c.write_component-child.ensures

pub returns : goal.returns
returns t c =
    let b = held c.args.walk.now.tables in
    let a = c.args in
    let h = c.write_head-head.ensures in
    let ruled = walk_ruled a.walk.now in
    let ends = c.children_end-last.ensures ∙ ap (λ (k : ℕ). pick (eqb a.level 0) (a.place.row + 1) k) h.end in
    let start_room : length a.out.now ≤ most = omega arith in
    let kids =
    from_as (ap written (sym (children_ahead b ruled a.level a.place.row c.requires.there ends)))
    (all_written b (a.level - 1) c.loop-child.invariant c.loop-child-test.false)
    in
    record {
      lays = from_as (sym (component_bytes b a.level a.place.row)) (both h.lays (both kids c.write_end.ensures (omega (arith, same_room h.lays))) start_room);
      end = h.end;
      reached = rw h.end (behind b ruled a.level a.place.row c.requires.there ends c.loop-child.invariant.along);
    }
