-- `nesting::pass` meets its contract: what each line adds, where a refused line ends the reading, and what is said at the end.
-- Assumes nothing.
use Rattle.std.proofs.Common.{Err, refl, sym, ap, ◌∙◌, arith}
use Rattle.std.proofs.lemmas.Result.{err_from_is_err_and}
use Rattle.tables.specs.Rows.{put_row, component_size, component_words}
use Rattle.tables.specs.declared.ComponentRow.{ComponentRow}
use Rattle.lines.specs.declared.Extent.{Extent}
use Rattle.lines.specs.declared.Line.TheVariants.{Begin, End, Content}
use Rattle.nesting.specs.Steps.{nothing, after}
use Rattle.nesting.proofs.Checks.{fine_from, refused_from}
use Rattle.nesting.proofs.Passing.{start, moved_to, content_at, lent_line, extent_inside, refuses, refused_outcome, never_finished}
use Rattle.nesting.proofs.Passing.{property_sound, property_few, adds_property, begin_inside, adds_component, closes_one, adds_nothing, passes, finish, ended_outcome, ends_tabled}
use Rattle.nesting.proofs.pass.Goals as goal

pub loop-at-init : goal.loop-at-init
loop-at-init c = (nothing, rw (c.new-open.ensures, c.new-counts.ensures) (start _ _ _ _))

pub slice_bounds-bytes-end : goal.slice_bounds-bytes-end
slice_bounds-bytes-end c =
    omega (arith, (extent_inside c.loop-at.at c.args.text.now c.line_at-extent.result c.line_at-extent.ensures c.loop-at-test.true).0)

pub returns-in_err-met_at-clause-value : goal.returns-in_err-met_at-clause-value
returns-in_err-met_at-clause-value c =
    let so = c.loop-at.invariant.1 in
    let bytes = lent_line c.loop-at.at c.args.text.now c.line_at-extent.result c.line_at-extent.ensures in
    let r = refused_from _ _ _ c.in_err-met_at.ensures in
    let p = err_from_is_err_and c.from_residual.result c.from_residual.ensures.1 in
    rw (p.1, p.2)
    (ap Err r.1 ∙ refused_outcome _ _ _ (refuses so c.loop-at-test.true (rw bytes at c.read_line-line.ensures) _ (sym (rw (bytes, so.«open») at c.check_line.ensures) ∙ r.0)))

pub returns-in_err-met_at-clause-tabled : goal.returns-in_err-met_at-clause-tabled
returns-in_err-met_at-clause-tabled c s f =
    let so = c.loop-at.invariant.1 in
    let bytes = lent_line c.loop-at.at c.args.text.now c.line_at-extent.result c.line_at-extent.ensures in
    let r = refused_from _ _ _ c.in_err-met_at.ensures in
    never_finished _ _ _ _ (refuses so c.loop-at-test.true (rw bytes at c.read_line-line.ensures) _ (sym (rw (bytes, so.«open») at c.check_line.ensures) ∙ r.0)) f

pub put_property_line-requires-clause-sound_property : goal.put_property_line-requires-clause-sound_property
put_property_line-requires-clause-sound_property c =
    let bytes = lent_line c.loop-at.at c.args.text.now c.line_at-extent.result c.line_at-extent.ensures in
    rw bytes (property_sound c.loop-at.invariant.1 c.loop-at-test.true (rw bytes at c.read_line-line.ensures) _ c.in-Content.is)

pub with_property-counts-requires : goal.with_property-counts-requires
with_property-counts-requires c =
    let bytes = lent_line c.loop-at.at c.args.text.now c.line_at-extent.result c.line_at-extent.ensures in
    omega (arith, property_few c.loop-at.invariant.1 c.loop-at-test.true (rw bytes at c.read_line-line.ensures) c.in-Content.p c.in-Content.is)

pub loop-at-preserved-in-Content : goal.loop-at-preserved-in-Content
loop-at-preserved-in-Content c =
    let so = c.loop-at.invariant.1 in
    let text = c.args.text.now in
    let at = c.loop-at.at in
    let bytes = lent_line at text c.line_at-extent.result c.line_at-extent.ensures in
    let is_fine = sym (rw (bytes, so.«open») at c.check_line.ensures) ∙ fine_from _ _ _ c.in_ok-met_at.ensures in (
      after at (content_at text at) (Content c.in-Content.p) c.loop-at.invariant.0,
      moved_to (ap (λ (x : Extent). x.next) c.line_at-extent.ensures)
          (adds_property so c.loop-at-test.true (rw bytes at c.read_line-line.ensures) c.in-Content.p c.in-Content.is is_fine
          _ (rw so.«open» at c.parent-owner.ensures) _ _ _ c.put_property_line.ensures.properties_after (rw bytes at c.put_property_line.ensures.parameters_after)
          c.with_property-counts.ensures),
    )

pub entry_of-entry-requires : goal.entry_of-entry-requires
entry_of-entry-requires c =
    let so = c.loop-at.invariant.1 in
    let bytes = lent_line c.loop-at.at c.args.text.now c.line_at-extent.result c.line_at-extent.ensures in
    (omega (arith, so.few, so.inside), omega (arith, begin_inside so c.loop-at-test.true (rw bytes at c.read_line-line.ensures) c.in-Begin.name c.in-Begin.is))

pub loop-at-preserved-in-Begin : goal.loop-at-preserved-in-Begin
loop-at-preserved-in-Begin c =
    let so = c.loop-at.invariant.1 in
    let text = c.args.text.now in
    let at = c.loop-at.at in
    let n = c.loop-at.counts.components in
    let bytes = lent_line at text c.line_at-extent.result c.line_at-extent.ensures in
    let is_fine = sym (rw (bytes, so.«open») at c.check_line.ensures) ∙ fine_from _ _ _ c.in_ok-met_at.ensures in
    let row = ap (λ (r : ComponentRow). put_row component_size n (component_words r) c.loop-at.components) (rw c.depth.ensures at c.component_row-row.ensures) in (
      after at (content_at text at) (Begin c.in-Begin.name) c.loop-at.invariant.0,
      moved_to (ap (λ (x : Extent). x.next) c.line_at-extent.ensures)
          (rw c.push.ensures (adds_component so c.loop-at-test.true (rw bytes at c.read_line-line.ensures) c.in-Begin.name c.in-Begin.is is_fine
          _ (rw so.«open» at c.parent.ensures) _ c.entry_of-entry.ensures _ _ (c.put.ensures ∙ row) c.with_component-counts.ensures)),
    )

pub loop-at-preserved-in-End : goal.loop-at-preserved-in-End
loop-at-preserved-in-End c =
    let so = c.loop-at.invariant.1 in
    let text = c.args.text.now in
    let at = c.loop-at.at in
    let bytes = lent_line at text c.line_at-extent.result c.line_at-extent.ensures in
    let is_fine = sym (rw (bytes, so.«open») at c.check_line.ensures) ∙ fine_from _ _ _ c.in_ok-met_at.ensures in (
      after at (content_at text at) (End c.in-End.field-0) c.loop-at.invariant.0,
      moved_to (ap (λ (x : Extent). x.next) c.line_at-extent.ensures)
          (rw c.pop.ensures (closes_one so c.loop-at-test.true (rw bytes at c.read_line-line.ensures) c.in-End.field-0 c.in-End.is is_fine)),
    )

pub loop-at-preserved : goal.loop-at-preserved
loop-at-preserved c =
    let so = c.loop-at.invariant.1 in
    let bytes = lent_line c.loop-at.at c.args.text.now c.line_at-extent.result c.line_at-extent.ensures in
    let is_fine = sym (rw (bytes, so.«open») at c.check_line.ensures) ∙ fine_from _ _ _ c.in_ok-met_at.ensures in (
      c.loop-at.invariant.0,
      moved_to (ap (λ (x : Extent). x.next) c.line_at-extent.ensures)
          (passes so c.loop-at-test.true (rw bytes at c.read_line-line.ensures) _ refl (adds_nothing _ _ _ _ c.in-Empty.is) is_fine),
    )

pub returns-clause-value : goal.returns-clause-value
returns-clause-value c =
    let so = c.loop-at.invariant.1 in
    c.ended.ensures ∙ rw c.depth-2.ensures (ended_outcome so (finish so c.loop-at-test.false))

pub returns-clause-tabled : goal.returns-clause-tabled
returns-clause-tabled c = let so = c.loop-at.invariant.1 in ends_tabled so (finish so c.loop-at-test.false)
