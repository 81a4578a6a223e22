-- `listing::lay_listing`: a refusal, or the three sections.
-- Assumes nothing.
use Rattle.std.proofs.Common.{◌++◌, refl, sym, ◌∙◌, arith}
use borrow.Author.Tests.{eqb-true}
use Rattle.octets.proofs.Writing.{start, more, end, from_as}
use Rattle.tables.specs.Lent.{lent}
use Rattle.listing.specs.Lines.{Components, Properties, Parameters, section_text}
use Rattle.listing.proofs.Laws.{sections}
use Rattle.listing.proofs.lay_listing.Goals as goal

pub returns : goal.returns
returns c =
    let a = c.args in
    let r = a.r in
    let one = section_text Components a.text.now a.components.now r.components in
    let two = section_text Properties a.text.now a.properties.now r.properties in
    let three = section_text Parameters a.text.now a.parameters.now r.parameters in
    let w0 = start 0 a.out.now (one ++ (two ++ three)) in
    let w1 = more w0 (omega arith) one (two ++ three) refl c.lay_section-to.ensures in
    let w2 = more w1 (omega arith) two three refl c.lay_section-to-2.ensures in
    from_as (sections r (lent a.text.now a.components.now a.properties.now a.parameters.now) (eqb-true _ _ (sym c.is_done.ensures ∙ c.if-not-is_done.false)))
    (end w2 c.lay_section.ensures)
