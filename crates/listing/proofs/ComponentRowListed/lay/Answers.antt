-- The line of a component: its parent, its depth and its name.
-- Assumes nothing.
use Rattle.std.proofs.Common.{ℕ, List, ◌++◌, refl, ap, arith}
use Rattle.octets.specs.Bytes.{space, lf}
use Rattle.octets.specs.Views.{viewed}
use Rattle.octets.proofs.Writing.{start, more, end, from_as}
use Rattle.listing.specs.Texts.{field, decimal, parent_field}
use Rattle.listing.specs.Lines.{listed_component}
use Rattle.listing.proofs.ComponentRowListed.lay.Goals as goal

pub returns : goal.returns
returns c =
    let row = c.args.self in
    let text = c.args.text.now in
    let name = viewed text row.name_start row.name_len in
    let w0 = start c.args.at c.args.out.now (listed_component text row) in
    let w1 = more w0 (omega arith) (parent_field row.parent) (field (decimal row.depth) space ++ field name lf) refl c.lay_parent-to.ensures in
    let w2 = more w1 (omega arith) (field (decimal row.depth) space) (field name lf) refl c.lay_number-to.ensures in
    end w2 (from_as (ap (λ (k : List ℕ). field k lf) c.view-name.ensures.bytes_value) c.lay_field.ensures)
