-- The line of a property: its owner, its key and its value.
-- Assumes nothing.
use Rattle.std.proofs.Common.{ℕ, List, ◌++◌, refl, ap, arith}
use Rattle.octets.specs.Bytes.{space, lf}
use Rattle.octets.specs.Views.{viewed}
use Rattle.octets.proofs.Writing.{start, more, end, from_as}
use Rattle.listing.specs.Texts.{field, decimal}
use Rattle.listing.specs.Lines.{listed_property}
use Rattle.listing.proofs.PropertyRowListed.lay.Goals as goal

pub returns : goal.returns
returns c =
    let row = c.args.self in
    let text = c.args.text.now in
    let key = viewed text row.key_start row.key_len in
    let value = viewed text row.value_start row.value_len in
    let w0 = start c.args.at c.args.out.now (listed_property text row) in
    let w1 = more w0 (omega arith) (field (decimal row.owner) space) (field key space ++ field value lf) refl c.lay_number-to.ensures in
    let w2 = more w1 (omega arith) (field key space) (field value lf) refl (from_as (ap (λ (k : List ℕ). field k space) c.view-key.ensures.bytes_value) c.lay_field-to.ensures) in
    end w2 (from_as (ap (λ (k : List ℕ). field k lf) c.view-value.ensures.bytes_value) c.lay_field.ensures)
