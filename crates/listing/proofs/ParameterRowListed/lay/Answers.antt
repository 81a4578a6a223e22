-- The line of a parameter: its property, its key, and behind `=` its value where it has one.
-- Assumes nothing.
use Rattle.std.proofs.Common.{ℕ, List, ◌++◌, refl, ap, arith}
use Rattle.octets.specs.Bytes.{space, lf, equals}
use Rattle.octets.specs.Views.{viewed}
use Rattle.octets.proofs.Writing.{start, more, end, from_as}
use Rattle.listing.specs.Texts.{field, decimal}
use Rattle.listing.specs.Lines.{listed_parameter}
use Rattle.listing.proofs.Laws.{absent, present}
use Rattle.listing.proofs.ParameterRowListed.lay.Goals as goal

pub returns-then-self-eq0 : goal.returns-then-self-eq0
returns-then-self-eq0 c =
    let row = c.args.self in
    let text = c.args.text.now in
    let key = viewed text row.key_start row.key_len in
    let w0 = start c.args.at c.args.out.now (listed_parameter text row) in
    let w1 = more w0 (omega arith) (field (decimal row.property) space) (field key lf) (absent text row c.if-self-eq0.true) c.lay_number-to.ensures in
    end w1 (from_as (ap (λ (k : List ℕ). field k lf) c.view-key.ensures.bytes_value) c.lay_field.ensures)

pub returns : goal.returns
returns c =
    let row = c.args.self in
    let text = c.args.text.now in
    let key = viewed text row.key_start row.key_len in
    let value = viewed text row.value_start row.value_len in
    let w0 = start c.args.at c.args.out.now (listed_parameter text row) in
    let w1 = more w0 (omega arith) (field (decimal row.property) space) (field key equals ++ field value lf) (present text row c.if-self-eq0.false) c.lay_number-to.ensures in
    let w2 = more w1 (omega arith) (field key equals) (field value lf) refl (from_as (ap (λ (k : List ℕ). field k equals) c.view-key.ensures.bytes_value) c.lay_field-to.ensures) in
    end w2 (from_as (ap (λ (k : List ℕ). field k lf) c.view-value.ensures.bytes_value) c.lay_field-2.ensures)
