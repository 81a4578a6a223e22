-- `reading::fill_components`: the limit, and then one way or the other.
-- Assumes nothing.
use Rattle.std.proofs.Common.{◌∙◌, arith}
use Rattle.tables.specs.Lent.{lent}
use Rattle.reading.proofs.Pair.{text_too_long, unfilled}
use Rattle.reading.proofs.fill_components.Goals as goal

pub returns-then-text-gt-LONGEST-clause-value : goal.returns-then-text-gt-LONGEST-clause-value
returns-then-text-gt-LONGEST-clause-value c =
    let b = lent c.args.text.now c.args.components.now c.args.properties.now c.args.parameters.now in
    c.refusal.ensures ∙ text_too_long b c.if-text-gt-LONGEST.true

pub returns-then-text-gt-LONGEST-clause-tables_after : goal.returns-then-text-gt-LONGEST-clause-tables_after
returns-then-text-gt-LONGEST-clause-tables_after c =
    let b = lent c.args.text.now c.args.components.now c.args.properties.now c.args.parameters.now in
    unfilled b (c.refusal.ensures ∙ text_too_long b c.if-text-gt-LONGEST.true) (rw c.refusal.ensures (λ z. omega arith))
