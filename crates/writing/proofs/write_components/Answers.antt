-- `writing::write_components`: tables that meet both rules are written.
use mathlib.Core.Path.{ap, ◌∙◌}
use lib.ListN.{length}
use Rattle.octets.specs.Answers.{out_after}
use Rattle.octets.specs.declared.Output.{Output}
use Rattle.tables.specs.Lent.{held}
use Rattle.tables.specs.declared.Tables.{Tables}
use Rattle.writing.specs.Answers.{written_in}
use Rattle.writing.proofs.Answers.{fits}
use Rattle.writing.proofs.write_components.Goals as goal

pub returns-in-Ok-clause-value : goal.returns-in-Ok-clause-value
returns-in-Ok-clause-value c = fits c.in-Ok.ensures c.in-Ok.checked.meets (length c.args.out.now) c.write_fitting.ensures.value

pub returns-in-Ok-clause-out_after : goal.returns-in-Ok-clause-out_after
returns-in-Ok-clause-out_after c =
    let e = fits c.in-Ok.ensures c.in-Ok.checked.meets (length c.args.out.now) c.write_fitting.ensures.value in
    c.write_fitting.ensures.out_after
    ∙ ap (λ (t : Tables). out_after c.write_fitting.result (written_in (held t)) c.args.out.now) c.in-Ok.ensures.same
    ∙ ap
    (λ (r : Output). out_after r
    (written_in (held (record { text = c.args.text; components = c.args.components; properties = c.args.properties; parameters = c.args.parameters }))) c.args.out.now)
    e
