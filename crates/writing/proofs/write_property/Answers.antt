-- `writing::write_property`: the rest of the output is lent.
use Rattle.writing.proofs.Laws.{lent_rest}
use Rattle.writing.proofs.write_property.Goals as goal

pub returns-clause-lays : goal.returns-clause-lays
returns-clause-lays c = lent_rest c.min-from.ensures c.print_property-own.ensures.lays c.saturating_add.ensures
