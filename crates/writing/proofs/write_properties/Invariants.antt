-- `writing::write_properties`: the lines of the rows passed are laid, and no parameter passed belongs to a later one.
use Rattle.tables.specs.Lent.{held, properties_in, parameters_in}
use Rattle.writing.proofs.Laws.{Listing}
use Rattle.writing.proofs.write_properties.Given as goal

abbrev pub invariant-loop-number : goal.invariant-loop-number
invariant-loop-number l =
    let b = held l.walk.tables in
    Listing b.text (properties_in b.properties) (parameters_in b.parameters) l.row l.fn.window.last l.fn.window.first l.fn.at l.fn.out l.out l.printed.length l.printed.next l.number
