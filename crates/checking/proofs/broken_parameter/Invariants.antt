-- `checking::broken_parameter`: the rows that were passed fit, and the last of them names the property `before`.
use Rattle.tables.specs.Rows.{parameter_size, parameter_at}
use Rattle.tables.specs.TableRule.{parameter_fits}
use Rattle.checking.proofs.Passing.{Passed}
use Rattle.checking.proofs.broken_parameter.Given as goal

abbrev pub invariant-loop-row : goal.invariant-loop-row
invariant-loop-row l =
    Passed (parameter_fits l.size l.properties) (λ row seen p. p.property) parameter_size parameter_at l.table l.first 0 l.row l.before
