-- `Side::properties`: all that the component has stand in its window.
use Rattle.tables.specs.Lent.{held}
use Rattle.matching.proofs.Left.{window_inside, all_left}
use Rattle.matching.proofs.Side.properties.Goals as goal

pub invariant_of-result : goal.invariant_of-result
invariant_of-result c =
    record {
      inside = window_inside (held c.args.tables.now) c.args.self.row c.args.self.window c.requires;
      none_before = c.requires.holds.parameter;
    }

pub returns-clause-all : goal.returns-clause-all
returns-clause-all c = all_left (held c.args.tables.now) c.args.self.row c.args.self.window c.requires
