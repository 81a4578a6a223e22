-- `neighbours::compare`: first properties that differ tell at once, and else the comparison of the trees does.
use mathlib.Core.Path.{sym}
use Rattle.tables.specs.Lent.{held}
use Rattle.walking.proofs.Along.{params}
use Rattle.comparing.specs.Pieces.{same_value}
use Rattle.twins.specs.Answers.{levels}
use Rattle.twins.proofs.Pairs.{properties_differ}
use Rattle.neighbours.proofs.compare.Goals as goal

pub returns-then-not-same_front-clause-twins : goal.returns-then-not-same_front-clause-twins
returns-then-not-same_front-clause-twins c =
    let b = held c.args.walk.now.tables in
    sym (properties_differ same_value b levels c.args.before.row c.args.next.row (c.same_front.ensures c.if-not-same_front.true (params b)))
