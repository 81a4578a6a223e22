-- `Properties::next`: rows of others are passed over.
use native.Mathlib.Omega.{arith}
use Rattle.tables.specs.Lent.{held}
use Rattle.matching.proofs.Left.{none_left, one_left, none_before, still_before}
use Rattle.matching.proofs.properties.Properties.next.Goals as goal

pub returns-then-self-property-clause-next : goal.returns-then-self-property-clause-next
returns-then-self-property-clause-next c =
    let o = c.args.self.now in
    none_left (held o.tables.now) o.row o.last o.at c.next_own-property.ensures c.if-self-property.true

pub invariant_of-self : goal.invariant_of-self
invariant_of-self c =
    let o = c.args.self.now in
    record {
      inside = o.inside;
      none_before = still_before (held o.tables.now) o.row o.last o.at c.next_own-property.ensures o.inside c.if-self-property.false o.none_before;
    }

pub returns-clause-next : goal.returns-clause-next
returns-clause-next c =
    let o = c.args.self.now in (
      record {
        there = omega (arith, o.inside, c.if-self-property.false);
        behind = omega arith;
        none_before = none_before (held o.tables.now) o.row o.last o.at c.next_own-property.ensures o.inside c.if-self-property.false o.none_before;
      },
      one_left (held o.tables.now) o.row o.last o.at c.next_own-property.ensures o.inside c.if-self-property.false,
    )
