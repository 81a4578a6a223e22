-- `Properties::hold`: the parameters of earlier properties are passed over.
use Rattle.tables.specs.Lent.{held}
use Rattle.matching.proofs.Left.{all_held, found_before}
use Rattle.matching.proofs.properties.Properties.hold.Goals as goal

pub invariant_of-self : goal.invariant_of-self
invariant_of-self c =
    let o = c.args.self.now in
    let r = c.requires.passed in
    record {
      inside = o.inside;
      none_before = found_before (held o.tables.now) c.args.property r.none_before c.first_held-self.ensures r.behind;
    }

pub returns-clause-held : goal.returns-clause-held
returns-clause-held c =
    let o = c.args.self.now in
    all_held (held o.tables.now) c.args.property c.requires.passed.none_before c.first_held-self.ensures c.requires.rising
