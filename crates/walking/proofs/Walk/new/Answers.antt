-- `walking::Walk::new`: tables that meet the table rule nest, and their parameters stand by rising property.
use Rattle.tables.specs.Lent.{held}
use Rattle.walking.proofs.Rows.{ruled}
use Rattle.walking.proofs.Walk.new.Goals as goal

pub invariant_of-result-clause-nested : goal.invariant_of-result-clause-nested
invariant_of-result-clause-nested c = (ruled (held c.args.checked.now.tables) c.args.checked.now.meets).components

pub invariant_of-result-clause-rising : goal.invariant_of-result-clause-rising
invariant_of-result-clause-rising c = (ruled (held c.args.checked.now.tables) c.args.checked.now.meets).parameters.rise
