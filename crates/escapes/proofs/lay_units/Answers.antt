-- At the end no byte is fine any more, so that nothing is left.
use Rattle.escapes.proofs.Places.{storing_all}
use Rattle.escapes.proofs.lay_units.Goals as goal

pub returns : goal.returns
returns c = storing_all c.loop-b.invariant c.requires.1 c.in_default.ensures
