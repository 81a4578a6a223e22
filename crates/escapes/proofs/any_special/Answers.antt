-- The four tests together.
use Rattle.escapes.proofs.Writing.{any_unsafe}
use Rattle.escapes.proofs.any_special.Goals as goal

pub returns : goal.returns
returns c = any_unsafe c.args.text.now 8 c.any_of_8.ensures c.any_of_8-2.ensures c.any_of_8-3.ensures c.any_of_8-4.ensures
