-- Eight of which none wants a backslash are laid as they are.
use Rattle.std.proofs.Common.{arith, sym, ◌∙◌}
use Rattle.escapes.proofs.Writing.{all_safe}
use Rattle.escapes.proofs.lay_part.Goals as goal

pub returns : goal.returns
returns c = all_safe c.args.part.now c.args.out.now 8 (omega arith) (sym c.any_special.ensures ∙ c.if-any_special.false) c.put_eight.ensures
