use Rattle.std.proofs.Common.{sym, ◌∙◌}
use Rattle.octets.proofs.Keys.{not_reserved}
use Rattle.octets.proofs.is_reserved.Goals as goal

pub returns-else-may_be_reserved : goal.returns-else-may_be_reserved
returns-else-may_be_reserved c = c.if-may_be_reserved.false ∙ sym (not_reserved _ (sym c.may_be_reserved.ensures ∙ c.if-may_be_reserved.false))
