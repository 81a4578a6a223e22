-- Values of the same bytes are alike.
use Rattle.std.proofs.Common.{sym, ◌∙◌}
use Rattle.escapes.proofs.Alike.{alike_bytes}
use Rattle.escapes.proofs.same_text.Goals as goal

pub returns-then-same_bytes : goal.returns-then-same_bytes
returns-then-same_bytes c = alike_bytes c.args.a.now c.args.b.now (sym c.same_bytes.ensures ∙ c.if-same_bytes.true)
