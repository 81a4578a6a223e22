-- No tail stands there, or the tails before it are passed until a byte says whether it asks for them.
use Rattle.std.proofs.Common.{arith, rules}
use Rattle.characters.proofs.Cuts.{no_tail_there, back_start, back_end, back_more, asked, not_asked}
use Rattle.characters.proofs.start_within.Goals as goal

pub returns-then-not-is_tail : goal.returns-then-not-is_tail
returns-then-not-is_tail c = no_tail_there c.args.rest.now c.args.room c.requires (search rules)

pub loop-back-init : goal.loop-back-init
loop-back-init c = back_start c.args.rest.now c.args.room c.requires (search rules)

pub returns-then-back-tails_wanted : goal.returns-then-back-tails_wanted
returns-then-back-tails_wanted c = asked c.loop-back.invariant c.requires (omega arith) (search rules) (search rules)

pub returns-else-back-tails_wanted : goal.returns-else-back-tails_wanted
returns-else-back-tails_wanted c = not_asked c.loop-back.invariant c.requires (omega arith) (search rules) (search rules)

pub loop-back-preserved : goal.loop-back-preserved
loop-back-preserved c = back_more c.loop-back.invariant c.requires (omega arith) (search rules)

pub returns-else-not-is_tail : goal.returns-else-not-is_tail
returns-else-not-is_tail c = back_end c.loop-back.invariant c.requires (omega arith)

pub returns-else-not-is_tail-2 : goal.returns-else-not-is_tail-2
returns-else-not-is_tail-2 c = back_end (back_more c.loop-back.invariant c.requires (omega arith) (search rules)) c.requires (omega arith)
