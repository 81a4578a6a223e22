-- `parameters::quoted_len` meets its contract: each answer 0 rules one byte of a quoted part out.
-- Assumes nothing.
use Rattle.std.proofs.Common.{sym, ◌∙◌, arith}
use Rattle.parameters.proofs.Values.{quoted_none, quoted_closed, quoted_room}
use Rattle.parameters.proofs.quoted_len.Goals as goal

pub returns-then-byte_at-ne34 : goal.returns-then-byte_at-ne34
returns-then-byte_at-ne34 c = sym (quoted_none _ (λ q. omega (arith, q.opens)))

pub returns-then-end-eq1 : goal.returns-then-end-eq1
returns-then-end-eq1 c = sym (quoted_none _ (λ q. omega (arith, q.inside)))

pub returns-then-end-a : goal.returns-then-end-a
returns-then-end-a c = sym (quoted_none _ (λ q. omega (arith, quoted_room q)))

pub returns : goal.returns
returns c = quoted_closed _ _ (sym c.byte_at.ensures ∙ c.if-byte_at-ne34.false) c.find_near-end.ensures c.if-end-eq1.false c.if-end-a.false
