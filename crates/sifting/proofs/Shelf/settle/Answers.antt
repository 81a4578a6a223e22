-- The next row lands, or is asked about by itself.
use Rattle.std.proofs.Common.{sym, ◌∙◌, arith, rules}
use Rattle.comparing.proofs.Rows.{settle_on, not_settled}
use Rattle.sifting.proofs.Rounds.{landed_settled}
use Rattle.sifting.proofs.Shelf.settle.Goals as goal
use Rattle.sifting.proofs.Shelf.settle.Goals.{else-is_none-via-then-is_none+else-not-is_settled, else-is_none-via-else-is_none}

pub returns-then-not-is_settled-clause-unlike : goal.returns-then-not-is_settled-clause-unlike
returns-then-not-is_settled-clause-unlike c q =
    let r = c.args.self.now.runs in
    sym (not_settled r.text.now r.parameters.now r.a r.b r.count c.loop-k.k (omega (arith, r.a_inside)) (omega arith) (sym c.is_settled.ensures ∙ c.if-not-is_settled.true))

pub loop-k-preserved : goal.loop-k-preserved
loop-k-preserved c =
    let r = c.args.self.now.runs in
    elim c.else-is_none.branch [
      | else-is_none-via-then-is_none+else-not-is_settled w ↦
          settle_on r.text.now r.parameters.now r.a r.b r.count c.loop-k.k (omega (arith, r.a_inside)) c.loop-k.invariant
          (sym w.is_settled.ensures ∙ w.if-not-is_settled.false)
      | else-is_none-via-else-is_none w ↦
          settle_on r.text.now r.parameters.now r.a r.b r.count c.loop-k.k (omega (arith, r.a_inside)) c.loop-k.invariant
          (landed_settled c.args.self.now c.requires.level c.loop-k.k (omega arith) c.landing_of.ensures.value (search rules))
    ]
