-- The next row lands on a place, or on none; where nothing is left to take it off, more rows of the second run land there.
use Rattle.std.proofs.Common.{sym, ◌∙◌, arith}
use Rattle.sifting.proofs.Rounds.{takes_on, takes_past, too_many}
use Rattle.sifting.proofs.Shelf.count_down.Goals as goal
use Rattle.sifting.proofs.Shelf.count_down.Goals.{in-Some+else-tally-place-eq0, in_default}

pub returns-then-tally-place-eq0-clause-unlike : goal.returns-then-tally-place-eq0-clause-unlike
returns-then-tally-place-eq0-clause-unlike c q =
    too_many c.args.self.now c.loop-i.tally c.loop-i.i (omega arith) c.loop-i.invariant c.in-Some.ensures.value c.if-tally-place-eq0.true

pub loop-i-preserved : goal.loop-i-preserved
loop-i-preserved c =
    elim c.match-landing_of.branch [
      | in-Some+else-tally-place-eq0 w ↦
          λ j. rw w.tally-is
          (takes_on c.args.self.now c.loop-i.tally c.loop-i.i (omega arith) c.loop-i.invariant w.in-Some.ensures.value (omega (arith, w.in-Some.ensures.on_shelf))
          w.if-tally-place-eq0.false j)
      | in_default w ↦
          λ j. rw w.tally-is
          (takes_past c.args.self.now c.loop-i.tally c.loop-i.i (omega arith) c.loop-i.invariant (sym w.in_default.is ∙ c.landing_of.ensures.value) j)
    ]
