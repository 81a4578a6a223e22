-- The next row lands on a place, or on none; no tally is above the number of rows.
use Rattle.std.proofs.Common.{sym, ◌∙◌, arith}
use Rattle.sifting.proofs.Rounds.{counts_on, counts_past, counts_few}
use Rattle.sifting.proofs.Shelf.count_up.Goals as goal
use Rattle.sifting.proofs.Shelf.count_up.Goals.{in-Some, in_default}

pub overflow_add-tally : goal.overflow_add-tally
overflow_add-tally c =
    omega (arith, counts_few c.args.self.now c.loop-i.tally c.loop-i.i (omega arith) c.loop-i.invariant c.in-Some.place)

pub loop-i-preserved : goal.loop-i-preserved
loop-i-preserved c =
    elim c.match-landing_of.branch [
      | in-Some w ↦
          λ j. rw w.tally-is
          (counts_on c.args.self.now c.loop-i.tally c.loop-i.i (omega arith) c.loop-i.invariant w.in-Some.ensures.value (omega (arith, w.in-Some.ensures.on_shelf)) j)
      | in_default w ↦
          λ j. rw w.tally-is
          (counts_past c.args.self.now c.loop-i.tally c.loop-i.i (omega arith) c.loop-i.invariant (sym w.in_default.is ∙ c.landing_of.ensures.value) j)
    ]
