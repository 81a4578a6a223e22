-- The next row is the same, or it is not; with one more than so many, the whole run has more too.
use Rattle.std.proofs.Common.{◌+◌, sym, ◌∙◌, arith}
use borrow.Author.Tests.{lt-ltb}
use Rattle.comparing.specs.Runs.{many_in}
use Rattle.comparing.proofs.Rows.{count_none, count_more, count_up_to}
use Rattle.comparing.proofs.Runs.more_than.Goals as goal
use Rattle.comparing.proofs.Runs.more_than.Goals.{then-same_rows+else-left-eq0, else-same_rows}

pub loop-k-init : goal.loop-k-init
loop-k-init c = let s = c.args.self.now in omega (arith, count_none s.text.now s.parameters.now (s.a + c.args.i) s.b)

pub returns-then-left-eq0 : goal.returns-then-left-eq0
returns-then-left-eq0 c =
    let s = c.args.self.now in
    let row = s.a + c.args.i in
    sym (lt-ltb c.args.many (many_in s.text.now s.parameters.now row s.b s.count)
    (omega (
      arith,
      c.loop-k.invariant,
      count_more s.text.now s.parameters.now row s.b c.loop-k.k (omega arith) (sym c.same_rows.ensures ∙ c.if-same_rows.true),
      count_up_to s.text.now s.parameters.now row s.b (c.loop-k.k + 1) s.count (omega arith),
    )))

pub loop-k-preserved : goal.loop-k-preserved
loop-k-preserved c =
    let s = c.args.self.now in
    elim c.if-same_rows.branch [
      | then-same_rows+else-left-eq0 w ↦ omega (arith, count_more s.text.now s.parameters.now (s.a + c.args.i) s.b c.loop-k.k (omega arith) (sym c.same_rows.ensures ∙ w.if-same_rows.true))
      | else-same_rows w ↦ omega (arith, count_more s.text.now s.parameters.now (s.a + c.args.i) s.b c.loop-k.k (omega arith) (sym c.same_rows.ensures ∙ w.if-same_rows.false))
    ]
