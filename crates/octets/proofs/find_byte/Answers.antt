use Rattle.std.proofs.Common.{◌≤◌, arith, drop, sym, ◌∙◌}
use borrow.Author.Tests.{ltb-false}
use Rattle.octets.specs.Bytes.{other}
use Rattle.octets.specs.Runs.{run}
use Rattle.octets.proofs.Runs.{ended, passed}
use Rattle.octets.proofs.find_byte.Goals as goal

pub returns-then-a-from : goal.returns-then-a-from
returns-then-a-from c = omega (arith, ended (other c.args.b) c.args.a.now c.args.from (omega arith))

pub loop-i-preserved : goal.loop-i-preserved
loop-i-preserved c =
    let far : 64 ≤ run (other c.args.b) (drop c.loop-i.i c.args.a.now) = ltb-false _ 64 (sym c.any_of_64.ensures ∙ c.if-not-any_of_64.true) in
    (omega arith, omega (arith, passed (other c.args.b) c.args.a.now c.loop-i.i 64 far))
