-- `checking::nested`: the parent is in the place below the component's own, or the row does not fit.
use Rattle.std.proofs.Common.{arith, length}
use Rattle.checking.proofs.Chains.{astray, decides}
use Rattle.checking.proofs.nested.Goals as goal

pub returns-then-own-lt2 : goal.returns-then-own-lt2
returns-then-own-lt2 c = astray c.args.rows.now (length c.args.rows.now) c.args.c c.if-c-eq-NO_PARENT.false (λ j l own few e. omega arith)

pub returns-then-rows-own : goal.returns-then-rows-own
returns-then-rows-own c = astray c.args.rows.now (length c.args.rows.now) c.args.c c.if-c-eq-NO_PARENT.false (λ j l own few e. omega arith)

pub returns-then-own-gt-DEEPEST : goal.returns-then-own-gt-DEEPEST
returns-then-own-gt-DEEPEST c = astray c.args.rows.now (length c.args.rows.now) c.args.c c.if-c-eq-NO_PARENT.false (λ j l own few e. omega arith)

pub returns : goal.returns
returns c = decides c.args.rows.now (length c.args.rows.now) c.args.c c.if-c-eq-NO_PARENT.false c.requires (omega arith) (omega arith) (omega arith)
