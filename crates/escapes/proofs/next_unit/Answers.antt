-- A byte that stands for itself, an escape, or none.
use Rattle.std.proofs.Common.{rules, arith}
use Rattle.escapes.proofs.Places.{unit_none, unit_plain, unit_last, unit_bad, unit_escape}
use Rattle.escapes.proofs.next_unit.Goals as goal

pub returns-in_err-first : goal.returns-in_err-first
returns-in_err-first c = let n = unit_none c.args.mode c.args.value.now (search rules) in search rules

pub returns-then-first-ne92 : goal.returns-then-first-ne92
returns-then-first-ne92 c = unit_plain c.args.mode c.in_ok-first.ensures.cases.0 (search rules)

pub returns-in_err-letter : goal.returns-in_err-letter
returns-in_err-letter c = let n = unit_last c.args.mode c.in_ok-first.ensures.cases.0 (omega arith) (search rules) in search rules

pub returns-then-not-escapable : goal.returns-then-not-escapable
returns-then-not-escapable c = unit_bad c.args.mode c.in_ok-first.ensures.cases.0 (omega arith) c.in_ok-letter.ensures.cases.0 (search rules)

pub returns : goal.returns
returns c = unit_escape c.args.mode c.in_ok-first.ensures.cases.0 (omega arith) c.in_ok-letter.ensures.cases.0 (search rules) c.meant.ensures
