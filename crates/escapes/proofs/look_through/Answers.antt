-- From the first backslash on.
use Rattle.std.proofs.Common.{rules, arith}
use Rattle.octets.specs.Bytes.{other}
use Rattle.octets.proofs.Lists.{lent}
use Rattle.octets.proofs.Runs.{within}
use Rattle.escapes.specs.Text.{backslash}
use Rattle.escapes.proofs.Places.{looked_first, looked_few, looked_more, looked_all}
use Rattle.escapes.proofs.look_through.Goals as goal

pub slice_bounds-rest-count : goal.slice_bounds-rest-count
slice_bounds-rest-count c = omega (arith, within (other backslash) c.args.value.now)

pub slice_bounds-rest-start : goal.slice_bounds-rest-start
slice_bounds-rest-start c = let w = within (other backslash) c.args.value.now in search rules

pub loop-more-init : goal.loop-more-init
loop-more-init c =
    let value = c.args.value.now in
    let n = c.find_near-count.result in
    rw (lent value n) (looked_first c.args.mode value n (omega arith))

pub overflow_add-count : goal.overflow_add-count
overflow_add-count c = omega (arith, looked_few (looked_more c.loop-more.invariant c.in-Some.ensures))

pub returns-then-is_empty : goal.returns-then-is_empty
returns-then-is_empty c = looked_all c.loop-more.invariant (search rules)
