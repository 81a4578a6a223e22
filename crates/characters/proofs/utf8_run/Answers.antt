-- A character at the front is passed, and where none is the run ends.
use Rattle.std.proofs.Common.{rules, arith}
use Rattle.std.proofs.lemmas.Grind.{common_steps}
use Rattle.characters.proofs.Utf8.{run_end, run_more}
use Rattle.characters.proofs.utf8_run.Goals as goal

pub slice_bounds-rest-count : goal.slice_bounds-rest-count
slice_bounds-rest-count c = (run_more c.loop-n.rest.now c.in-Some.n c.in-Some.ensures).1

pub slice_bounds-rest-start : goal.slice_bounds-rest-start
slice_bounds-rest-start c = let m = run_more c.loop-n.rest.now c.in-Some.n c.in-Some.ensures in search rules

pub loop-n-smaller : goal.loop-n-smaller
loop-n-smaller c = let m = run_more c.loop-n.rest.now c.in-Some.n c.in-Some.ensures in grind (arith, common_steps)

pub loop-n-preserved : goal.loop-n-preserved
loop-n-preserved c = let m = run_more c.loop-n.rest.now c.in-Some.n c.in-Some.ensures in grind (arith, common_steps)

pub returns : goal.returns
returns c = let e = run_end c.loop-n.rest.now (search rules) in omega arith
