use Rattle.std.proofs.Common.{◌≡◌, ℕ, true, ◌≤◌, arith, drop, length-drop}
use Rattle.octets.specs.Bytes.{capital, key_byte}
use Rattle.octets.specs.Runs.{run}
use Rattle.octets.proofs.Runs.{within, wider_at}
use Rattle.octets.proofs.Numbers.{ends_here, goes_on}
use Rattle.octets.proofs.skip_capitals.Goals as goal

key : (x : ℕ) → capital x ≡ true → key_byte x ≡ true
key x e = rw e

pub overflow_add-result : goal.overflow_add-result
overflow_add-result c =
    let m = c.marks_of_others-marked in
    let here = ends_here capital c.args.line.now c.loop-left.i (omega arith) m.result m.ensures c.if-marked-ne0.true in
    omega (arith, here, within capital (drop c.loop-left.i c.args.line.now), length-drop c.loop-left.i c.args.line.now, c.first_mark.ensures)

pub returns-then-marked-ne0 : goal.returns-then-marked-ne0
returns-then-marked-ne0 c =
    let line = c.args.line.now in
    let i = c.loop-left.i in
    let m = c.marks_of_others-marked in
    let here = ends_here capital line i (omega arith) m.result m.ensures c.if-marked-ne0.true in
    let n : c.first_mark.result ≤ run capital (drop i line) = omega (arith, here, c.first_mark.ensures) in
    (omega (arith, n, within capital (drop i line), length-drop i line), omega (arith, wider_at capital key_byte key line i c.first_mark.result n))

pub loop-left-preserved : goal.loop-left-preserved
loop-left-preserved c =
    let line = c.args.line.now in
    let i = c.loop-left.i in
    let m = c.marks_of_others-marked in
    let on = goes_on capital line i (omega arith) m.result m.ensures c.if-marked-ne0.false in
    (omega arith, omega (arith, wider_at capital key_byte key line i 8 (omega (arith, on))))
