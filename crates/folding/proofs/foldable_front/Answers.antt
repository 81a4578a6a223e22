-- A block more is passed.
use Rattle.std.proofs.Common.{◌≡◌, ℕ, ◌+◌, List, ◌++◌, true, length, take, drop, sym, ap, ◌∙◌, arith, rules}
use lib.ListN.{length-append, length-drop}
use lib.Seq.{take-append_seam, drop-append_seam, drop-drop}
use Rattle.octets.specs.Runs.{only}
use Rattle.octets.proofs.Runs.{Ran, ran_block}
use Rattle.folding.specs.Answers.{foldable}
use Rattle.folding.proofs.foldable_front.Goals as goal

block_passed : (line : List ℕ) (seen : ℕ) (block more : List ℕ) → Ran foldable line seen → block ++ more ≡ drop seen line → only foldable block ≡ true
    → Ran foldable line (seen + length block) × (more ≡ drop (seen + length block) line)
block_passed line seen block more r e h =
    let n = length block in
    let t : take n (drop seen line) ≡ block = rw (← e) (take-append_seam block more) in
    let d : drop n (drop seen line) ≡ more = rw (← e) (drop-append_seam block more) in
    let l : length block + length more ≡ length (drop seen line) = sym (length-append block more) ∙ ap length e in
    (ran_block r n (omega (arith, r.inside, length-drop seen line)) (rw t h), sym d ∙ drop-drop n seen line)

pub loop-block-preserved : goal.loop-block-preserved
loop-block-preserved c =
    let s = rw c.in-Some.is at c.next.ensures.steps in
    let p = block_passed c.args.line.now c.loop-block.seen c.in-Some.block.now _ c.loop-block.invariant.1 (sym s.1.0 ∙ c.loop-block.invariant.2) (search rules) in
    (rw s.0 c.loop-block.invariant.0, p.0, p.1)
