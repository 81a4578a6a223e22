-- `lines::line_at`: by the LF that ends it, and the CR before that.
-- Assumes nothing.
use Rattle.std.proofs.Common.{◌<◌, length, drop, length-drop, sym, ◌∙◌, arith}
use Rattle.lines.specs.Split.{to_break}
use Rattle.lines.proofs.Split.{empty_line, cr_break, lf_break, before_break}
use Rattle.lines.proofs.line_at.Goals as goal
use Rattle.lines.proofs.line_at.Goals.{then-at-end+then-text-end-eq13, else-at-end, else-at-end-via-then-at-end+else-text-end-eq13, else-at-end-via-else-at-end}

pub returns : goal.returns
returns c =
    let text = c.args.text.now in
    let at = c.args.at in
    let xs = drop at text in
    let end = c.find_near-end in
    let short : to_break xs < length xs = rw length-drop (omega arith) in
    elim c.if-at-end.branch [
      | then-at-end+then-text-end-eq13 w ↦ rw w.len-is (cr_break at xs _ end.ensures short
          (before_break text at (to_break xs) _ end.ensures (omega (arith, w.if-at-end.true)) ∙ w.if-text-end-eq13.true))
      | else-at-end w ↦ rw w.len-is (elim w.else-at-end.branch [
        | else-at-end-via-then-at-end+else-text-end-eq13 w' ↦ lf_break at xs _ end.ensures short
            (λ q. w'.if-text-end-eq13.false (sym (before_break text at (to_break xs) _ end.ensures (omega (arith, w'.if-at-end.true))) ∙ q))
        | else-at-end-via-else-at-end w' ↦ empty_line at xs _ end.ensures short (omega (arith, w'.if-at-end.false))
      ])
    ]
