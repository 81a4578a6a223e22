-- `lines::read_line`: by the mark at its front.
-- Assumes nothing.
use Rattle.std.proofs.Common.{sym, ◌∙◌, arith}
use borrow.Author.Tests.{eqb-true, eqb-false}
use Rattle.octets.proofs.Words.{starts_length}
use Rattle.lines.specs.Rule.{begin_mark, end_mark}
use Rattle.lines.proofs.Rule.{is_empty, is_begin, is_end, is_other, is_neither}
use Rattle.lines.proofs.read_line.Goals as goal
use Rattle.lines.proofs.read_line.Goals.{then-may_be_reserved+else-starts_word+else-starts_word-2, else-may_be_reserved}

pub returns-then-is_empty : goal.returns-then-is_empty
returns-then-is_empty c = sym (is_empty _ (eqb-true _ _ (sym c.if-is_empty.ensures)))

pub begin_line-requires : goal.begin_line-requires
begin_line-requires c = starts_length begin_mark _ (sym c.starts_word.ensures ∙ c.if-starts_word.true)

pub returns-then-starts_word : goal.returns-then-starts_word
returns-then-starts_word c =
    c.begin_line.ensures ∙ sym (is_begin _ (eqb-false _ _ (sym c.if-is_empty.ensures)) (sym c.starts_word.ensures ∙ c.if-starts_word.true))

pub overflow_sub-result : goal.overflow_sub-result
overflow_sub-result c = omega (arith, starts_length end_mark c.args.line.now (sym c.starts_word-then-may_be_reserved.ensures ∙ c.if-starts_word-2.true))

pub returns-then-starts_word-2 : goal.returns-then-starts_word-2
returns-then-starts_word-2 c =
    sym (is_end _ (eqb-false _ _ (sym c.if-is_empty.ensures)) (sym c.starts_word.ensures ∙ c.if-starts_word.false)
    (sym c.starts_word-then-may_be_reserved.ensures ∙ c.if-starts_word-2.true))

pub returns-in-Ok : goal.returns-in-Ok
returns-in-Ok c =
    let some = eqb-false _ _ (sym c.if-is_empty.ensures) in
    c.in-Ok.ensures ∙ sym (elim c.if-may_be_reserved.branch [
      | then-may_be_reserved+else-starts_word+else-starts_word-2 w ↦
          is_other _ some (sym w.starts_word.ensures ∙ w.if-starts_word.false) (sym w.starts_word-then-may_be_reserved.ensures ∙ w.if-starts_word-2.false)
      | else-may_be_reserved w ↦ is_neither _ some (sym c.may_be_reserved.ensures ∙ w.if-may_be_reserved.false)
    ])

pub returns-in-Err : goal.returns-in-Err
returns-in-Err c =
    let some = eqb-false _ _ (sym c.if-is_empty.ensures) in
    c.in-Err.ensures ∙ sym (elim c.if-may_be_reserved.branch [
      | then-may_be_reserved+else-starts_word+else-starts_word-2 w ↦
          is_other _ some (sym w.starts_word.ensures ∙ w.if-starts_word.false) (sym w.starts_word-then-may_be_reserved.ensures ∙ w.if-starts_word-2.false)
      | else-may_be_reserved w ↦ is_neither _ some (sym c.may_be_reserved.ensures ∙ w.if-may_be_reserved.false)
    ])
