use Rattle.std.proofs.Common.{sym, ◌∙◌, take, length}
use borrow.Author.Tests.{lt-leb}
use Rattle.octets.proofs.Words.{same_small, starts_front, starts_behind}
use Rattle.octets.proofs.starts_word.Goals as goal

pub returns-then-word-line : goal.returns-then-word-line
returns-then-word-line c =
    same_small (take (length c.args.word.now) c.args.line.now) c.args.word.now c.eq_ignore_ascii_case.ensures.test
    ∙ starts_front c.args.word.now c.args.line.now c.if-word-line.true

pub returns-else-word-line : goal.returns-else-word-line
returns-else-word-line c =
    lt-leb _ _ c.if-word-line.false ∙ sym (starts_behind c.args.word.now c.args.line.now c.if-word-line.false)
