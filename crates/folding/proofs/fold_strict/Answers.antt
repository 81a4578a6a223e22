-- A line that nothing refuses is folded if there is room.
use Rattle.std.proofs.Common.{sym, ap, ◌∙◌}
use borrow.Author.Tests.{eqb-false}
use Rattle.octets.specs.Answers.{not_utf8}
use Rattle.characters.specs.Utf8.{utf8_run}
use Rattle.folding.specs.Strict.{first, strict}
use Rattle.folding.specs.declared.Folded.{Folded}
use Rattle.folding.specs.Answers.{strict_line}
use Rattle.folding.proofs.Strict.{fold_length}
use Rattle.folding.proofs.Answers.{short_enough, no_room}
use Rattle.folding.proofs.fold_strict.Goals as goal

pub returns-else-is_done : goal.returns-else-is_done
returns-else-is_done c =
    let line = c.args.line.now in
    no_room strict_line strict line c.args.out.now c.in_default.ensures (short_enough not_utf8 (utf8_run line) line) (fold_length first line)
    (rw c.new-first.ensures at (ap (λ (f : Folded). f.length) c.count_piece.ensures)) c.room_for-told.ensures
    (eqb-false _ _ (sym c.is_done.ensures ∙ c.if-is_done.false))
