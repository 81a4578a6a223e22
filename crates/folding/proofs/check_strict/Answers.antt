-- A line of bytes that are foldable is refused for nothing, nor is one that is seen to be UTF-8 behind such bytes.
use Rattle.std.proofs.Common.{length, ap, ◌∙◌, sym, arith}
use borrow.Author.Tests.{le-leb, leb-true}
use Rattle.octets.specs.Runs.{run}
use Rattle.octets.specs.Answers.{not_utf8}
use Rattle.octets.proofs.Lists.{lent}
use Rattle.characters.specs.Utf8.{utf8_run}
use Rattle.characters.specs.Quick.{common_text}
use Rattle.characters.proofs.Utf8.{ascii_utf8}
use Rattle.folding.specs.Answers.{foldable, passed}
use Rattle.folding.proofs.Answers.{foldable_is, behind_front, nothing_wrong}
use Rattle.folding.proofs.check_strict.Goals as goal

pub returns-then-line-front : goal.returns-then-line-front
returns-then-line-front c =
    let line = c.args.line.now in
    let f = foldable_is line (le-leb (length line) (run foldable line) (omega arith)) in
    ap passed (nothing_wrong not_utf8 (utf8_run line) line c.if-line-gt-LONGEST.false f.0 (leb-true _ _ (ascii_utf8 line f.1)))

pub returns-then-is_common_text : goal.returns-then-is_common_text
returns-then-is_common_text c =
    let line = c.args.line.now in
    let n = c.foldable_front-front.result in
    let seen = c.is_common_text.ensures ∙ ap common_text (lent line n) in
    let e = behind_front line n c.foldable_front-front.ensures (sym seen ∙ c.if-is_common_text.true) in
    ap passed (nothing_wrong not_utf8 (utf8_run line) line c.if-line-gt-LONGEST.false e.0 (leb-true _ _ e.1))
