-- A line of bytes that are foldable is refused for nothing.
use Rattle.std.proofs.Common.{ap, ◌∙◌, sym}
use borrow.Author.Tests.{leb-true}
use Rattle.octets.specs.Bytes.{ascii}
use Rattle.octets.specs.Runs.{run}
use Rattle.octets.specs.Answers.{not_ascii}
use Rattle.folding.specs.Answers.{passed}
use Rattle.folding.proofs.Answers.{foldable_is, nothing_wrong}
use Rattle.folding.proofs.check_repository.Goals as goal

pub returns-then-all_foldable : goal.returns-then-all_foldable
returns-then-all_foldable c =
    let line = c.args.line.now in
    let f = foldable_is line (sym c.all_foldable.ensures ∙ c.if-all_foldable.true) in
    ap passed (nothing_wrong not_ascii (run ascii line) line c.if-line-gt-LONGEST.false f.0 (leb-true _ _ f.1))
