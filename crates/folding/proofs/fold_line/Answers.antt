-- A line that nothing refuses is folded if there is room.
use Rattle.std.proofs.Common.{rules}
use Rattle.octets.specs.Answers.{not_ascii}
use Rattle.octets.specs.Bytes.{ascii}
use Rattle.octets.specs.Runs.{run}
use Rattle.folding.specs.Repository.{repository}
use Rattle.folding.specs.Answers.{repository_line}
use Rattle.folding.proofs.Repository.{repository_length}
use Rattle.folding.proofs.Answers.{short_enough, folded_if_room}
use Rattle.folding.proofs.fold_line.Goals as goal

pub returns : goal.returns
returns c =
    let line = c.args.line.now in
    folded_if_room repository_line repository line c.args.out.now c.in_default.ensures (short_enough not_ascii (run ascii line) line) (repository_length line)
    (c.lay_if_room.ensures (repository line) (λ lent back n e. search rules))
