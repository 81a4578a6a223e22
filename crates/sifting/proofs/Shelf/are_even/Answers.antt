-- The tallies begin empty, and what is left over at the end tells the runs apart.
use Rattle.std.proofs.Common.{refl}
use Rattle.sifting.specs.Shelves.{shelf_size}
use Rattle.sifting.proofs.Rounds.{left_over}
use Rattle.sifting.proofs.Tallies.{none_counted}
use Rattle.sifting.proofs.Shelf.are_even.Goals as goal

pub count_up-requires : goal.count_up-requires
count_up-requires c = none_counted shelf_size

pub returns-then-count_down-clause-unlike : goal.returns-then-count_down-clause-unlike
returns-then-count_down-clause-unlike c q =
    left_over c.args.self.now c.count_down.new.tally (c.if-count_down.ensures.reduced refl) (c.is_empty.ensures.left q)
