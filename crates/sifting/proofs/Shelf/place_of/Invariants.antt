-- Between the two ends lies what the search leads to.
use Rattle.std.proofs.Common.{◌-◌, ◌≤◌, length}
use Rattle.comparing.specs.Runs.{parameter_in}
use Rattle.sifting.specs.Orders.{precedes}
use Rattle.sifting.specs.Shelves.{shelved, looked_for}
use Rattle.sifting.proofs.Shelves.{Sought}
use Rattle.sifting.proofs.Shelf.place_of.Given as goal

abbrev pub invariant-loop-lo : goal.invariant-loop-lo
invariant-loop-lo l =
    let text = l.self.runs.text.now in
    let table = l.self.runs.parameters.now in
    let p = parameter_in text table l.row in
    record {
      in_order : l.lo ≤ l.hi;
      on_shelf : l.hi ≤ length l.self.rows.items;
      sought : Sought (λ j. precedes (shelved text table l.self.rows.items j) p) l.lo l.hi (looked_for text table l.self.rows.items p);
    }

abbrev pub decreases-loop-lo : goal.decreases-loop-lo
decreases-loop-lo l = l.hi - l.lo
