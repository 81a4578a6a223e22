-- `walking::own_rows`: the rows counted and those to come are all of them.
use Rattle.std.proofs.Common.{◌≡◌, ◌+◌, ◌≤◌}
use Rattle.tables.specs.Rows.{property_size, property_at}
use Rattle.walking.specs.Walk.{owned_by, tally}
use Rattle.walking.proofs.Search.{between}
use Rattle.walking.proofs.own_rows.Given as goal

abbrev pub invariant-loop-i : goal.invariant-loop-i
invariant-loop-i l =
    (l.own ≤ l.i)
    × (l.own + tally (owned_by l.row) (between property_size property_at (owned_by l.row) l.properties l.i l.last)
    ≡ tally (owned_by l.row) (between property_size property_at (owned_by l.row) l.properties l.first l.last))
