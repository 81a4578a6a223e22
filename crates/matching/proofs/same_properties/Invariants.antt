-- `matching::same_properties`: wherever the loop stands, what is left of both compares as the whole of them.
use mathlib.Core.Path.{◌≡◌}
use lib.ListN.{length}
use Rattle.tables.specs.Lent.{properties_in, parameters_in}
use Rattle.tables.specs.Trees.{properties_of}
use Rattle.comparing.specs.Pieces.{same_parameters}
use Rattle.matching.specs.Alike.{alike, same_property_by}
use Rattle.matching.specs.Held.{left}
use Rattle.matching.proofs.same_properties.Given as goal

abbrev pub invariant-loop-p : goal.invariant-loop-p
invariant-loop-p g l =
    let test = alike (same_property_by g.V.Values.test same_parameters) in
    let t = l.fn.tables in
    (l.one.tables.now ≡ l.tables) × (l.other.tables.now ≡ l.tables)
    × (test (left l.one) (left l.other)
    ≡ test (properties_of t.text.now (properties_in t.properties.now) (parameters_in t.parameters.now) l.fn.a.row)
    (properties_of t.text.now (properties_in t.properties.now) (parameters_in t.parameters.now) l.fn.b.row))

abbrev pub decreases-loop-p : goal.decreases-loop-p
decreases-loop-p g l = length (left l.one)
