-- `neighbours::spot_behind`: what stands before the cursor belongs to rows before the end of the subtree too.
use native.Mathlib.Omega.{arith}
use mathlib.Core.Path.{refl}
use Prim.Native.Nat.{◌≤◌}
use Rattle.tables.specs.Lent.{components_in, properties_in, parameters_in}
use Rattle.walking.proofs.Siblings.{end_later}
use Rattle.walking.proofs.Walks.{reached_on, comes_to}
use Rattle.neighbours.proofs.spot_behind.Goals as goal

pub returns : goal.returns
returns c =
    let t = c.args.tables.now in
    let components = components_in t.components.now in
    let properties = properties_in t.properties.now in
    let parameters = parameters_in t.parameters.now in
    let e = c.end_of-row in
    let later : c.args.spot.row ≤ e.result = omega (arith, e.ensures, end_later components c.args.spot.row) in
    let come = reached_on properties parameters e.result c.requires.reached later in
    (e.ensures, comes_to properties parameters components come c.first_from-property.ensures c.first_held-parameter.ensures refl)
