-- The row is put behind those that are there, and taken down to its place.
use Rattle.std.proofs.Common.{◌≡◌, ◌+◌, ◌/◌, length, sym, subst, ◌∙◌, ap, arith}
use Rattle.arrayvec.proofs.ArrayVecLemmas.{items-with_items}
use Rattle.tables.specs.Rows.{parameter_size}
use Rattle.sifting.specs.Shelves.{Stand}
use Rattle.sifting.proofs.Shelves.{stand_push}
use Rattle.sifting.proofs.Shelf.shelve.Goals as goal

pub invariant_of-self : goal.invariant_of-self
invariant_of-self c =
    let s = c.args.self.now in
    let rows = length s.runs.parameters.now / parameter_size in
    let behind = stand_push rows s.rows.items (s.runs.a + c.args.k) (omega (arith, s.runs.a_inside)) s.stocked in
    let lent = c.as_mut_slice.ensures.value ∙ c.push.ensures.items in
    let long : length c.last_to.new.rows ≡ length c.push.new.self.items = c.last_to.auto.rows ∙ ap length c.as_mut_slice.ensures.value in
    let moved = c.last_to.ensures rows (subst (Stand rows) (sym lent) behind) in
    record { stocked = subst (Stand rows) (sym (items-with_items c.push.new.self c.last_to.new.rows long)) moved }
