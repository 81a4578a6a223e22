-- `writable::View::is_seen`: the bytes from the start on are of the class.
use native.Mathlib.Omega.{arith}
use mathlib.Core.Path.{◌≡◌, sym, ◌∙◌}
use mathlib.Core.Bool.{true}
use Prim.Native.Nat.{◌+◌}
use lib.ListN.{length}
use lib.Dec.{leb}
use borrow.Author.Tests.{leb-true}
use Rattle.octets.proofs.Runs.{view_only}
use Rattle.writable.proofs.View.is_seen.Goals as goal

pub returns : goal.returns
returns g c =
    λ e.
    let v = c.args.self.now in
    let t : leb (v.start + v.len + 8) (length v.text.now) ≡ true = cc in
    view_only g.C.Class.has g.C.Class.has (λ x p. p) v.text.now v.start v.len (omega (arith, leb-true _ _ t)) (sym c.all_of.ensures ∙ e)
