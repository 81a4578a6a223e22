-- `printing::Line::lay`: the line as it stands in the text, or key, parameters and value in turn.
use native.Mathlib.Omega.{arith}
use mathlib.Core.Path.{refl, sym, ◌∙◌}
use lib.Dec.{eqb}
use borrow.Author.Tests.{eqb-true}
use Rattle.octets.specs.Bytes.{colon}
use Rattle.octets.proofs.Bools.{both}
use Rattle.printing.specs.Pens.{own_of}
use Rattle.printing.proofs.Pens.{marks_front, before_mark, marked, piece_as, parts, bare}
use Rattle.printing.proofs.Line.lay.Goals as goal

pub returns-then-next-self : goal.returns-then-next-self
returns-then-next-self g c =
    let l = c.args.self.now in
    let tests = both (eqb c.args.next l.first) c.stands_whole.result c.if-next-self.true in
    piece_as (bare l (sym (eqb-true c.args.next l.first tests.0) ∙ c.requires) (c.view-line.ensures.bytes_value ∙ c.stands_whole.ensures tests.1)) c.piece.ensures

pub returns : goal.returns
returns g c =
    let l = c.args.self.now in
    let named = piece_as c.key.ensures c.piece-named.ensures in
    let kept = g.met.S.Sink.no_longer c.args.out.now in
    let listed = before_mark named c.parameters-listed.ensures (omega (arith, kept)) (marked (own_of l)) in
    let line = before_mark listed c.after.ensures (omega (arith, kept)) (marks_front colon _ refl) in
    piece_as (rw c.value.ensures (parts l)) line
