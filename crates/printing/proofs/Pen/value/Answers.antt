-- `printing::Pen::value`: the value as it is, or between quotes, behind `=`.
use native.Mathlib.Omega.{arith}
use mathlib.Core.Path.{sym, ap, ◌∙◌, refl}
use mathlib.Core.List.{List, ◌∷◌, []}
use Prim.Native.Nat.{ℕ}
use Rattle.octets.specs.Bytes.{equals, quote}
use Rattle.quoting.proofs.Laws.{stays, in_quotes}
use Rattle.printing.proofs.Pens.{marks_front, behind_mark, before_mark, two_marks, piece_as}
use Rattle.printing.proofs.Pen.value.Goals as goal

pub returns-then-not-wraps : goal.returns-then-not-wraps
returns-then-not-wraps g c =
    let e = stays c.args.value.now (sym c.wraps.ensures ∙ c.if-not-wraps.true) in
    piece_as (ap (λ (k : List ℕ). equals ∷ k) e) c.after.ensures

pub returns : goal.returns
returns g c =
    let e = in_quotes c.args.value.now (sym c.wraps.ensures ∙ c.if-not-wraps.false) in
    let front = behind_mark c.piece-opened.ensures c.piece-end.ensures (omega (arith, g.met.S.Sink.no_longer c.args.out.now)) two_marks in
    piece_as (ap (λ (k : List ℕ). equals ∷ k) (sym e)) (before_mark front c.byte.ensures (omega (arith, g.met.S.Sink.no_longer c.args.out.now)) (marks_front quote [] refl))
