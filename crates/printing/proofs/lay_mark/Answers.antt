-- `printing::lay_mark`: the two pieces, and CRLF.
use native.Mathlib.Omega.{arith}
use Rattle.printing.proofs.Pens.{behind_mark, closed}
use Rattle.printing.proofs.lay_mark.Goals as goal

pub returns : goal.returns
returns g c =
    let kept = g.met.S.Sink.no_longer c.args.out.now in
    closed (behind_mark c.piece-marked.ensures c.piece-end.ensures (omega (arith, kept)) c.requires) c.close.ensures (omega (arith, kept))
