-- `printing::Pen::parameter`: the key, and the value where one is present.
use native.Mathlib.Omega.{arith}
use mathlib.Core.Path.{refl}
use Rattle.octets.specs.Bytes.{equals}
use Rattle.printing.proofs.Pens.{marks_front, before_mark, piece_as, key_alone, with_value}
use Rattle.printing.proofs.Pen.parameter.Goals as goal

pub returns-then-p-eq0 : goal.returns-then-p-eq0
returns-then-p-eq0 g c = piece_as (key_alone c.args.text.now c.args.p c.view-key.ensures.bytes_value c.if-p-eq0.true) c.after-named.ensures

pub returns : goal.returns
returns g c =
    piece_as (with_value c.args.text.now c.args.p c.view-key.ensures.bytes_value c.view-value.ensures.bytes_value c.if-p-eq0.false)
    (before_mark c.after-named.ensures c.value.ensures (omega (arith, g.met.S.Sink.no_longer c.args.out.now)) (marks_front equals _ refl))
