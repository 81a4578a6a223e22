-- `printing::Pen::byte`: the byte is laid as it is, or as a piece of one byte.
use mathlib.Core.Path.{refl}
use Rattle.printing.proofs.Pens.{whole}
use Rattle.printing.proofs.Pen.byte.Goals as goal

pub returns-then-self-gt0 : goal.returns-then-self-gt0
returns-then-self-gt0 g c = whole c.if-self-gt0.true refl c.lay_byte.ensures
