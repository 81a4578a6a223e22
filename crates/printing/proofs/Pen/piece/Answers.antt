-- `printing::Pen::piece`: a piece that the physical line takes whole is laid as it is.
use mathlib.Core.Path.{refl}
use Rattle.printing.proofs.Pens.{whole}
use Rattle.printing.proofs.Pen.piece.Goals as goal

pub returns-then-piece-self : goal.returns-then-piece-self
returns-then-piece-self g c = whole c.if-piece-self.true refl c.lay.ensures
