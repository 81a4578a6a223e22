-- `reading::measure_text`: what the count met, told.
-- Assumes nothing.
use Rattle.std.proofs.Common.{arith}
use Rattle.reading.proofs.Laws.{measured_place}
use Rattle.reading.proofs.measure_text.Goals as goal

pub tell_outcome-requires : goal.tell_outcome-requires
tell_outcome-requires c = rw c.count.ensures (omega (arith, measured_place c.args.text.now, c.requires))
