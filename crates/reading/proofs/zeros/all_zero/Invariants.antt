-- `reading::zeros::all_zero`: a hit is a word that ended the run of zeros.
-- Assumes nothing.
use Rattle.std.proofs.Common.{◌≡◌, ltb}
use mir.Val.{bool_byte}
use Rattle.octets.specs.Runs.{run}
use Rattle.reading.specs.NewTables.{is_zero}
use Rattle.reading.proofs.zeros.all_zero.Given as goal

abbrev pub invariant-loop-word : goal.invariant-loop-word
invariant-loop-word l = l.hit ≡ bool_byte (ltb (run is_zero l.table) l.word-index)
