-- The two modes of reading text by number, for callers from C and Rust (document 02, request 1): 0 is the strict mode, and any other number the second one.
-- Assumes nothing.
use Rattle.std.specs.Prelude.{ℕ, eqb}
use Rattle.octets.specs.Choice.{pick}
use Rattle.escapes.specs.declared.Mode.{Mode}

abbrev pub mode_of : ℕ → Mode
mode_of mode = pick (eqb mode 0) Mode.Strict Mode.Repository
