-- Serves laws only. The parameter values that the writing rule allows (document 01, "Writing and trees"), as far as reading one back needs it.
-- Assumes nothing.
use Rattle.std.specs.Prelude.{ℕ, ◌<◌, ◌≡◌, true, ◌||◌, List, length}
use Rattle.octets.specs.Bytes.{quote, other}
use Rattle.octets.specs.Runs.{only}
use Rattle.parameters.specs.Values.{is_list}

-- the value is not empty, and either has no `"` or is a list of two or more quoted parts. That it has no CR and no LF is not asked for
pub record Writable (value : List ℕ) : Type 0 where
  pub some : 0 < length value
  pub rule : only (other quote) value || is_list value ≡ true
