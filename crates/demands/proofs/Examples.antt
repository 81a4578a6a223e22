-- The starred examples of document 01 hold, all from one computed claim. Assumes nothing.
use mathlib.Core.Path.{◌≡◌, refl}
use mathlib.Core.Bool.{true}
use Rattle.octets.specs.Runs.{run}
use Rattle.octets.specs.Words.{same_bytes, starts_word}
use Rattle.unfolding.specs.Unfold.{unfolded_after}
use Rattle.parameters.specs.Values.{quoted_len, further_after, form_of}
use Rattle.parameters.specs.Parameter.{param_of, front_of}
use Rattle.folding.specs.Pieces.{behind_breaks}
use Rattle.characters.specs.Units.{units_from}
use Rattle.folding.specs.Strict.{folded_units, packed}
use Rattle.folding.specs.Repository.{cuts}
use Rattle.demands.specs.Examples.{holds, all_hold, starred}

pub all_starred : all_hold starred ≡ true
unfolding holds all_hold run same_bytes starts_word unfolded_after quoted_len further_after form_of param_of front_of behind_breaks units_from folded_units packed cuts
all_starred = refl
