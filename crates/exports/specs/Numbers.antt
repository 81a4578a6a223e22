-- The numbers of an answer in the order of document 01, "What each number returns and leaves".
-- Assumes nothing.
use Rattle.std.specs.Prelude.{ℕ, List, [], ◌∷◌}
use Rattle.octets.specs.declared.Output.{Output}
use Rattle.reading.specs.declared.Reading.{Reading}
use Rattle.twins.specs.declared.Compared.{Compared}
use Rattle.neighbours.specs.declared.Neighbours.{Neighbours}

abbrev pub reading_numbers : Reading → List ℕ
reading_numbers r = r.answer ∷ r.place ∷ r.length ∷ r.components ∷ r.properties ∷ r.parameters ∷ []

abbrev pub output_numbers : Output → List ℕ
output_numbers o = o.answer ∷ o.place ∷ o.length ∷ []

abbrev pub twin_numbers : Compared → List ℕ
twin_numbers c = c.answer ∷ c.place ∷ c.twins ∷ []

abbrev pub neighbour_numbers : Neighbours → List ℕ
neighbour_numbers n = n.answer ∷ n.place ∷ n.twins ∷ []
