-- The numbers of an answer, and of a mode, by example, held against documents 01 and 02. Assumes nothing.
use mathlib.Core.Path.{◌≡◌, refl}
use mathlib.Core.List.{[], ◌∷◌, map}
use Rattle.escapes.specs.declared.Mode.{Mode}
use Rattle.exports.specs.Numbers.{reading_numbers, output_numbers, twin_numbers, neighbour_numbers}
use Rattle.exports.specs.Modes.{mode_of}

-- "answer, place, text length, then counts of components, properties, parameters"
reading : reading_numbers (record { answer = 10; place = 1; length = 2; components = 3; properties = 4; parameters = 5 }) ≡ 10 ∷ 1 ∷ 2 ∷ 3 ∷ 4 ∷ 5 ∷ []
reading = refl

-- "Fold, quoting and writer return answer, place and the output length"; reading and writing of text are "answered as the fold is"
output : output_numbers (record { answer = 10; place = 1; length = 2 }) ≡ 10 ∷ 1 ∷ 2 ∷ []
output = refl

-- "The test returns answer, place, and 1 for twins, else 0."; the count of neighbours stands in the same place
twins : twin_numbers (record { answer = 14; place = 2; twins = 1 }) ≡ 14 ∷ 2 ∷ 1 ∷ []
twins = refl

neighbours : neighbour_numbers (record { answer = 14; place = 2; twins = 3 }) ≡ 14 ∷ 2 ∷ 3 ∷ []
neighbours = refl

-- 0 is the strict mode, and every other number the repository's
modes : map mode_of (0 ∷ 1 ∷ 2 ∷ 4294967295 ∷ []) ≡ Mode.Strict ∷ Mode.Repository ∷ Mode.Repository ∷ Mode.Repository ∷ []
modes = refl
