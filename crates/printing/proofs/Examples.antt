-- The lines of trees by example. Assumes nothing.
use mathlib.Core.Path.{◌≡◌, refl}
use mathlib.Core.List.{[], ◌∷◌}
use Rattle.octets.specs.Runs.{run}
use Rattle.characters.specs.Units.{units_from}
use Rattle.folding.specs.Strict.{folded_units}
use Rattle.tables.specs.Trees.{Property, none, tree, absent, present}
use Rattle.printing.specs.Lines.{parameters_text, property_lines, written}

-- K;P;Q=a;R="b,c":v
abbrev property : Property
property = record {
  key = 75 ∷ [];
  parameters = record { key = 80 ∷ []; value = absent }
      ∷ record { key = 81 ∷ []; value = present (97 ∷ []) }
      ∷ record { key = 82 ∷ []; value = present (98 ∷ 44 ∷ 99 ∷ []) }
      ∷ [];
  value = 118 ∷ [];
}

-- A with the property and the child B, which has the property E without a value; then C
pub lines : written (tree (65 ∷ []) (property ∷ []) (tree (66 ∷ []) (record { key = 69 ∷ []; parameters = []; value = [] } ∷ []) none none) (tree (67 ∷ []) [] none none))
    -- BEGIN:A
    ≡ 66 ∷ 69 ∷ 71 ∷ 73 ∷ 78 ∷ 58 ∷ 65 ∷ 13 ∷ 10
    -- K;P;Q=a;R="b,c":v
    ∷ 75 ∷ 59 ∷ 80 ∷ 59 ∷ 81 ∷ 61 ∷ 97 ∷ 59 ∷ 82 ∷ 61 ∷ 34 ∷ 98 ∷ 44 ∷ 99 ∷ 34 ∷ 58 ∷ 118 ∷ 13 ∷ 10
    -- BEGIN:B, E:, END:B
    ∷ 66 ∷ 69 ∷ 71 ∷ 73 ∷ 78 ∷ 58 ∷ 66 ∷ 13 ∷ 10
    ∷ 69 ∷ 58 ∷ 13 ∷ 10
    ∷ 69 ∷ 78 ∷ 68 ∷ 58 ∷ 66 ∷ 13 ∷ 10
    -- END:A
    ∷ 69 ∷ 78 ∷ 68 ∷ 58 ∷ 65 ∷ 13 ∷ 10
    -- BEGIN:C, END:C
    ∷ 66 ∷ 69 ∷ 71 ∷ 73 ∷ 78 ∷ 58 ∷ 67 ∷ 13 ∷ 10
    ∷ 69 ∷ 78 ∷ 68 ∷ 58 ∷ 67 ∷ 13 ∷ 10 ∷ []
unfolding run units_from folded_units parameters_text property_lines written
lines = refl
