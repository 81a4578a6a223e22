-- Serves inner contracts only. How many rows at the front of a list are of a class, the run of parameter rows that one property has, and the property with these.
-- Assumes nothing.
use Rattle.std.specs.Prelude.{ℕ, suc, Bool, List, [], ◌∷◌, map, take, drop, eqb}
use Rattle.octets.specs.Choice.{pick}
use Rattle.octets.specs.Views.{viewed}
use Rattle.tables.specs.Trees.{Parameter, Property, parameter_of}
use Rattle.tables.specs.declared.PropertyRow.{PropertyRow}
use Rattle.tables.specs.declared.ParameterRow.{ParameterRow}

unfoldable pub front : {A : Type 0} → (A → Bool) → List A → ℕ
front class [] = 0
front class (x ∷ xs) = pick (class x) (suc (front class xs)) 0

-- a parameter of the property
abbrev pub belongs : ℕ → ParameterRow → Bool
belongs property p = eqb p.property property

-- the parameter rows of one property are one run: that which begins at `first`
abbrev pub own_run : ℕ → ℕ → List ParameterRow → List ParameterRow
own_run property first rows = take (front (belongs property) (drop first rows)) (drop first rows)

-- the parameters of the run
abbrev pub own_parameters : List ℕ → ℕ → ℕ → List ParameterRow → List Parameter
own_parameters text property first rows = map (parameter_of text) (own_run property first rows)

-- a property row with the parameters of the run
abbrev pub own_property : List ℕ → PropertyRow → ℕ → ℕ → List ParameterRow → Property
own_property text p number first rows =
    record {
      key = viewed text p.key_start p.key_len;
      parameters = own_parameters text number first rows;
      value = viewed text p.value_start p.value_len;
    }
