-- Trees (document 01, "Writing and trees"), and how rows make them.
-- Assumes nothing.
use Rattle.std.specs.Prelude.{ℕ, zero, suc, ◌+◌, List, [], ◌∷◌, get_or, eqb}
use Rattle.octets.specs.Choice.{pick}
use Rattle.octets.specs.Views.{viewed}
use Rattle.octets.specs.Answers.{deepest}
use Rattle.tables.specs.Rows.{no_parent, component_at}
use Rattle.tables.specs.declared.ComponentRow.{ComponentRow}
use Rattle.tables.specs.declared.PropertyRow.{PropertyRow}
use Rattle.tables.specs.declared.ParameterRow.{ParameterRow}

-- "the value is either absent, or present"
pub data Value : Type 0 where
  absent : Value
  present : List ℕ → Value

pub record Parameter : Type 0 where
  pub key : List ℕ
  pub value : Value

-- "each its key, its parameters in order and its value"
pub record Property : Type 0 where
  pub key : List ℕ
  pub parameters : List Parameter
  pub value : List ℕ

-- a list of trees: none, or a first tree, "a name, the properties in order, the children in order", and the rest of the list
pub data Trees : Type 0 where
  none : Trees
  tree : List ℕ → List Property → Trees → Trees → Trees

-- of rows numbered from `row` on, those that belong to `owner`, in row order, each put before what the later ones make
unfoldable pub gather : {A R : Type 0} → (A → ℕ) → (ℕ → A → R → R) → R → ℕ → ℕ → List A → R
gather owner_of before end owner row [] = end
gather owner_of before end owner row (x ∷ xs) =
    pick (eqb (owner_of x) owner)
    (before row x (gather owner_of before end owner (row + 1) xs))
    (gather owner_of before end owner (row + 1) xs)

-- "1 if a value is present else 0"
abbrev pub value_of : List ℕ → ParameterRow → Value
value_of text p = pick (eqb p.present 0) absent (present (viewed text p.value_start p.value_len))

abbrev pub parameter_of : List ℕ → ParameterRow → Parameter
parameter_of text p = record { key = viewed text p.key_start p.key_len; value = value_of text p }

-- the parameters of a property row
abbrev pub parameters_of : List ℕ → List ParameterRow → ℕ → List Parameter
parameters_of text parameters property = gather (λ (p : ParameterRow). p.property) (λ row p rest. parameter_of text p ∷ rest) [] property 0 parameters

abbrev pub property_of : List ℕ → List ParameterRow → ℕ → PropertyRow → Property
property_of text parameters row p =
    record {
      key = viewed text p.key_start p.key_len;
      parameters = parameters_of text parameters row;
      value = viewed text p.value_start p.value_len;
    }

-- the properties of a component row
abbrev pub properties_of : List ℕ → List PropertyRow → List ParameterRow → ℕ → List Property
properties_of text properties parameters component =
    gather (λ (p : PropertyRow). p.owner) (λ row p rest. property_of text parameters row p ∷ rest) [] component 0 properties

module _ (text : List ℕ) (components : List ComponentRow) (properties : List PropertyRow) (parameters : List ParameterRow) where
  -- the children of a row, where `below` gives the trees that have a parent; as a parent 4294967295 is none, and so no row
  abbrev pub children_of : (ℕ → Trees) → ℕ → Trees
  children_of below row = pick (eqb row no_parent) none (below row)

  -- the tree of a component row, before other trees
  abbrev pub grown : (ℕ → Trees) → ℕ → ComponentRow → Trees → Trees
  grown below row c rest =
      tree (viewed text c.name_start c.name_len) (properties_of text properties parameters row) (children_of below row) rest

  -- the trees of the rows that have this parent, as deep as the level allows
  unfoldable pub forest : ℕ → ℕ → Trees
  forest zero parent = none
  forest (suc level) parent = gather (λ (c : ComponentRow). c.parent) (grown (forest level)) none parent 0 components

  -- the tree of a row alone: its children are as deep as the level allows
  abbrev pub tree_at : ℕ → ℕ → Trees
  tree_at level row = grown (forest level) row (get_or components row (component_at [] 0)) none

  -- "whole tables stand for the list of their top trees"
  abbrev pub trees_of : Trees
  trees_of = forest deepest no_parent
