-- The four things that a reading fills and that the writer and the twin test look at: which rows stand in them, whether they meet the table
-- rule, and the trees that they stand for.
-- Assumes nothing.
use Rattle.std.specs.Prelude.{ℕ, List, [], length, get_or, Option}
use Rattle.octets.specs.Views.{viewed}
use Rattle.tables.specs.Rows.{component_size, property_size, parameter_size, component_at, property_at, parameter_at, rows_of}
use Rattle.tables.specs.TableRule.{broken}
use Rattle.tables.specs.Trees.{Trees, tree_at, trees_of}
use Rattle.tables.specs.declared.ComponentRow.{ComponentRow}
use Rattle.tables.specs.declared.PropertyRow.{PropertyRow}
use Rattle.tables.specs.declared.ParameterRow.{ParameterRow}
use Rattle.tables.specs.declared.Tables.{Tables}

-- a text and the words of three tables
pub record Lent : Type 0 where
  pub text : List ℕ
  pub components : List ℕ
  pub properties : List ℕ
  pub parameters : List ℕ

abbrev pub lent : List ℕ → List ℕ → List ℕ → List ℕ → Lent
lent text components properties parameters =
    record { text = text; components = components; properties = properties; parameters = parameters }

-- what four references in one value hold
abbrev pub held : Tables → Lent
held t = lent t.text.now t.components.now t.properties.now t.parameters.now

-- all whole rows count, and words behind them do not
abbrev pub components_in : List ℕ → List ComponentRow
components_in = rows_of component_size component_at

abbrev pub properties_in : List ℕ → List PropertyRow
properties_in = rows_of property_size property_at

abbrev pub parameters_in : List ℕ → List ParameterRow
parameters_in = rows_of parameter_size parameter_at

-- the first row that breaks the table rule
abbrev pub broken_in : Lent → Option ℕ
broken_in b = broken (length b.text) (components_in b.components) (properties_in b.properties) (parameters_in b.parameters)

-- "whole tables stand for the list of their top trees"
abbrev pub trees_in : Lent → Trees
trees_in b = trees_of b.text (components_in b.components) (properties_in b.properties) (parameters_in b.parameters)

-- the tree of a row, its children as deep as the level allows
abbrev pub tree_in : Lent → ℕ → ℕ → Trees
tree_in b level row = tree_at b.text (components_in b.components) (properties_in b.properties) (parameters_in b.parameters) level row

-- the name of a row
abbrev pub name_in : List ℕ → List ComponentRow → ℕ → List ℕ
name_in text components row = viewed text (get_or components row (component_at [] 0)).name_start (get_or components row (component_at [] 0)).name_len
