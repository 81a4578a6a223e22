-- Serves laws only. What twins are, said without a test (document 02, request 5; RFC 5545, section 2): "compare property and parameter names without
-- regard to ASCII case, and a property's parameters as a multiset. Values and component names stay exact."
-- Assumes nothing.
use Rattle.std.specs.Prelude.{ℕ, ◌≡◌, List, map}
use Rattle.octets.specs.Bytes.{lowered}
use Rattle.tables.specs.Trees.{Parameter, Property, Trees, none, tree}
use Rattle.comparing.specs.Orders.{Reordered, OneByOne}

-- a parameter with its key in lower case
abbrev pub in_lower_case : Parameter → Parameter
in_lower_case p = record { key = map lowered p.key; value = p.value }

-- two properties: equal keys in lower case, equal values, and the same parameters with keys in lower case, in some order
pub record TwinProperty (p q : Property) : Type 0 where
  pub key : map lowered p.key ≡ map lowered q.key
  pub value : p.value ≡ q.value
  pub parameters : Reordered (map in_lower_case p.parameters) (map in_lower_case q.parameters)

-- two lists of trees: equal names, twin properties in order, twin children in order
pub data TwinTrees : Trees → Trees → Type 0 where
  no_trees : TwinTrees none none
  first : {name : List ℕ} {ps qs : List Property} {children children' rest rest' : Trees} → OneByOne TwinProperty ps qs → TwinTrees children children'
      → TwinTrees rest rest' → TwinTrees (tree name ps children rest) (tree name qs children' rest')
