-- Serves laws only. A readable feed (document 01, "Lines and nesting"), and what it is owed.
-- Assumes nothing.
use Rattle.std.specs.Prelude.{ℕ, ◌*◌, ◌≤◌, ◌<◌, ◌≡◌, List, [], ◌++◌, length, take, drop}
use Rattle.octets.specs.Answers.{longest, done}
use Rattle.unfolding.specs.Unfold.{unfolded}
use Rattle.tables.specs.Rows.{component_size, property_size, parameter_size, component_words, property_words, parameter_words, component_at, property_at, parameter_at, rows_of, flat}
use Rattle.nesting.specs.Steps.{State, finished, run_of, counts_of}
use Rattle.reading.specs.Answers.{told}
use Rattle.tables.specs.Lent.{Lent}
use Rattle.reading.specs.Lent.{read_into, left}

-- the feed is within the byte limit, each line of its unfolded text may stand where it does, and at the end nothing is open and there is
-- a component; s has the rows
pub record Readable (feed : List ℕ) (s : State) : Type 0 where
  pub short : length feed ≤ longest
  pub reads : run_of (unfolded feed) ≡ finished s
  pub closed : s.opens ≡ []
  pub some : 0 < length s.components

-- what a reading that answers Done returns and leaves: "0; length and counts", the unfolded text, and the rows, which read back as they are;
-- behind them each buffer is as it was
pub record ReadTo (feed : List ℕ) (b : Lent) (s : State) : Type 0 where
  pub numbers : read_into feed b ≡ told done 0 (length (unfolded feed)) (counts_of s)
  pub text : (left feed b).text ≡ unfolded feed ++ drop (length (unfolded feed)) b.text
  pub components : (left feed b).components ≡ flat component_words s.components ++ drop (component_size * length s.components) b.components
  pub properties : (left feed b).properties ≡ flat property_words s.properties ++ drop (property_size * length s.properties) b.properties
  pub parameters : (left feed b).parameters ≡ flat parameter_words s.parameters ++ drop (parameter_size * length s.parameters) b.parameters
  pub components_back : take (length s.components) (rows_of component_size component_at (left feed b).components) ≡ s.components
  pub properties_back : take (length s.properties) (rows_of property_size property_at (left feed b).properties) ≡ s.properties
  pub parameters_back : take (length s.parameters) (rows_of parameter_size parameter_at (left feed b).parameters) ≡ s.parameters
