-- Serves laws only. Two sets of lent buffers, one with more room; what a reading tells of, whether it is in order, and what a late refusal leaves.
-- Assumes nothing.
use Rattle.std.specs.Prelude.{ℕ, ◌*◌, ◌≤◌, Bool, List, ◌++◌, length, take, drop}
use Rattle.unfolding.specs.Unfold.{unfolded}
use Rattle.tables.specs.Rows.{component_size, property_size, parameter_size}
use Rattle.tables.specs.Lent.{Lent, lent, components_in, properties_in}
use Rattle.walking.specs.Walk.{in_order}
use Rattle.reading.specs.Lent.{room_in}
use Rattle.reading.specs.declared.Reading.{Reading}
use Rattle.demands.specs.Room.{AtMost}

-- there is at least as much room in the second: its text is at least as long, and each of its tables has at least as many rows
pub record Roomier (b b' : Lent) : Type 0 where
  pub text : length b.text ≤ length b'.text
  pub rows : AtMost (room_in b) (room_in b')

-- the bytes and the rows at the front of each buffer that a reading tells of
abbrev pub told_of : Reading → Lent → Lent
told_of r b =
    record {
      text = take r.length b.text;
      components = take (component_size * r.components) b.components;
      properties = take (property_size * r.properties) b.properties;
      parameters = take (parameter_size * r.parameters) b.parameters;
    }

-- whether their rows are in order, so that each property is found where the walk through them looks
abbrev pub in_order_in : Lent → Bool
in_order_in b = in_order (components_in b.components) (properties_in b.properties)

-- the unfolded feed at the front of the text, the rest of the text and all tables as they were
abbrev pub text_only : List ℕ → Lent → Lent
text_only feed b = lent (unfolded feed ++ drop (length (unfolded feed)) b.text) b.components b.properties b.parameters
