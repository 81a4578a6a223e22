-- The listing of a feed (document 01, "Examples"), and what it leaves in the text and the tables that it is read into.
-- Assumes nothing.
use Rattle.std.specs.Prelude.{ℕ, ◌*◌, ◌≤◌, ◌≡◌, List, ◌++◌, length, replicate, eqb, leb}
use Rattle.octets.specs.Choice.{pick}
use Rattle.octets.specs.Answers.{done, too_long}
use Rattle.tables.specs.Rows.{component_size, property_size, parameter_size}
use Rattle.reading.specs.Answers.{refusal}
use Rattle.tables.specs.Lent.{Lent, lent}
use Rattle.reading.specs.Lent.{room_in, read_into, left}
use Rattle.reading.specs.declared.Reading.{Reading}
use Rattle.listing.specs.Lines.{Components, Properties, Parameters, section_text, refused}

-- a reading that is Done has its rows in the tables
pub record HasRows (r : Reading) (b : Lent) : Type 0 where
  pub components : r.answer ≡ done → r.components ≤ (room_in b).components
  pub properties : r.answer ≡ done → r.properties ≤ (room_in b).properties
  pub parameters : r.answer ≡ done → r.parameters ≤ (room_in b).parameters

-- "three sections in fixed order", or the line of a refusal
abbrev pub listed : Reading → Lent → List ℕ
listed r b =
    pick (eqb r.answer done)
    (section_text Components b.text b.components r.components
    ++ (section_text Properties b.text b.properties r.properties ++ section_text Parameters b.text b.parameters r.parameters))
    (refused r)

-- "The lister reads standard input to 16,384 bytes"
abbrev pub longest_listed : ℕ
longest_listed = 16384

-- room for the listing of any such feed
abbrev pub listing_room : ℕ
listing_room = 32768

-- "more is refused with 1 and five zeros"; else the feed is read, and what the reading left is listed
abbrev pub if_short : {A : Type 0} → List ℕ → A → A → A
if_short feed read long = pick (leb (length feed) longest_listed) read long

abbrev pub listing : List ℕ → Lent → List ℕ
listing feed b = if_short feed (listed (read_into feed b) (left feed b)) (refused (refusal too_long 0 0))

-- text and tables are as the reading leaves them, and untouched where there is none
abbrev pub left_listed : List ℕ → Lent → Lent
left_listed feed b = if_short feed (left feed b) b

-- "rows for 128 components, 512 properties and 512 parameters": rooms of these sizes, which are zero at first
abbrev pub rooms : Lent
rooms = lent (replicate longest_listed 0) (replicate (component_size * 128) 0) (replicate (property_size * 512) 0) (replicate (parameter_size * 512) 0)

unfoldable pub listing_of : List ℕ → List ℕ
listing_of feed = listing feed rooms
