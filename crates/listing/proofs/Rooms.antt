-- A reading that is Done has its rows in the tables. Assumes nothing.
use mathlib.Core.Path.{◌≡◌, refl, ap, ◌∙◌}
use mathlib.Core.Bool.{Bool, true, false, ◌&&◌}
use mathlib.Core.List.{List}
use Prim.Native.Nat.{ℕ, ◌≤◌}
use native.Mathlib.Omega.{arith}
use lib.ListN.{length}
use lib.Dec.{eqb, leb}
use borrow.Author.Tests.{leb-true, eqb-false}
use Rattle.octets.specs.Choice.{pick}
use Rattle.octets.specs.Laid.{laid}
use Rattle.octets.specs.Answers.{longest, done, too_long, no_text_room, no_room}
use Rattle.octets.proofs.Laid.{length_laid}
use Rattle.unfolding.specs.Unfold.{unfolded}
use Rattle.tables.specs.Rows.{flat, component_words, property_words, parameter_words}
use Rattle.nesting.specs.Steps.{outcome_of}
use Rattle.nesting.specs.declared.Counts.{Counts}
use Rattle.std.specs.Prelude.{Result, Ok, Err}
use Rattle.nesting.specs.declared.Refused.{Refused}
use Rattle.reading.specs.Answers.{refusal, told, counts_in, fits, answered, by_room, reading_of, rows_in, table_after}
use Rattle.tables.specs.Lent.{Lent}
use Rattle.reading.specs.Lent.{room_in, read_into, left}
use Rattle.reading.specs.declared.Reading.{Reading}
use Rattle.reading.proofs.Laws.{refusal_number, Finished, read_to_end}
use Rattle.listing.specs.Listing.{HasRows}

-- a reading that is Done went to the end of its text, and its counts are within the room
pub record Within (feed : List ℕ) (r : Reading) (room : Counts) : Type 0 where
  pub read : Finished (unfolded feed) (counts_in r)
  pub components : r.components ≤ room.components
  pub properties : r.properties ≤ room.properties
  pub parameters : r.parameters ≤ room.parameters

three : (a b d : Bool) → (a && (b && d)) ≡ true → (a ≡ true) × ((b ≡ true) × (d ≡ true))
three true true true e = (refl, (refl, refl))
three true true false e = (refl, (refl, e))
three true false d e = (refl, (e, cc))
three false b d e = (e, (cc, cc))

counted_within : (feed : List ℕ) (counts room : Counts) (size : ℕ) (t : Bool) → Finished (unfolded feed) counts → fits counts room ≡ t → pick t done no_room ≡ done
    → Within feed (told (pick t done no_room) 0 size counts) room
counted_within feed counts room size true w f e =
    let l = three (leb counts.components room.components) (leb counts.properties room.properties) (leb counts.parameters room.parameters) f in
    record { read = w; components = leb-true _ _ l.0; properties = leb-true _ _ l.1.0; parameters = leb-true _ _ l.1.1 }
counted_within feed counts room size false w f e = absurd (omega arith)

pub done_within : (feed : List ℕ) (text_room : ℕ) (room : Counts) → (reading_of feed text_room room).answer ≡ done → Within feed (reading_of feed text_room room) room
unfolding reading_of
done_within feed text_room room = go (leb (length feed) longest) (leb (length (unfolded feed)) text_room) (outcome_of (unfolded feed)) refl
  where
    size : ℕ
    size = length (unfolded feed)

    go : (t u : Bool) (o : Result Counts Refused) → outcome_of (unfolded feed) ≡ o
        → (pick t (pick u (answered o size (by_room room)) (refusal no_text_room 0 size)) (refusal too_long 0 0)).answer ≡ done
        → Within feed (pick t (pick u (answered o size (by_room room)) (refusal no_text_room 0 size)) (refusal too_long 0 0)) room
    go false u o q e = absurd (omega arith)
    go true false o q e = absurd (omega arith)
    go true true (Err x) q e = absurd (eqb-false _ done (refusal_number x.refusal) e)
    go true true (Ok counts) q e = counted_within feed counts room size (fits counts room) (read_to_end (unfolded feed) counts q) refl e

table_length : {A : Type 0} (words : A → List ℕ) (rows : List A) (r : Reading) (table : List ℕ) → length (table_after words rows r table) ≡ length table
table_length words rows r table = go (eqb r.answer done)
  where
    go : (t : Bool) → length (pick t (laid (flat words rows) table) table) ≡ length table
    go true = length_laid (flat words rows) table
    go false = refl

pub has_rows : (feed : List ℕ) (b : Lent) {r : Reading} {b' : Lent} → r ≡ read_into feed b → b' ≡ left feed b → HasRows r b'
has_rows feed b e f =
    let w = done_within feed (length b.text) (room_in b) in
    let s = read_into feed b in
    let x = ap (λ (l : Lent). length l.components) f ∙ table_length component_words (rows_in (unfolded feed)).components s b.components in
    let y = ap (λ (l : Lent). length l.properties) f ∙ table_length property_words (rows_in (unfolded feed)).properties s b.properties in
    let z = ap (λ (l : Lent). length l.parameters) f ∙ table_length parameter_words (rows_in (unfolded feed)).parameters s b.parameters in
    record {
      components = rw (e, x) (λ g. (w g).components);
      properties = rw (e, y) (λ g. (w g).properties);
      parameters = rw (e, z) (λ g. (w g).parameters);
    }
