-- Serves laws only. Answers of a fold, of quoting and of the writer: the bytes that they tell of, and how room decides about them (document 01, "What each number
-- returns and leaves").
-- Assumes nothing.
use Rattle.std.specs.Prelude.{ℕ, ◌≤◌, ◌<◌, ◌≡◌, ◌↔◌, List, ◌++◌, length, take, drop, None, Ok}
use Rattle.octets.specs.Answers.{longest, done, no_out_room, output, out_after}
use Rattle.octets.specs.declared.Output.{Output}
use Rattle.tables.specs.Lent.{Lent, broken_in}
use Rattle.writable.specs.WritingRule.{judged_in}
use Rattle.writing.specs.Answers.{written_in}
use Rattle.demands.specs.Room.{SameFront}

-- as many bytes at the front of the buffer as the output is long
abbrev pub told_bytes : Output → List ℕ → List ℕ
told_bytes r new = take r.length new

-- the tables meet both rules, and what they are written as is within the byte limit: then room alone decides
pub record FitTables (b : Lent) : Type 0 where
  pub table_rule : broken_in b ≡ None
  pub writing_rule : judged_in b ≡ Ok tt
  pub short : length (written_in b) ≤ longest

-- the answer to each room, for these bytes; Fine is what it takes that room decides
pub record RoomDecides (Fine : Type 0) (bytes : List ℕ) (answer : ℕ → Output) : Type 0 where
  -- more room changes no answer other than 13, and the same bytes are written
  pub more : (old old' : List ℕ) → length old ≤ length old' → ((answer (length old)).answer ≡ no_out_room → ⊥)
      → (answer (length old') ≡ answer (length old))
      × SameFront (answer (length old)).length old (out_after (answer (length old)) bytes old) old' (out_after (answer (length old')) bytes old')
  -- 13 is told exactly where there is too little
  pub exactly : (room : ℕ) → ((answer room).answer ≡ no_out_room) ↔ (Fine × (room < length bytes))
  -- and the length that it tells is the one needed, and enough; the length of any other refusal is 0
  pub needed : (room : ℕ) → (answer room).answer ≡ no_out_room → (answer room).length ≡ length bytes
  pub suffices : (room room' : ℕ) → (answer room).answer ≡ no_out_room → (answer room).length ≤ room' → answer room' ≡ output done 0 (answer room).length
  pub otherwise : (room : ℕ) → ((answer room).answer ≡ done → ⊥) → ((answer room).answer ≡ no_out_room → ⊥) → (answer room).length ≡ 0
  -- every refusal leaves the buffer as it was, and Done lays the bytes over its front
  pub refused : (old : List ℕ) → ((answer (length old)).answer ≡ done → ⊥) → out_after (answer (length old)) bytes old ≡ old
  pub written : (old : List ℕ) → (answer (length old)).answer ≡ done → out_after (answer (length old)) bytes old ≡ bytes ++ drop (length bytes) old
