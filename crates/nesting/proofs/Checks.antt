-- Whether a line may stand where it does, by how many are open and the innermost of them; and which line is refused for a fault. Assumes nothing.
use mathlib.Core.Path.{◌≡◌, refl}
use mathlib.Core.Bool.{Bool, true, false}
use mathlib.Core.List.{List, [], ◌∷◌}
use Prim.Native.Nat.{ℕ}
use lib.ListN.{length}
use lib.Dec.{ltb}
use Rattle.octets.specs.Choice.{pick}
use Rattle.octets.specs.Answers.{deepest}
use Rattle.octets.specs.Views.{viewed}
use Rattle.lines.specs.declared.Fault.{Fault}
use Rattle.lines.specs.declared.Line.{Line}
use Rattle.lines.specs.declared.Line.TheVariants.{Empty, Begin, BadBegin, End, Content, Bad}
use Rattle.std.specs.Prelude.{Result, Ok, Err}
use Rattle.nesting.specs.declared.Entry.{Entry}
use Rattle.nesting.specs.declared.Refusal.{Refusal}
use Rattle.nesting.specs.declared.Refused.{Refused}
use Rattle.nesting.specs.Steps.{fine, names, check_of, refused_at, met_at}

-- only a line with this fault is refused for it
pub fault_of : (text line : List ℕ) (l : Line) (opens : List Entry) (f : Fault) → check_of text line l opens ≡ Err (Refusal.Line f) → l ≡ Bad f
fault_of text line Empty opens f e = cc
fault_of text line (Begin name) opens f e = go (ltb (length opens) deepest) e
  where
    go : (t : Bool) → pick t fine (Err Refusal.TooDeep) ≡ Err (Refusal.Line f) → Begin name ≡ Bad f
    go true e = cc
    go false e = cc
fault_of text line BadBegin opens f e = cc
fault_of text line (End rest) [] f e = cc
fault_of text line (End rest) (o ∷ os) f e = go (names text (viewed line rest.start rest.len) o) e
  where
    go : (t : Bool) → pick t fine (Err Refusal.BadEnd) ≡ Err (Refusal.Line f) → End rest ≡ Bad f
    go true e = cc
    go false e = cc
fault_of text line (Content p) [] f e = cc
fault_of text line (Content p) (o ∷ os) f e = cc
fault_of text line (Bad g) [] f e = cc
fault_of text line (Bad g) (o ∷ os) f e = cc

-- ---- a check told with the place of its line

pub fine_from : (start : ℕ) (c : Result Unit Refusal) (u : Unit) → Ok u ≡ met_at start c → c ≡ fine
fine_from start (Ok x) u e = refl
fine_from start (Err r) u e = cc

pub refused_from : (start : ℕ) (c : Result Unit Refusal) (e : Refused) → Err e ≡ met_at start c → (c ≡ Err e.refusal) × (e ≡ refused_at e.refusal start)
refused_from start (Ok x) e h = cc
refused_from start (Err r) e h = let same : e ≡ refused_at r start = cc in rw same (refl, refl)
