-- Laws of writing: a tree and those behind it, the properties of a window, and siblings in turn. Assumes nothing.
use mathlib.Core.Path.{◌≡◌, ap, ◌∙◌}
use mathlib.Core.List.{List, [], ◌∷◌, ◌++◌, append_assoc, append-nil}
use Prim.Native.Nat.{ℕ, ◌+◌, ◌-◌, ◌≤◌, ◌<◌, min}
use native.Mathlib.Omega.{arith}
use lib.ListN.{length, take, drop}
use Rattle.octets.specs.Laid.{laid_from, most, counted, Lays}
use Rattle.octets.proofs.Writing.{Writing, start, more, end, stays, lent_back, at_most, length_from}
use Rattle.tables.specs.Trees.{Trees, none, tree, Property, property_of, forest, children_of}
use Rattle.tables.specs.Fronts.{front}
use Rattle.tables.specs.Lent.{Lent, components_in, properties_in, parameters_in, tree_in, name_in}
use Rattle.tables.specs.declared.PropertyRow.{PropertyRow}
use Rattle.tables.specs.declared.ParameterRow.{ParameterRow}
use Rattle.walking.specs.Walk.{end_of, held_before}
use Rattle.walking.specs.declared.Cursor.{Cursor}
use Rattle.walking.proofs.Walks.{held_rises}
use Rattle.walking.proofs.Own.{own_from, own_here, other_here, no_more}
use Rattle.walking.proofs.Along.{comps, Along, onward, trees_from, first_ahead, none_ahead}
use Rattle.printing.specs.Lines.{closed_line, end_line, property_line, property_lines, written}
use Rattle.writing.specs.Places.{head_in, Wrote}
use Rattle.writing.specs.declared.Place.{Place}

-- a front that is lent from a place on, and counted on from there
pub lent_rest : {at from n r : ℕ} {bytes old part : List ℕ} → from ≡ min at (length old)
    → Lays 0 bytes (take (length old - from) (drop from old)) part n → r ≡ counted (at + n)
    → Lays at bytes old (take from old ++ (part ++ drop (length old - from) (drop from old))) r
lent_rest {at} {from} {n} {r} {bytes} {old} {part} e p c =
    record {
      count = omega (arith, p.count);
      is = lent_back from bytes old p.is ∙ (ap (λ (k : ℕ). laid_from k bytes old) e ∙ at_most at (length old) bytes old (omega arith));
    }

-- laying keeps the length of a buffer
pub same_room : {at n : ℕ} {xs old new : List ℕ} → Lays at xs old new n → length new ≡ length old
same_room {at} {xs = xs} {old = old} p = ap length p.is ∙ length_from at xs old

-- a tree, and then those behind it
pub written_then : (name : List ℕ) (properties : List Property) (children rest : Trees)
    → written (tree name properties children rest) ≡ written (tree name properties children none) ++ written rest
unfolding written
written_then name properties children rest = simp (append_assoc, append-nil)

-- ---- the properties of a component

module _ (text : List ℕ) (properties : List PropertyRow) (parameters : List ParameterRow) (row last : ℕ) where
  own_line : (number : ℕ) (p : PropertyRow) → drop number properties ≡ p ∷ drop (number + 1) properties → number < last → p.owner ≡ row
      → property_lines (own_from text properties parameters row last number)
      ≡ closed_line (property_line (property_of text parameters number p)) ++ property_lines (own_from text properties parameters row last (number + 1))
  unfolding property_lines
  own_line number p here h o = ap property_lines (own_here text properties parameters row last number p here h o)

  no_line : (number : ℕ) → last ≤ number → property_lines (own_from text properties parameters row last number) ≡ []
  unfolding property_lines
  no_line number h = ap property_lines (no_more text properties parameters row last number h)

  -- those up to row `number` are laid, and no parameter before `next` belongs to a later one
  pub record Listing (first from : ℕ) (old out : List ℕ) (at next number : ℕ) : Type 0 where
    pub held : next ≤ front (held_before number) parameters
    pub counts : at ≤ most
    pub writing : Writing from old (property_lines (own_from text properties parameters row last first)) out (property_lines (own_from text properties parameters row last number)) at

module _ {text : List ℕ} {properties : List PropertyRow} {parameters : List ParameterRow} {row last : ℕ} where
  module _ {first from at next number : ℕ} {old out : List ℕ} (l : Listing text properties parameters row last first from old out at next number) where
    module _ (h : number < last) (p : PropertyRow) (here : drop number properties ≡ p ∷ drop (number + 1) properties) where
      pub line_laid : p.owner ≡ row → length old ≤ most → {new : List ℕ} {at' next' : ℕ}
          → Lays at (closed_line (property_line (property_of text parameters number p))) out new at' → next' ≤ front (held_before (number + 1)) parameters
          → Listing text properties parameters row last first from old new at' next' (number + 1)
      line_laid o room laid held = record {
        held = held;
        counts = omega (arith, laid.count);
        writing =
            more l.writing room _ _ (own_line text properties parameters row last number p here h o) laid;
      }

      pub line_passed : (p.owner ≡ row → ⊥) → Listing text properties parameters row last first from old out at next (number + 1)
      line_passed o =
          record {
            held = omega (arith, l.held, held_rises parameters number (number + 1) (omega arith));
            counts = l.counts;
            writing = rw (ap property_lines (other_here text properties parameters row last number p here h o)) at l.writing;
          }

    pub all_laid : last ≤ number → Lays from (property_lines (own_from text properties parameters row last first)) old out at
    all_laid h = end (rw (no_line text properties parameters row last number h) at l.writing) (stays at out l.counts)

-- ---- siblings

module _ (b : Lent) (level : ℕ) where
  -- the bytes of the trees of the rows from `from` up to `to` that have a parent
  abbrev pub sibling_bytes : ℕ → ℕ → ℕ → List ℕ
  sibling_bytes parent from to = written (trees_from b level parent from to)

  first_bytes : {parent d first last row : ℕ} {cursor : Cursor} → Along b parent d first last row cursor → row < last
      → sibling_bytes parent row last ≡ written (tree_in b level row) ++ sibling_bytes parent (end_of (comps b) row) last
  first_bytes a h = ap written (first_ahead b level a h) ∙ written_then _ _ _ _

  no_bytes : (parent from to : ℕ) → to ≤ from → sibling_bytes parent from to ≡ []
  unfolding written
  no_bytes parent from to h = ap written (none_ahead b level parent from to h)

  -- the siblings up to the place are written; `old` was in the buffer at first and `from` was the place in it
  pub record Going (parent d first last : ℕ) (from : ℕ) (old out : List ℕ) (place : Place) : Type 0 where
    pub along : Along b parent d first last place.row place.cursor
    pub counts : place.at ≤ most
    pub writing : Writing from old (sibling_bytes parent first last) out (sibling_bytes parent place.row last) place.at

  pub going : {parent d first last : ℕ} (old : List ℕ) {place : Place} → place.row ≡ first → Along b parent d first last first place.cursor → place.at ≤ most
      → Going parent d first last place.at old old place
  going old {place} e a n = record { along = rw e a; counts = n; writing = rw e (start place.at old _) }

  module _ {parent d first last from : ℕ} {old out : List ℕ} {place : Place} (g : Going parent d first last from old out place)
      (h : place.row < last) (room : length old ≤ most) where
    pub one_written : {new : List ℕ} {behind : Place} → Wrote b level place out new behind → Going parent d first last from old new behind
    one_written w =
        record {
          along = onward b g.along h w.end w.reached;
          counts = omega (arith, w.lays.count);
          writing = rw w.end (more g.writing room _ _ (first_bytes g.along h) w.lays);
        }

  pub all_written : {parent d first last from : ℕ} {old out : List ℕ} {place : Place} → Going parent d first last from old out place
      → last ≤ place.row → Lays from (sibling_bytes parent first last) old out place.at
  all_written {parent} {last = last} {out = out} {place = place} g h = end (rw (no_bytes parent place.row last h) at g.writing) (stays place.at out g.counts)

-- a component in its three parts
pub component_bytes : (b : Lent) (level row : ℕ)
    → written (tree_in b level row)
    ≡ head_in b row
    ++ (written (children_of b.text (components_in b.components) (properties_in b.properties) (parameters_in b.parameters)
    (forest b.text (components_in b.components) (properties_in b.properties) (parameters_in b.parameters) level) row)
    ++ closed_line (end_line (name_in b.text (components_in b.components) row)))
unfolding written
component_bytes b level row = simp (append_assoc, append-nil)
