-- The rows of every reading that goes to the end are in order, so the walk through them finds each property at its place. Assumes nothing.
use mathlib.Core.Path.{◌≡◌, refl, ap}
use mathlib.Core.Bool.{Bool, true, false}
use mathlib.Core.List.{List, [], ◌∷◌, ◌++◌}
use Prim.Native.Nat.{ℕ, ◌+◌, ◌≤◌, ◌<◌}
use native.Mathlib.Nat.{le_trans, not-suc-le-zero}
use native.Mathlib.Omega.{arith}
use lib.ListN.{length, get_or, drop, length-append, length-drop, get_or-append}
use lib.Seq.{get_or-append_seam, drop-append-le}
use lib.Dec.{ltb}
use borrow.Author.Tests.{ltb-true, ltb-false, lt-ltb}
use Rattle.octets.specs.Answers.{done}
use Rattle.octets.specs.declared.Span.{Span}
use Rattle.unfolding.specs.Unfold.{unfolded}
use Rattle.lines.specs.Split.{Placed, lines_from}
use Rattle.lines.specs.Rule.{line_of}
use Rattle.lines.specs.declared.Property.{Property}
use Rattle.lines.specs.declared.Line.{Line}
use Rattle.lines.specs.declared.Line.TheVariants.{Empty, Begin, BadBegin, End, Content, Bad}
use Rattle.tables.specs.Rows.{component_at}
use Rattle.tables.specs.declared.ComponentRow.{ComponentRow}
use Rattle.tables.specs.declared.PropertyRow.{PropertyRow}
use Rattle.tables.proofs.Fronts.{on, longer, through}
use Rattle.walking.specs.Walk.{deeper, depth_at, end_of, in_order}
use Rattle.walking.proofs.Windows.{stands, in_order_if}
use Rattle.nesting.specs.Rows.{entry, top, component_row, property_row}
use Rattle.nesting.specs.declared.Entry.{Entry}
use Rattle.nesting.specs.Steps.{State, nothing, if_open, check_of, closed, after, finished, read_lines, run_of, fine}
use Rattle.tables.specs.Lent.{Lent}
use Rattle.reading.specs.Lent.{read_into, left}
use Rattle.demands.specs.Lent.{told_of, in_order_in}
use Rattle.demands.specs.Readable.{Readable}
use Rattle.demands.proofs.Readable.{done_readable}
use Rattle.nesting.proofs.Lines.{goes_on}
use Rattle.demands.proofs.MeetsRule.{told_rows}

abbrev owner_at : List PropertyRow → ℕ → PropertyRow → ℕ
owner_at properties i d = (get_or properties i d).owner

-- a component that is open: it stands no deeper than `depth`, all rows behind it are of its subtree, and so are all properties behind one of these rows
record Open (components : List ComponentRow) (properties : List PropertyRow) (row depth : ℕ) : Type 0 where
  level : depth_at components row ≤ depth
  reach : length components ≤ end_of components row
  since : (k j : ℕ) (d : PropertyRow) → k ≤ j → j < length properties → row ≤ owner_at properties k d → row ≤ owner_at properties j d

-- all that are open, their rows falling from below n on
data Opens (components : List ComponentRow) (properties : List PropertyRow) : ℕ → List Entry → Type 0 where
  none : {n : ℕ} → Opens components properties n []
  next : {n : ℕ} {e : Entry} {es : List Entry} → e.row < n → Open components properties e.row (length es + 1) → Opens components properties e.row es
      → Opens components properties n (e ∷ es)

-- every property has its owner among the components
abbrev Owned : List ComponentRow → List PropertyRow → Type 0
Owned components properties = (i : ℕ) (d : PropertyRow) → i < length properties → owner_at properties i d < length components

-- a property and those before it, back to any one of its owner's row or a later one, are of the owner's subtree
abbrev Subtrees : List ComponentRow → List PropertyRow → Type 0
Subtrees components properties =
    (k j i : ℕ) (d : PropertyRow) → k ≤ j → j ≤ i → i < length properties → owner_at properties i d ≤ owner_at properties k d
    → (owner_at properties i d ≤ owner_at properties j d) × (owner_at properties j d < end_of components (owner_at properties i d))

record Ordered (s : State) : Type 0 where
  opens : Opens s.components s.properties (length s.components) s.opens
  owned : Owned s.components s.properties
  subtrees : Subtrees s.components s.properties

start : Ordered nothing
start =
    record {
      opens = none;
      owned = λ i d h. absurd (not-suc-le-zero h);
      subtrees = λ k j i d b c h. absurd (not-suc-le-zero h);
    }

module _ {components : List ComponentRow} {properties : List PropertyRow} where
  higher : {m n : ℕ} {es : List Entry} → m ≤ n → Opens components properties m es → Opens components properties n es
  higher h none = none
  higher h (next b o os) = next (le_trans b h) o os

  -- with rows added, all that are open stay so, if each does
  stay : {components' : List ComponentRow} {properties' : List PropertyRow} {n : ℕ} {es : List Entry}
      → ((row depth : ℕ) → row < n → depth ≤ length es → Open components properties row depth → Open components' properties' row depth)
      → Opens components properties n es → Opens components' properties' n es
  stay each none = none
  stay each (next {e = e} {es = es} b o os) =
      next b (each e.row (length es + 1) b (omega arith) o) (stay (λ row depth l m. each row depth (omega arith) (omega arith)) os)

-- END: one less is open
less : {components : List ComponentRow} {properties : List PropertyRow} {n : ℕ} (es : List Entry)
    → Opens components properties n es → Opens components properties n (closed es)
less [] os = os
less (e ∷ es) (next b o os) = higher (omega arith) os

-- BEGIN: a component more. The subtree of an earlier row is none the smaller, and that of an open one grows with it
module _ (components : List ComponentRow) (c : ComponentRow) where
  more : length (components ++ c ∷ []) ≡ length components + 1
  more = length-append components (c ∷ [])

  depth_kept : (row : ℕ) → row < length components → depth_at (components ++ c ∷ []) row ≡ depth_at components row
  depth_kept row h = ap (λ (c : ComponentRow). c.depth) (get_or-append components (c ∷ []) (component_at [] 0) row h)

  end_kept : (row : ℕ) → row < length components → end_of components row ≤ end_of (components ++ c ∷ []) row
  end_kept row h =
      rw (depth_kept row h, drop-append-le (row + 1) components (c ∷ []) (omega arith))
      (omega (arith, longer (deeper (depth_at components row)) (drop (row + 1) components) (c ∷ [])))

  end_moved : (row : ℕ) → row < length components → depth_at components row < c.depth → length components ≤ end_of components row
      → length (components ++ c ∷ []) ≤ end_of (components ++ c ∷ []) row
  end_moved row h d reach =
      let class = deeper (depth_at components row) in
      let size = length-drop (row + 1) components in
      rw (depth_kept row h, drop-append-le (row + 1) components (c ∷ []) (omega arith))
      (omega (
        arith,
        more,
        size,
        through class (drop (row + 1) components) (c ∷ []) (omega arith),
        on class (c ∷ []) [] c refl (lt-ltb (depth_at components row) c.depth d),
      ))

  module _ (properties : List PropertyRow) where
    stays_open : (row depth : ℕ) → row < length components → depth < c.depth → Open components properties row depth → Open (components ++ c ∷ []) properties row depth
    stays_open row depth h d o =
        record {
          level = rw (depth_kept row h) o.level;
          reach = end_moved row h (omega (arith, o.level)) o.reach;
          since = o.since;
        }

    -- no property is its own yet
    new_open : Owned components properties → Open (components ++ c ∷ []) properties (length components) c.depth
    new_open owned =
        record {
          level = omega (arith, ap (λ (c : ComponentRow). c.depth) (get_or-append_seam components c [] (component_at [] 0)));
          reach = omega (arith, more);
          since = λ k j d b h o. absurd (omega (arith, owned k d (omega arith)));
        }

begin : (s : State) → Ordered s → (at : ℕ) (line : List ℕ) (name : Span) → Ordered (after at line (Begin name) s)
begin s m at line name =
    let e = entry (length s.components) at name in
    let c = component_row (top s.opens) (length s.opens + 1) e in
    let n = more s.components c in
    let below : length s.components < length (s.components ++ c ∷ []) = omega arith in
    record {
      opens =
          next below (new_open s.components c s.properties m.owned)
          (stay (λ row depth b d. stays_open s.components c s.properties row depth b (omega arith)) m.opens);
      owned = λ i d h. omega (arith, m.owned i d h);
      subtrees =
          λ k j i d b b' h o.
          let w = m.subtrees k j i d b b' h o in
          (w.0, le_trans w.1 (end_kept s.components c (owner_at s.properties i d) (m.owned i d h)));
    }

-- a property more: its owner is the innermost of the open rows
module _ (properties : List PropertyRow) (p : PropertyRow) where
  one : length (properties ++ p ∷ []) ≡ length properties + 1
  one = length-append properties (p ∷ [])

  old : (i : ℕ) (d : PropertyRow) → i < length properties → owner_at (properties ++ p ∷ []) i d ≡ owner_at properties i d
  old i d h = ap (λ (p : PropertyRow). p.owner) (get_or-append properties (p ∷ []) d i h)

  new : (i : ℕ) (d : PropertyRow) → i < length (properties ++ p ∷ []) → length properties ≤ i → owner_at (properties ++ p ∷ []) i d ≡ p.owner
  new i d h l =
      let e : i ≡ length properties = omega (arith, one) in
      rw e (ap (λ (p : PropertyRow). p.owner) (get_or-append_seam properties p [] d))

  module _ (components : List ComponentRow) where
    still_open : (row depth : ℕ) → row ≤ p.owner → Open components properties row depth → Open components (properties ++ p ∷ []) row depth
    still_open row depth b o =
        record { level = o.level; reach = o.reach; since = λ k j d l h. go k j d l h (ltb j (length properties)) refl }
      where
        go : (k j : ℕ) (d : PropertyRow) → k ≤ j → j < length (properties ++ p ∷ []) → (t : Bool) → ltb j (length properties) ≡ t
            → row ≤ owner_at (properties ++ p ∷ []) k d → row ≤ owner_at (properties ++ p ∷ []) j d
        go k j d l h true x r =
            let i = ltb-true j (length properties) x in
            rw (old j d i) (o.since k j d l i (rw (old k d (omega arith)) at r))
        go k j d l h false x r = rw (new j d h (ltb-false j (length properties) x)) b

    owned_too : Owned components properties → p.owner < length components → Owned components (properties ++ p ∷ [])
    owned_too owned b i d h = go (ltb i (length properties)) refl
      where
        go : (t : Bool) → ltb i (length properties) ≡ t → owner_at (properties ++ p ∷ []) i d < length components
        go true x = let l = ltb-true i (length properties) x in rw (old i d l) (owned i d l)
        go false x = rw (new i d h (ltb-false i (length properties) x)) b

    subtrees_too : Owned components properties → Subtrees components properties → {depth : ℕ} → Open components properties p.owner depth
        → Subtrees components (properties ++ p ∷ [])
    subtrees_too owned subtrees o k j i d b c h r = go (ltb i (length properties)) refl (ltb j (length properties)) refl
      where
        go : (t : Bool) → ltb i (length properties) ≡ t → (u : Bool) → ltb j (length properties) ≡ u
            → (owner_at (properties ++ p ∷ []) i d ≤ owner_at (properties ++ p ∷ []) j d)
            × (owner_at (properties ++ p ∷ []) j d < end_of components (owner_at (properties ++ p ∷ []) i d))
        go true x u y =
            let l = ltb-true i (length properties) x in
            rw (old i d l, old j d (omega arith)) (subtrees k j i d b c l (rw (old i d l, old k d (omega arith)) at r))
        go false x true y =
            let n = new i d h (ltb-false i (length properties) x) in
            let l = ltb-true j (length properties) y in
            rw (n, old j d l) (o.since k j d b l (rw (n, old k d (omega arith)) at r), le_trans (owned j d l) o.reach)
        go false x false y =
            rw (new i d h (ltb-false i (length properties) x), new j d (omega arith) (ltb-false j (length properties) y)) (omega arith, omega arith)

content : (s : State) → Ordered s → (at : ℕ) (line : List ℕ) (p : Property) → if_open fine s.opens ≡ fine → Ordered (after at line (Content p) s)
content s m at line p within = go s.opens m.opens within
  where
    go : (es : List Entry) → Opens s.components s.properties (length s.components) es → if_open fine es ≡ fine
        → Ordered (after at line (Content p) (record { opens = es; components = s.components; properties = s.properties; parameters = s.parameters }))
    go [] os w = absurd (let z : ◌≡◌ {A = ℕ} 0 1 = cc in omega arith)
    go (e ∷ es) (next b o os) w =
        let q = property_row e.row at p in
        record {
          opens =
              next b (still_open s.properties q s.components e.row (length es + 1) (omega arith) o)
              (stay (λ row depth l d. still_open s.properties q s.components row depth (omega arith)) os);
          owned = owned_too s.properties q s.components m.owned b;
          subtrees = subtrees_too s.properties q s.components m.owned m.subtrees o;
        }

-- any line that may stand where it does
step : (s : State) → Ordered s → (text : List ℕ) (at : ℕ) (line : List ℕ) (l : Line) → check_of text line l s.opens ≡ fine → Ordered (after at line l s)
step s m text at line Empty c = m
step s m text at line (Begin name) c = begin s m at line name
step s m text at line BadBegin c = m
step s m text at line (End rest) c = record { opens = less s.opens m.opens; owned = m.owned; subtrees = m.subtrees }
step s m text at line (Content p) c = content s m at line p c
step s m text at line (Bad fault) c = m

all_lines : (text : List ℕ) (ls : List Placed) (s end : State) → Ordered s → read_lines text ls s ≡ finished end → Ordered end
unfolding read_lines
all_lines text [] s end m e = let q : s ≡ end = cc in rw (← q) m
all_lines text (l ∷ ls) s end m e =
    let line = line_of l.content in
    let g = goes_on (check_of text l.content line s.opens) l.start (read_lines text ls (after l.start l.content line s)) end e in
    all_lines text ls (after l.start l.content line s) end (step s m text l.start l.content line g.0) g.1

-- the rows of a text that is read to the end are in order
pub in_order_holds : (text : List ℕ) (s : State) → run_of text ≡ finished s → in_order s.components s.properties ≡ true
in_order_holds text s e =
    let m = all_lines text (lines_from 0 text) nothing s start e in
    in_order_if s.components s.properties m.owned
    (λ row i d r h o. stands s.components s.properties row i d h o (λ k j b c f. rw o at (m.subtrees k j i d b c h (rw o f))))

-- so are those of every readable feed
pub readable_in_order : {feed : List ℕ} {s : State} → Readable feed s → in_order s.components s.properties ≡ true
readable_in_order {feed} {s} r = in_order_holds (unfolded feed) s r.reads

-- and those that a reading answered Done leaves at the front of the buffers, lent on by themselves
pub done_in_order : (feed : List ℕ) (b : Lent) → (read_into feed b).answer ≡ done → in_order_in (told_of (read_into feed b) (left feed b)) ≡ true
done_in_order feed b e =
    let w = done_readable feed b e in
    let t = told_rows w.2 in
    rw (t.components, t.properties) (readable_in_order w.1)
