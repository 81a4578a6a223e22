-- The lines of trees, read one after the other: every line may stand where it does, and the rows show the trees. Assumes nothing.
use mathlib.Core.Path.{◌≡◌, refl, ◌∙◌}
use mathlib.Core.Bool.{true}
use mathlib.Core.List.{List, [], ◌∷◌, ◌++◌, map, append_assoc, append-nil}
use Prim.Native.Nat.{ℕ, zero, suc, ◌+◌, ◌<◌}
use native.Mathlib.Omega.{arith}
use lib.ListN.{length, drop, length-append}
use lib.Seq.{take-append_seam, drop-append_seam}
use borrow.Author.Tests.{lt-ltb, le-leb}
use Rattle.octets.specs.Answers.{deepest}
use Rattle.octets.specs.Bytes.{cr, lf}
use Rattle.octets.specs.Views.{viewed}
use Rattle.octets.specs.All.{All}
use Rattle.octets.proofs.Words.{same_refl}
use Rattle.parameters.specs.Parameters.{params_after}
use Rattle.parameters.specs.Values.{span}
use Rattle.parameters.specs.declared.Param.{Param}
use Rattle.lines.specs.Rule.{line_of, after_begin, after_end, begin_mark, end_mark}
use Rattle.lines.specs.declared.Line.{Line}
use Rattle.lines.specs.declared.Line.TheVariants.{Begin, End}
use Rattle.lines.specs.declared.Property as found
use Rattle.tables.specs.Rows.{no_parent}
use Rattle.tables.specs.Sizes.{component_count}
use Rattle.tables.specs.Trees.{Parameter, Property, Trees, none, tree, parameter_of}
use Rattle.tables.specs.declared.ComponentRow.{ComponentRow}
use Rattle.tables.specs.declared.PropertyRow.{PropertyRow}
use Rattle.tables.specs.declared.ParameterRow.{ParameterRow}
use Rattle.nesting.specs.Rows.{top, entry, component_row, property_row, parameter_row, parameter_rows}
use Rattle.nesting.specs.Steps.{State, nothing, check_of, closed, after, Run, read_lines, fine}
use Rattle.nesting.specs.declared.Entry.{Entry}
use Rattle.writable.specs.WritingRule.{name_fits}
use Rattle.printing.specs.Lines.{begin_line, end_line, property_line}
use Rattle.demands.specs.Returning.{lines_of, plain_lines, placed_from, FitProperty, Fit, Shallow, Scanned, Nests}
use Rattle.demands.proofs.Scanning.{begin_line_holds, end_line_holds, scanned}
use Rattle.demands.proofs.RowsFit.{its_property}
use Rattle.demands.proofs.Shown.{property_with, Parameters, Properties, Rows, component_rows, property_rows, parameter_rows_holds}
use Rattle.demands.proofs.Shown.Parameters.{no_parameter, parameter}
use Rattle.demands.proofs.Shown.Properties.{no_property, property}
use Rattle.demands.proofs.Shown.Rows.{no_tree, a_tree}
use Rattle.demands.proofs.Regrowing.{whole_back}

-- a part is seen where it stands
seen : (before part behind : List ℕ) (start len : ℕ) → start ≡ length before → len ≡ length part → viewed (before ++ (part ++ behind)) start len ≡ part
seen before part behind start len s n =
    let e : length (before ++ (part ++ behind)) ≡ length before + (length part + length behind) = simp length-append in
    rw (s, n, le-leb (length before + length part) (length (before ++ (part ++ behind))) (omega arith), drop-append_seam, take-append_seam)

-- ---- one line

module _ (text : List ℕ) where
  -- the run is that of these lines, from where they stand in the text on, in the state s
  record Reads (r : Run) (ls : List (List ℕ)) (s : State) : Type 0 where
    before : List ℕ
    split : text ≡ before ++ plain_lines ls
    same : r ≡ read_lines text (placed_from (length before) ls) s

  -- a line of which it is known what it is
  passed : {r : Run} (l : List ℕ) {ls : List (List ℕ)} {s : State} (w : Reads r (l ∷ ls) s) {k : Line} → line_of l ≡ k → check_of text l k s.opens ≡ fine
      → Reads r ls (after (length w.before) l k s)
  unfolding plain_lines placed_from read_lines
  passed l {ls} {s} w {k} e c =
      let n : length (w.before ++ (l ++ cr ∷ lf ∷ [])) ≡ length w.before + length l + 2 = simp length-append (omega arith) in
      record {
        before = w.before ++ (l ++ cr ∷ lf ∷ []);
        split = w.split ∙ simp append_assoc;
        same = w.same ∙ rw (e, c, n);
      }

-- ---- what BEGIN, END and a property line show

-- behind END the name is seen
end_seen : (name : List ℕ) → viewed (end_line name) after_end (length name) ≡ name
end_seen name = rw append-nil at (seen end_mark name [] after_end (length name) refl refl)

-- behind BEGIN too, wherever the line stands in a text
name_seen : (text name before behind : List ℕ) → text ≡ before ++ (begin_line name ++ behind) → viewed text (length before + after_begin) (length name) ≡ name
name_seen text name before behind e =
    rw (e, ← append_assoc before begin_mark (name ++ behind))
    (seen (before ++ begin_mark) name behind (length before + after_begin) (length name) (simp length-append) refl)

-- the rows of a property line show the property
property_seen : (text before behind : List ℕ) (x : Property) (q : found.Property) (owner : ℕ) → Scanned x q → text ≡ before ++ (property_line x ++ behind)
    → property_with text (property_row owner (length before) q) x.parameters ≡ x
property_seen text before behind x q owner s e = rw (e, s.key before behind, s.value before behind)

-- rows that are made of parameters of a line show these
parameters_show : (text : List ℕ) (number : ℕ) (ps : List Param) (xs : List Parameter) → map (parameter_of text) (map (parameter_row number) ps) ≡ xs
    → Parameters text number xs (map (parameter_row number) ps)
parameters_show text number ps xs e = rw (← e) (go ps)
  where
    go : (ps : List Param) → Parameters text number (map (parameter_of text) (map (parameter_row number) ps)) (map (parameter_row number) ps)
    go [] = no_parameter
    go (p ∷ ps) = parameter (parameter_row number p) (its_property number p.key p.value) (go ps)

parameters_seen : (text before behind : List ℕ) (x : Property) (q : found.Property) (number : ℕ) → Scanned x q → text ≡ before ++ (property_line x ++ behind)
    → Parameters text number x.parameters (parameter_rows number (length before) (property_line x) q)
parameters_seen text before behind x q number s e =
    parameters_show text number (params_after (length before + q.key.len) 0 (drop q.key.len (property_line x))) x.parameters
    (rw e (s.parameters before behind number))

-- ---- states

-- the state with more rows
abbrev with_properties : State → List PropertyRow → List ParameterRow → State
with_properties s ps qs =
    record { opens = s.opens; components = s.components; properties = s.properties ++ ps; parameters = s.parameters ++ qs }

abbrev with_rows : State → List ComponentRow → List PropertyRow → List ParameterRow → State
with_rows s cs ps qs =
    record { opens = s.opens; components = s.components ++ cs; properties = s.properties ++ ps; parameters = s.parameters ++ qs }

-- BEGIN at `at`: what is open from then on, its row, and the state with both
abbrev marked : State → ℕ → List ℕ → Entry
marked s at name = entry (length s.components) at (span after_begin (length name))

abbrev rowed : State → ℕ → List ℕ → ComponentRow
rowed s at name = component_row (top s.opens) (length s.opens + 1) (marked s at name)

abbrev with_open : State → ℕ → List ℕ → State
with_open s at name =
    record { opens = marked s at name ∷ s.opens; components = s.components ++ rowed s at name ∷ []; properties = s.properties; parameters = s.parameters }

-- END: the innermost component is closed
abbrev with_end : State → State
with_end s = record { opens = closed s.opens; components = s.components; properties = s.properties; parameters = s.parameters }

-- ---- properties and trees

module _ (text : List ℕ) where
  -- the properties of the innermost component are read, and then the lines ls come
  record Owned (r : Run) (ls : List (List ℕ)) (s : State) (xs : List Property) : Type 0 where
    ps : List PropertyRow
    qs : List ParameterRow
    rows : Properties text (top s.opens) (length s.properties) xs ps qs
    on : Reads text r ls (with_properties s ps qs)

  -- properties are read where a component is open
  own_read : (xs : List Property) {r : Run} {ls : List (List ℕ)} {s : State} (e : Entry) (es : List Entry) → All FitProperty xs → s.opens ≡ e ∷ es
      → Reads text r (map property_line xs ++ ls) s → Owned r ls s xs
  unfolding All plain_lines
  own_read [] e es fit o w = record { ps = []; qs = []; rows = no_property; on = simp append-nil w }
  own_read (x ∷ xs) {r} {ls} {s} e es fit o w =
      let q = scanned x fit.0 in
      let next = passed text (property_line x) w q.1.line (rw o) in
      let row : PropertyRow = property_row (top s.opens) (length w.before) q.0 in
      let own = own_read xs e es fit.1 o next in
      record {
        ps = row ∷ own.ps;
        qs = parameter_rows (length s.properties) (length w.before) (property_line x) q.0 ++ own.qs;
        rows =
            property row refl (property_seen text w.before _ x q.0 (top s.opens) q.1 w.split)
            (parameters_seen text w.before _ x q.0 (length s.properties) q.1 w.split)
            (rw length-append at own.rows);
        on = simp append_assoc at own.on;
      }

  -- trees are read below the innermost component, and then the lines ls come
  record Grown (r : Run) (ls : List (List ℕ)) (s : State) (ts : Trees) : Type 0 where
    cs : List ComponentRow
    ps : List PropertyRow
    qs : List ParameterRow
    rows : Rows text (top s.opens) (length s.components) (length s.properties) ts cs ps qs
    on : Reads text r ls (with_rows s cs ps qs)

  module _ (name : List ℕ) (fit : name_fits name ≡ true) {r : Run} {ls : List (List ℕ)} {s : State} where
    -- BEGIN opens a component where fewer than 64 are open
    begin_read : (w : Reads text r (begin_line name ∷ ls) s) → length s.opens < deepest
        → Reads text r ls (after (length w.before) (begin_line name) (Begin (span after_begin (length name))) s)
    begin_read w h = passed text (begin_line name) w (begin_line_holds name fit) (rw (lt-ltb (length s.opens) deepest h))

    -- END closes a component of this name
    end_read : (w : Reads text r (end_line name ∷ ls) s) (e : Entry) (es : List Entry) → s.opens ≡ e ∷ es → viewed text e.start e.len ≡ name
        → Reads text r ls (after (length w.before) (end_line name) (End (span after_end (length name))) s)
    end_read w e es o n = passed text (end_line name) w (end_line_holds name fit) (rw (o, n, end_seen name, same_refl name))

  module _ {r : Run} (s : State) (at : ℕ) (name : List ℕ) {xs : List Property} where
    -- a component is opened and its properties are read; then its children, and it is closed
    abbrev owning : {ls : List (List ℕ)} → Owned r ls (with_open s at name) xs → State
    owning own = with_properties (with_open s at name) own.ps own.qs

    abbrev ending : {children : Trees} {ls₁ ls₂ : List (List ℕ)} (own : Owned r ls₁ (with_open s at name) xs) → Grown r ls₂ (owning own) children → State
    ending own kids = with_end (with_rows (owning own) kids.cs kids.ps kids.qs)

    -- all of these rows, and those of the trees behind, show the tree before these trees
    one_read : {children rest : Trees} {ls₁ ls₂ ls : List (List ℕ)} → viewed text (at + after_begin) (length name) ≡ name
        → (own : Owned r ls₁ (with_open s at name) xs) (kids : Grown r ls₂ (owning own) children)
        → Grown r ls (ending own kids) rest → Grown r ls s (tree name xs children rest)
    one_read n own kids later =
        let a = length-append s.components (rowed s at name ∷ []) in
        let b = length-append s.properties own.ps in
        let c = length-append (s.components ++ rowed s at name ∷ []) kids.cs in
        let d = length-append (s.properties ++ own.ps) kids.ps in
        record {
          cs = rowed s at name ∷ (kids.cs ++ later.cs);
          ps = own.ps ++ (kids.ps ++ later.ps);
          qs = own.qs ++ (kids.qs ++ later.qs);
          rows = a_tree (rowed s at name) refl n own.rows (rw (a, b) at kids.rows) (rw (c, d, a, b) at later.rows);
          on = simp append_assoc at later.on;
        }

    -- the trees behind are read where the same components are open as before
    closed_read : {children rest : Trees} {ls₁ ls₂ ls : List (List ℕ)} → name_fits name ≡ true → viewed text (at + after_begin) (length name) ≡ name
        → (own : Owned r ls₁ (with_open s at name) xs) → Grown r (end_line name ∷ ls₂) (owning own) children
        → ((s' : State) → s'.opens ≡ s.opens → Reads text r ls₂ s' → Grown r ls s' rest) → Grown r ls s (tree name xs children rest)
    closed_read fit n own kids later =
        one_read n own kids (later (ending own kids) refl (end_read name fit kids.on (marked s at name) s.opens refl n))

  -- trees are read where so many levels are left that they may nest as deep as they do
  trees_read : (ts : Trees) (level : ℕ) {r : Run} {ls : List (List ℕ)} (s : State) → Fit ts → Shallow level ts → length s.opens + level ≡ deepest
      → Reads text r (lines_of ts ++ ls) s → Grown r ls s ts
  unfolding lines_of plain_lines Fit Shallow
  trees_read none level s fit h d w = record { cs = []; ps = []; qs = []; rows = no_tree; on = simp append-nil w }
  trees_read (tree name xs children rest) zero s fit h d w = absurd h
  trees_read (tree name xs children rest) (suc level) {r} {ls} s fit h d w =
      let w₀ : Reads text r (begin_line name ∷ (map property_line xs ++ (lines_of children ++ (end_line name ∷ (lines_of rest ++ ls))))) s = simp append_assoc at w in
      let at : ℕ = length w₀.before in
      let own = own_read xs (marked s at name) s.opens fit.1 refl (begin_read name fit.0 w₀ (omega arith)) in
      closed_read s at name fit.0 (name_seen text name w₀.before _ w₀.split) own
      (trees_read children level (owning s at name own) fit.2 h.0 (omega arith) own.on)
      (λ s' o v. trees_read rest (suc level) s' fit.3 h.1 (rw o d) v)

  -- ---- all lines

  -- nothing stands before them, and nothing comes behind
  all_read : (ts : Trees) → Fit ts → Shallow deepest ts → text ≡ plain_lines (lines_of ts)
      → Grown (read_lines text (placed_from 0 (lines_of ts)) nothing) [] nothing ts
  all_read ts fit h e =
      trees_read ts deepest nothing fit h refl
      record { before = []; split = rw append-nil e; same = rw append-nil }

-- the lines of trees that fit the writing rule, nest no deeper than 64 and are few enough for the parent 4294967295 to be none of them
module _ (ts : Trees) (fit : Fit ts) (shallow : Shallow deepest ts) (few : component_count ts < no_parent) where
  pub nests : (s : State) × Nests ts s
  unfolding read_lines placed_from
  nests = go (all_read (plain_lines (lines_of ts)) ts fit shallow refl)
    where
      go : Grown (plain_lines (lines_of ts)) (read_lines (plain_lines (lines_of ts)) (placed_from 0 (lines_of ts)) nothing) [] nothing ts → (s : State) × Nests ts s
      go g = (
        with_rows nothing g.cs g.ps g.qs,
        record {
          runs = g.on.same;
          closed = refl;
          trees = whole_back (plain_lines (lines_of ts)) g.rows shallow (omega (arith, component_rows g.rows));
          components = component_rows g.rows;
          properties = property_rows g.rows;
          parameters = parameter_rows_holds g.rows;
        },
      )
