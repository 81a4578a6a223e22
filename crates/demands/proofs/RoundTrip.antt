-- The round trip (document 01, demand 2): what the writer accepts, written and read again, gives the same trees. Assumes nothing.
use mathlib.Core.Path.{◌≡◌, sym, ap, ◌∙◌}
use mathlib.Core.List.{List, [], ◌∷◌, ◌++◌, map}
use Prim.Native.Nat.{ℕ, ◌≤◌, ◌<◌}
use native.Mathlib.Omega.{arith}
use lib.ListN.{length, length-append}
use borrow.Author.Tests.{le-leb}
use Rattle.std.specs.Prelude.{None}
use Rattle.octets.specs.Bytes.{cr, lf}
use Rattle.octets.specs.Answers.{longest, deepest, done}
use Rattle.unfolding.specs.Unfold.{unfolded}
use Rattle.lines.specs.Split.{lines_from}
use Rattle.tables.specs.Rows.{no_parent}
use Rattle.tables.specs.Trees.{Trees, none, tree}
use Rattle.tables.specs.Sizes.{component_count, property_count, parameter_count}
use Rattle.tables.specs.Lent.{Lent, components_in, properties_in, parameters_in, broken_in, trees_in, tree_in}
use Rattle.tables.proofs.Rule.{meets}
use Rattle.tables.proofs.Nested.{rows_nested}
use Rattle.walking.proofs.Siblings.{end_within}
use Rattle.walking.proofs.Sizes.{tree_components, all_components, all_properties, all_parameters}
use Rattle.nesting.specs.Steps.{State, nothing, read_lines, finished}
use Rattle.reading.specs.Lent.{read_into, left}
use Rattle.reading.specs.declared.Reading.{Reading}
use Rattle.printing.specs.Lines.{end_line, property_line, written}
use Rattle.writing.specs.Answers.{written_in, write_answer, write_out}
use Rattle.twins.specs.Answers.{levels}
use Rattle.demands.specs.Lent.{told_of}
use Rattle.demands.specs.Outputs.{told_bytes}
use Rattle.demands.specs.Readable.{ReadTo}
use Rattle.demands.specs.Returning.{Fit, Shallow, Nests, ReadsBack, Enough, lines_of, plain_lines, placed_from}
use Rattle.demands.proofs.Outputs.{at_front}
use Rattle.demands.proofs.Readable.{readable_done}
use Rattle.demands.proofs.Scanning.{plain_lines_holds}
use Rattle.demands.proofs.Lining.{written_lines, unfolds, splits_all, shorter}
use Rattle.demands.proofs.Nesting.{nests}
use Rattle.demands.proofs.Fitting.{accepted_fit, accepted_row, shallow, shallow_row, accepted}
use Rattle.demands.proofs.MeetsRule.{told_rows}

-- ---- trees

-- a line has a byte at least, with its break
lines_long : (ls : List (List ℕ)) → length ls ≤ length (plain_lines ls)
unfolding plain_lines
lines_long [] = omega arith
lines_long (l ∷ ls) = omega (arith, lines_long ls, length-append l (cr ∷ lf ∷ plain_lines ls))

-- and a component a line
few_components : (ts : Trees) → component_count ts ≤ length (lines_of ts)
unfolding lines_of component_count
few_components none = omega arith
few_components (tree name properties children rest) =
    let inner = lines_of children ++ (end_line name ∷ lines_of rest) in
    omega (
      arith,
      few_components children,
      few_components rest,
      length-append (map property_line properties) inner,
      length-append (lines_of children) (end_line name ∷ lines_of rest),
    )

text_is : (ts : Trees) → Fit ts → unfolded (written ts) ≡ plain_lines (lines_of ts)
text_is ts fit = ap unfolded (written_lines ts) ∙ unfolds (lines_of ts) (plain_lines_holds ts fit)

lines_are : (ts : Trees) → Fit ts → lines_from 0 (plain_lines (lines_of ts)) ≡ placed_from 0 (lines_of ts)
lines_are ts fit = splits_all (lines_of ts) (plain_lines_holds ts fit)

-- trees that are written alike are the same: what is written is a key by which they are found again
pub same_written : (ts us : Trees) → Fit ts → Fit us → Shallow deepest ts → Shallow deepest us → component_count ts < no_parent → component_count us < no_parent
    → written ts ≡ written us → ts ≡ us
same_written ts us f g l m c d e = as_one (nests ts f l c).0 (nests us g m d).0 (nests ts f l c).1 (nests us g m d).1
  where
    text : plain_lines (lines_of ts) ≡ plain_lines (lines_of us)
    text = sym (text_is ts f) ∙ (ap unfolded e ∙ text_is us g)

    as_one : (s t : State) → Nests ts s → Nests us t → ts ≡ us
    as_one s t n k =
        let runs : read_lines (plain_lines (lines_of us)) (lines_from 0 (plain_lines (lines_of us))) nothing ≡ finished s = rw text at (rw (← lines_are ts f) at n.runs) in
        let runs' : read_lines (plain_lines (lines_of us)) (lines_from 0 (plain_lines (lines_of us))) nothing ≡ finished t = rw (lines_are us g) k.runs in
        let same : s ≡ t = cc in
        sym n.trees ∙ (rw (text, same) k.trees)

module _ (ts : Trees) (fit : Fit ts) (low : Shallow deepest ts) (some : 0 < component_count ts) (short : length (written ts) ≤ longest) where
  text_short : length (unfolded (written ts)) ≤ length (written ts)
  text_short = omega (arith, ap length (text_is ts fit), shorter (lines_of ts), ap length (written_lines ts))

  as_written : (s : State) → Nests ts s → ReadsBack ts s
  as_written s n =
      record {
        readable = record {
          short = short;
          reads = rw (text_is ts fit, lines_are ts fit) n.runs;
          closed = n.closed;
          some = omega (arith, n.components);
        };
        trees = rw (text_is ts fit) n.trees;
        components = n.components;
        properties = n.properties;
        parameters = n.parameters;
      }

  -- trees that fit are read back from what is written of them, with a row for each component, property and parameter
  pub read_back : (s : State) × ReadsBack ts s
  read_back =
      let few : component_count ts < no_parent = omega (arith, few_components ts, lines_long (lines_of ts), ap length (text_is ts fit), text_short) in
      let n = nests ts fit low few in
      (n.0, as_written n.0 n.1)

-- ---- tables

-- what the writer lays, if it answers Done
told_written : (b : Lent) (old : List ℕ) → (write_answer b (length old)).answer ≡ done → told_bytes (write_answer b (length old)) (write_out b old) ≡ written_in b
unfolding write_answer
told_written b old e =
    let a = accepted b (length old) e in
    let fits = le-leb _ _ a.2 in
    rw (a.0, a.1, fits) (at_front (written_in b) old (rw (a.0, a.1, fits) at e))

module _ (b : Lent) (sound : broken_in b ≡ None) where
  component_rows : component_count (trees_in b) ≡ length (components_in b.components)
  component_rows = all_components b.text (components_in b.components) (properties_in b.properties) (parameters_in b.parameters) (length b.text) sound

  property_rows : property_count (trees_in b) ≡ length (properties_in b.properties)
  property_rows = all_properties b.text (components_in b.components) (properties_in b.properties) (parameters_in b.parameters) (length b.text) sound

  parameter_rows_holds : parameter_count (trees_in b) ≡ length (parameters_in b.parameters)
  parameter_rows_holds = all_parameters b.text (components_in b.components) (properties_in b.properties) (parameters_in b.parameters) (length b.text) sound

  some_component : 0 < component_count (trees_in b)
  some_component =
      omega (arith, component_rows, (meets (length b.text) (components_in b.components) (properties_in b.properties) (parameters_in b.parameters) sound).some)

module _ (b : Lent) (out : List ℕ) (e : (write_answer b (length out)).answer ≡ done) where
  back : (s : State) × ReadsBack (trees_in b) s
  back =
      let a = accepted b (length out) e in
      read_back (trees_in b) (accepted_fit b a.1) (shallow b) (some_component b a.0) a.2

  room_enough : (s : State) → ReadsBack (trees_in b) s → (b' : Lent) → Enough b b' → ReadTo (written_in b) b' s
  room_enough s k b' r =
      let a = accepted b (length out) e in
      readable_done (written_in b) b' s k.readable
      (omega (arith, r.text, text_short (trees_in b) (accepted_fit b a.1) (shallow b) (some_component b a.0) a.2))
      (record {
        components = omega (arith, r.components, k.components, component_rows b a.0);
        properties = omega (arith, r.properties, k.properties, property_rows b a.0);
        parameters = omega (arith, r.parameters, k.parameters, parameter_rows_holds b a.0);
      })

  read_again : (s : State) → ReadsBack (trees_in b) s → (b' : Lent) → ReadTo (written_in b) b' s
      → ((read_into (written_in b) b').answer ≡ done) × (trees_in (told_of (read_into (written_in b) b') (left (written_in b) b')) ≡ trees_in b)
  read_again s k b' t =
      let told = told_rows t in
      (ap (λ (r : Reading). r.answer) t.numbers, rw (told.text, told.components, told.properties, told.parameters) k.trees)

  -- what the writer accepts, written and then read with room enough, is answered Done, and stands for the same trees
  pub round_trip : (b' : Lent) → Enough b b' →
      let feed = told_bytes (write_answer b (length out)) (write_out b out) in
      ((read_into feed b').answer ≡ done) × (trees_in (told_of (read_into feed b') (left feed b')) ≡ trees_in b)
  round_trip b' r = rw (told_written b out e) (read_again back.0 back.1 b' (room_enough back.0 back.1 b' r))

-- so what was read, and is accepted by the writer, can be written and read again to the same trees
module _ (feed : List ℕ) (b : Lent) where
  pub read_write_read : (out : List ℕ) →
      let t = told_of (read_into feed b) (left feed b) in
      (write_answer t (length out)).answer ≡ done → (b' : Lent) → Enough t b' →
      let again = told_bytes (write_answer t (length out)) (write_out t out) in
      ((read_into again b').answer ≡ done) × (trees_in (told_of (read_into again b') (left again b')) ≡ trees_in t)
  read_write_read out e b' r = round_trip (told_of (read_into feed b) (left feed b)) out e b' r

-- ---- the written form as a key

-- accepted tables have few rows
few_rows : (b : Lent) (room : ℕ) → (write_answer b room).answer ≡ done → length (components_in b.components) ≤ longest
few_rows b room e =
    let a = accepted b room e in
    let ts = trees_in b in
    omega (arith, component_rows b a.0, few_components ts, lines_long (lines_of ts), shorter (lines_of ts), ap length (written_lines ts), a.2)

few_below : (b : Lent) (room : ℕ) → (write_answer b room).answer ≡ done → (row : ℕ) → row < length (components_in b.components)
    → component_count (tree_in b levels row) < no_parent
few_below b room e row h =
    let a = accepted b room e in
    let sound = (meets (length b.text) (components_in b.components) (properties_in b.properties) (parameters_in b.parameters) a.0).components_fit in
    let nested = rows_nested (components_in b.components) (length b.text) sound row h in
    let size = tree_components b.text (components_in b.components) (properties_in b.properties) (parameters_in b.parameters) (length b.text) sound levels row h
    (omega (arith, nested.some)) in
    omega (arith, size, few_rows b room e, end_within (components_in b.components) row h)

module _ (b b' : Lent) (room room' : ℕ) (e : (write_answer b room).answer ≡ done) (e' : (write_answer b' room').answer ≡ done) where
  -- tables that are written alike stand for the same trees
  pub written_alike : written_in b ≡ written_in b' → trees_in b ≡ trees_in b'
  written_alike w =
      let a = accepted b room e in
      let a' = accepted b' room' e' in
      same_written (trees_in b) (trees_in b') (accepted_fit b a.1) (accepted_fit b' a'.1) (shallow b) (shallow b')
      (omega (arith, component_rows b a.0, few_rows b room e)) (omega (arith, component_rows b' a'.0, few_rows b' room' e')) w

  -- and so do two of their rows: what is written of a component is a key by which its copies are found, in whichever tables they stand
  pub written_key : (row row' : ℕ) → row < length (components_in b.components) → row' < length (components_in b'.components)
      → written (tree_in b levels row) ≡ written (tree_in b' levels row') → tree_in b levels row ≡ tree_in b' levels row'
  written_key row row' h h' w =
      let a = accepted b room e in
      let a' = accepted b' room' e' in
      same_written (tree_in b levels row) (tree_in b' levels row') (accepted_row b a.1 levels row h) (accepted_row b' a'.1 levels row' h')
      (shallow_row b levels row) (shallow_row b' levels row') (few_below b room e row h) (few_below b' room' e' row' h') w
