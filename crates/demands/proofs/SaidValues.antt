-- Quoted parts, lists of them and values, as the line grammar has them and as they are found. Assumes nothing.
use mathlib.Core.Path.{◌≡◌, refl, sym, ap, ◌∙◌}
use mathlib.Core.Bool.{Bool, true, false, not, ◌&&◌, false≢true}
use mathlib.Core.List.{List, [], ◌∷◌, ◌++◌, append_assoc}
use Prim.Native.Nat.{ℕ, zero, suc, ◌+◌, ◌-◌, ◌≤◌}
use native.Mathlib.Decide.{ℕ_discrete}
use native.Mathlib.Omega.{arith}
use lib.ListN.{length, get_or, drop, length-append}
use lib.Seq.{drop-append_seam, get_or-append-add, get_or-append_seam}
use lib.Dec.{eqb}
use borrow.Author.Tests.{eqb-true, eqb-false, ne_eqb}
use Rattle.octets.specs.Choice.{pick}
use Rattle.octets.specs.Bytes.{quote, comma, colon, bare, other, equals}
use Rattle.octets.specs.Runs.{run}
use Rattle.octets.proofs.Runs.{no_run, through}
use Rattle.parameters.specs.Values.{inside_len, quoted_len, further_after, further_len, form_of, form_used, span, value_at}
use Rattle.parameters.specs.declared.Form.{Form}
use Rattle.parameters.specs.declared.Form.TheVariants.{Nothing, Bare, Quoted, Listed}
use Rattle.parameters.specs.Parameters.{value_moved}
use Rattle.parameters.proofs.Values.{QuotedAt, quoted_is, quoted_has, quoted_none, quoted_le, further_skip, further_bare, form_nothing, form_bare, form_quoted, form_listed}
use Rattle.parameters.proofs.RoundTrip.{Ends}
use Rattle.tables.specs.declared.ParameterRow.{ParameterRow}
use Rattle.nesting.specs.Rows.{parameter_with}
use Rattle.demands.specs.LineGrammar.{Some, Inside, in_quotes, Further, last_part, next_part, Unquoted, Given, no_bytes, as_it_is, one_part, parts}
use Rattle.demands.proofs.SaidWords.{every_run, Split, split, begins}

-- ---- one quoted part

-- the closing quote belongs to what stands behind the inside
past_inside : (inside rest : List ℕ) → in_quotes inside ++ rest ≡ quote ∷ (inside ++ quote ∷ rest)
past_inside inside rest = ap (◌∷◌ quote) (append_assoc inside (quote ∷ []) rest)

size_quoted : (inside : List ℕ) → length (in_quotes inside) ≡ length inside + 2
size_quoted inside = omega (arith, length-append inside (quote ∷ []))

module _ (inside rest : List ℕ) (i : Inside inside) where
  inside_size : inside_len (quote ∷ (inside ++ quote ∷ rest)) ≡ length inside
  inside_size =
      omega (arith, through (other quote) inside (quote ∷ rest) (every_run (other quote) inside i.every), no_run (other quote) (quote ∷ rest) 0 refl)

  quoted_here : QuotedAt (quote ∷ (inside ++ quote ∷ rest))
  quoted_here =
      let next : 1 + length inside ≡ suc (length inside) = omega arith in
      record { opens = refl; inside = rw inside_size i.some; closes = rw (inside_size, next) (get_or-append_seam inside quote rest 0) }

  -- it is found with both quotes, and leaves the rest
  pub quoted_size : quoted_len (in_quotes inside ++ rest) ≡ length (in_quotes inside)
  quoted_size = rw (past_inside inside rest, size_quoted inside) (quoted_is quoted_here ∙ rw inside_size)

-- where none is found, none stands
pub none_quoted : (xs : List ℕ) → quoted_len xs ≡ 0 → Unquoted xs
none_quoted xs none inside rest i e = let q = ap quoted_len e ∙ quoted_size inside rest i in omega (arith, size_quoted inside)

-- and what is found is one
pub record Part (xs : List ℕ) : Type 0 where
  pub inside : List ℕ
  pub rest : List ℕ
  pub is : xs ≡ in_quotes inside ++ rest
  pub clean : Inside inside
  pub size : quoted_len xs ≡ length (in_quotes inside)

pub quoted_part : (xs : List ℕ) → (quoted_len xs ≡ 0 → ⊥) → Part xs
quoted_part [] some = absurd (some (omega (arith, quoted_le [])))
quoted_part (x ∷ ys) some = go (quoted_has (x ∷ ys) some) (split (other quote) quote refl ys)
  where
    go : QuotedAt (x ∷ ys) → Split (other quote) quote ys → Part (x ∷ ys)
    go q s =
        let next : suc (length s.front + 0) ≡ 1 + inside_len (x ∷ ys) = omega (arith, s.size) in
        let closes : get_or s.back 0 0 ≡ quote =
        sym (get_or-append-add s.front s.back 0 0)
        ∙ ap (λ (zs : List ℕ). get_or zs (length s.front + 0) 0) (sym s.is)
        ∙ ap (λ (n : ℕ). get_or (x ∷ ys) n 0) next
        ∙ q.closes in
        let b = begins s.back closes in
        let is : x ∷ ys ≡ in_quotes s.front ++ b.0 =
        ap (λ (y : ℕ). y ∷ ys) q.opens
        ∙ ap (◌∷◌ quote) (s.is ∙ ap (λ (zs : List ℕ). s.front ++ zs) b.1)
        ∙ sym (past_inside s.front b.0) in
        let clean : Inside s.front = record { some = omega (arith, s.size, q.inside); every = s.every } in
        record { inside = s.front; rest = b.0; is = is; clean = clean; size = ap quoted_len is ∙ quoted_size s.front b.0 clean }

-- ---- further parts

-- behind a list stands no comma
pub ends_further : (rest : List ℕ) → Ends rest → further_len rest ≡ 0
unfolding further_after
ends_further [] e = refl
ends_further (x ∷ rest) e = further_bare x rest (λ q. false≢true (sym e ∙ ap bare q))

-- a comma and a quoted part, and the parts behind them
further_on : (inside rest : List ℕ) → Inside inside → further_len (comma ∷ (in_quotes inside ++ rest)) ≡ suc (length (in_quotes inside) + further_len rest)
unfolding further_after
further_on inside rest i =
    let n = quoted_size inside rest i in
    let some : quoted_len (in_quotes inside ++ rest) ≡ 0 → ⊥ = λ z. omega (arith, size_quoted inside) in
    rw (ne_eqb (quoted_len (in_quotes inside ++ rest)) 0 some, n)
    (ap suc
    (further_skip (length (in_quotes inside)) (in_quotes inside ++ rest) (omega (arith, length-append (in_quotes inside) rest))
    ∙ rw drop-append_seam))

-- all of them are found, with those behind them
pub further_size : {further : List ℕ} → Further further → (rest : List ℕ) → further_len (further ++ rest) ≡ length further + further_len rest
further_size (last_part {inside = inside} i) rest = omega (arith, further_on inside rest i)
further_size (next_part {inside = inside} {later = later} i f) rest =
    rw (append_assoc (in_quotes inside) later rest)
    (omega (arith, further_on inside (later ++ rest) i, further_size f rest, length-append (in_quotes inside) later))

-- and what is found are such parts
pub record Parts (xs : List ℕ) : Type 0 where
  pub further : List ℕ
  pub rest : List ℕ
  pub is : xs ≡ further ++ rest
  pub parts : Further further
  pub size : further_len xs ≡ length further

-- a quoted part behind a comma, and the parts that are found behind it, if there are any
parts_on : (xs : List ℕ) (q : Part xs) → ((further_len q.rest ≡ 0 → ⊥) → Parts q.rest) → Parts (comma ∷ xs)
parts_on xs q later = go (ℕ_discrete (further_len q.rest) 0)
  where
    one : comma ∷ xs ≡ comma ∷ (in_quotes q.inside ++ q.rest)
    one = ap (◌∷◌ comma) q.is

    size : further_len (comma ∷ xs) ≡ suc (length (in_quotes q.inside) + further_len q.rest)
    size = ap further_len one ∙ further_on q.inside q.rest q.clean

    go : Dec (further_len q.rest ≡ 0) → Parts (comma ∷ xs)
    go (yes z) =
        record { further = comma ∷ in_quotes q.inside; rest = q.rest; is = one; parts = last_part q.clean; size = omega (arith, size) }
    go (no some) =
        let ps = later some in
        record {
          further = comma ∷ (in_quotes q.inside ++ ps.further);
          rest = ps.rest;
          is =
              one
              ∙ ap (λ (ys : List ℕ). comma ∷ (in_quotes q.inside ++ ys)) ps.is
              ∙ ap (◌∷◌ comma) (sym (append_assoc (in_quotes q.inside) ps.further ps.rest));
          parts = next_part q.clean ps.parts;
          size = omega (arith, size, ps.size, length-append (in_quotes q.inside) ps.further);
        }

-- by a bound of the bytes that are left
pub further_parts : (n : ℕ) (xs : List ℕ) → length xs ≤ n → (further_len xs ≡ 0 → ⊥) → Parts xs
unfolding further_after
further_parts zero [] h some = absurd (some refl)
further_parts zero (x ∷ xs) h some = absurd (omega arith)
further_parts (suc n) [] h some = absurd (some refl)
further_parts (suc n) (x ∷ xs) h some = go (eqb x comma) (eqb (quoted_len xs) 0) refl refl some (λ ys l z. further_parts n ys l z)
  where
    go : (s t : Bool) → eqb x comma ≡ s → eqb (quoted_len xs) 0 ≡ t → (pick (s && not t) (suc (further_after (quoted_len xs) xs)) 0 ≡ 0 → ⊥)
        → ((ys : List ℕ) → length ys ≤ n → (further_len ys ≡ 0 → ⊥) → Parts ys) → Parts (x ∷ xs)
    go true true p q some ih = absurd (some refl)
    go true false p q some ih =
        let one = quoted_part xs (eqb-false (quoted_len xs) 0 q) in
        let size : length xs ≡ length (in_quotes one.inside) + length one.rest = ap length one.is ∙ length-append (in_quotes one.inside) one.rest in
        rw (eqb-true x comma p) (parts_on xs one (ih one.rest (omega arith)))
    go false t p q some ih = absurd (some refl)

-- ---- the form of a value, by the grammar

no_quote : (rest : List ℕ) → Ends rest → get_or rest 0 0 ≡ quote → ⊥
no_quote [] e q = omega arith
no_quote (x ∷ rest) e q = false≢true (sym e ∙ ap bare q)

module _ (rest : List ℕ) (e : Ends rest) where
  pub nothing_is : Nothing ≡ form_of rest
  nothing_is = form_nothing rest (quoted_none rest (λ q. no_quote rest e q.opens)) (run bare rest) refl (no_run bare rest colon e)

  pub bare_is : (value : List ℕ) → Some bare value → Unquoted (value ++ rest) → Bare (length value) ≡ form_of (value ++ rest)
  bare_is value s u =
      form_bare (value ++ rest) (unquoted (value ++ rest) u) (length value)
      (omega (arith, through bare value rest (every_run bare value s.every), no_run bare rest colon e))
      (λ z. omega (arith, s.some))
    where
      unquoted : (xs : List ℕ) → Unquoted xs → quoted_len xs ≡ 0
      unquoted xs u = go (ℕ_discrete (quoted_len xs) 0)
        where
          go : Dec (quoted_len xs ≡ 0) → quoted_len xs ≡ 0
          go (yes z) = z
          go (no some) = let q = quoted_part xs some in absurd (u q.inside q.rest q.clean q.is)

  pub quoted_is_one : (inside : List ℕ) → Inside inside → Quoted (length inside) ≡ form_of (in_quotes inside ++ rest)
  quoted_is_one inside i =
      let n = size_quoted inside in
      let less : length (in_quotes inside) - 2 ≡ length inside = omega arith in
      rw less at
      (form_quoted (in_quotes inside ++ rest) (length (in_quotes inside)) (sym (quoted_size inside rest i)) (λ z. omega arith) 0
      (rw drop-append_seam (sym (ends_further rest e))) refl)

  pub listed_is : (inside further : List ℕ) → Inside inside → Further further
      → Listed (length (in_quotes inside ++ further)) ≡ form_of ((in_quotes inside ++ further) ++ rest)
  listed_is inside further i f =
      let n = size_quoted inside in
      let more : length further ≡ 0 → ⊥ = λ z. some_further f z in
      rw (length-append (in_quotes inside) further, append_assoc (in_quotes inside) further rest)
      (form_listed (in_quotes inside ++ (further ++ rest)) (length (in_quotes inside)) (sym (quoted_size inside (further ++ rest) i)) (λ z. omega arith)
      (length further) (rw drop-append_seam (omega (arith, further_size f rest, ends_further rest e))) more)
    where
      some_further : {further : List ℕ} → Further further → length further ≡ 0 → ⊥
      some_further (last_part i) z = omega arith
      some_further (next_part i f) z = omega arith

-- ---- the value behind an `=`

abbrev pub row_with : ℕ → ℕ → ℕ → ℕ → ℕ → ℕ → ParameterRow
row_with number key size present start len =
    record { property = number; key_start = key; key_len = size; present = present; value_start = start; value_len = len }

row_is : (number key size : ℕ) {start start' len len' : ℕ} → start ≡ start' → len ≡ len' → row_with number key size 1 start len ≡ row_with number key size 1 start' len'
row_is number key size p q = cc

-- a value of this form behind the `=`, which stands at `place`: b bytes into what begins at `at`
module _ (at b place : ℕ) (there : place ≡ at + b) where
  pub record Formed (zs : List ℕ) (form : Form) : Type 0 where
    pub value : List ℕ
    pub rest : List ℕ
    pub present : ℕ
    pub start : ℕ
    pub len : ℕ
    pub is : zs ≡ value ++ rest
    pub used : form_used form ≡ length value
    pub given : Given place rest (equals ∷ value) present start len
    pub row : (number key size : ℕ) → parameter_with number (span key size) (value_moved at (value_at (b + 1) form)) ≡ row_with number key size present start len

  module _ (zs : List ℕ) where
    no_form : Formed zs Nothing
    no_form = record { value = []; rest = zs; present = 0; start = 0; len = 0; is = refl; used = refl; given = no_bytes; row = λ number key size. refl }

    bare_form : quoted_len zs ≡ 0 → (run bare zs ≡ 0 → ⊥) → Formed zs (Bare (run bare zs))
    bare_form none some =
        let s = split bare colon refl zs in
        record {
          value = s.front;
          rest = s.back;
          present = 1;
          start = place + 1;
          len = length s.front;
          is = s.is;
          used = sym s.size;
          given =
              as_it_is {value = s.front} (record { some = omega (arith, s.size); every = s.every })
              (λ inside rest i e. none_quoted zs none inside rest i (s.is ∙ e));
          row = λ number key size. row_is number key size (omega arith) (sym s.size);
        }

    quoted_form : (quoted_len zs ≡ 0 → ⊥) → Formed zs (Quoted (quoted_len zs - 2))
    quoted_form some =
        let q = quoted_part zs some in
        let n = size_quoted q.inside in
        record {
          value = in_quotes q.inside;
          rest = q.rest;
          present = 1;
          start = place + 2;
          len = length q.inside;
          is = q.is;
          used = omega (arith, q.size);
          given = one_part q.clean;
          row = λ number key size. row_is number key size (omega arith) (omega (arith, q.size));
        }

    listed_form : (quoted_len zs ≡ 0 → ⊥) → (further_len (drop (quoted_len zs) zs) ≡ 0 → ⊥) → Formed zs (Listed (quoted_len zs + further_len (drop (quoted_len zs) zs)))
    listed_form some more =
        let q = quoted_part zs some in
        let left : drop (quoted_len zs) zs ≡ q.rest =
        ap (λ (n : ℕ). drop n zs) q.size ∙ ap (drop (length (in_quotes q.inside))) q.is ∙ drop-append_seam (in_quotes q.inside) q.rest in
        let f = further_parts (length q.rest) q.rest (omega arith) (λ z. more (ap further_len left ∙ z)) in
        let size : quoted_len zs + further_len (drop (quoted_len zs) zs) ≡ length (in_quotes q.inside ++ f.further) =
        omega (arith, q.size, f.size, ap further_len left, length-append (in_quotes q.inside) f.further) in
        record {
          value = in_quotes q.inside ++ f.further;
          rest = f.rest;
          present = 1;
          start = place + 1;
          len = length (in_quotes q.inside ++ f.further);
          is = q.is ∙ ap (λ (ys : List ℕ). in_quotes q.inside ++ ys) f.is ∙ sym (append_assoc (in_quotes q.inside) f.further f.rest);
          used = size;
          given = parts q.clean f.parts;
          row = λ number key size'. row_is number key size' (omega arith) size;
        }

    -- what is found is such a value
    pub formed : Formed zs (form_of zs)
    unfolding form_of
    formed = go (eqb (quoted_len zs) 0) (eqb (run bare zs) 0) (eqb (further_len (drop (quoted_len zs) zs)) 0) refl refl refl
      where
        go : (s t u : Bool) → eqb (quoted_len zs) 0 ≡ s → eqb (run bare zs) 0 ≡ t → eqb (further_len (drop (quoted_len zs) zs)) 0 ≡ u
            → Formed zs (pick s (pick t Nothing (Bare (run bare zs))) (pick u (Quoted (quoted_len zs - 2)) (Listed (quoted_len zs + further_len (drop (quoted_len zs) zs)))))
        go true true u p q r = no_form
        go true false u p q r = bare_form (eqb-true (quoted_len zs) 0 p) (eqb-false (run bare zs) 0 q)
        go false t true p q r = quoted_form (eqb-false (quoted_len zs) 0 p)
        go false t false p q r = listed_form (eqb-false (quoted_len zs) 0 p) (eqb-false (further_len (drop (quoted_len zs) zs)) 0 r)
