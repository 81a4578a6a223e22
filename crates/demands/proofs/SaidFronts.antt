-- However a line goes on behind a key and its parameters, the reading passes over all their bytes; and what it passes over is a key and its parameters. Assumes nothing.
use mathlib.Core.Path.{◌≡◌, refl, sym, ap, ◌∙◌}
use mathlib.Core.Bool.{Bool, true, false}
use mathlib.Core.List.{List, [], ◌∷◌, ◌++◌, append_assoc}
use Prim.Native.Nat.{ℕ, suc, ◌+◌, ◌≤◌, ◌<◌, zero-le}
use native.Mathlib.Decide.{ℕ_discrete, dec_lt}
use native.Mathlib.Omega.{arith}
use lib.ListN.{length, get_or, take, drop, length-append, take-append-drop}
use lib.Seq.{take-append-le, take-append_seam, drop-append_seam}
use lib.Dec.{eqb}
use Rattle.std.specs.Prelude.{None}
use Rattle.octets.specs.Choice.{pick}
use Rattle.octets.specs.Bytes.{colon, semicolon, equals, blank, key_byte, bare}
use Rattle.octets.specs.Runs.{run}
use Rattle.octets.proofs.Runs.{no_run, through}
use Rattle.parameters.specs.Values.{quoted_len, further_len, form_of, form_used}
use Rattle.parameters.specs.Parameter.{key_end, without_value, with_form, param_of, front_of}
use Rattle.parameters.specs.Parameters.{params_after, params_used, passed_of}
use Rattle.parameters.specs.declared.Param.{Param}
use Rattle.parameters.proofs.Values.{quoted_is, quoted_has, form_bare, form_quoted, form_listed}
use Rattle.parameters.proofs.Laws.{found_is}
use Rattle.parameters.proofs.Lists.{turn, used_moved}
use Rattle.parameters.proofs.RoundTrip.{Ends}
use Rattle.tables.specs.declared.ParameterRow.{ParameterRow}
use Rattle.demands.specs.LineGrammar.{Every, Some, Inside, in_quotes, Unquoted, Given, no_value, no_bytes, as_it_is, one_part, parts, Parameters, no_parameter, parameter}
use Rattle.demands.specs.LineFaults.{Keyed, key_parameters}
use Rattle.demands.proofs.SaidWords.{every_run, split}
use Rattle.demands.proofs.SaidValues.{quoted_size, none_quoted, quoted_part, further_size}
use Rattle.demands.proofs.SaidParameters.{front_with, used_turned, found_all, ends_off, key_no_blank, no_gap, taken}
use Rattle.demands.proofs.SaidLines.{key_size}

-- ---- a shorter tail

-- only a value as it is looks at what stands behind it: a quoted part at the front of the shorter list is one at the front of the longer
shorter_given : {at present start len : ℕ} {value : List ℕ} (rest more : List ℕ) → Given at (rest ++ more) value present start len → Given at rest value present start len
shorter_given rest more no_value = no_value
shorter_given rest more no_bytes = no_bytes
shorter_given rest more (as_it_is {value = value} s u) =
    as_it_is s
    (λ inside left i e. u inside (left ++ more) i
    (sym (append_assoc value rest more) ∙ ap (λ (l : List ℕ). l ++ more) e ∙ append_assoc (in_quotes inside) left more))
shorter_given rest more (one_part i) = one_part i
shorter_given rest more (parts i f) = parts i f

pub shorter_tail : {number : ℕ} (tail more : List ℕ) {at : ℕ} {text : List ℕ} {rows : List ParameterRow} → Parameters number (tail ++ more) at text rows
    → Parameters number tail at text rows
shorter_tail tail more no_parameter = no_parameter
shorter_tail tail more (parameter blanks key {later = later} b k g ps) =
    parameter blanks key b k (shorter_given (later ++ tail) more (rw (← append_assoc later tail more) at g)) (shorter_tail tail more ps)

-- ---- how many bytes a value takes

-- a quoted part that is found in the longer list alone reaches beyond the shorter one
beyond : (front more : List ℕ) → Unquoted front → (quoted_len (front ++ more) ≡ 0 → ⊥) → length front ≤ quoted_len (front ++ more)
beyond front more u some = go (dec_lt (quoted_len (front ++ more)) (length front))
  where
    go : Dec (quoted_len (front ++ more) < length front) → length front ≤ quoted_len (front ++ more)
    go (yes l) =
        let q = quoted_part (front ++ more) some in
        let n = length (in_quotes q.inside) in
        let same : take n front ≡ in_quotes q.inside =
        sym (take-append-le n front more (omega (arith, q.size))) ∙ ap (take n) q.is ∙ take-append_seam (in_quotes q.inside) q.rest in
        absurd (u q.inside (drop n front) q.clean (sym (take-append-drop n front) ∙ ap (λ (l : List ℕ). l ++ drop n front) same))
    go (no l) = omega arith

-- a quoted part is taken with all the further ones
quoted_used : (xs : List ℕ) → (quoted_len xs ≡ 0 → ⊥) → form_used (form_of xs) ≡ quoted_len xs + further_len (drop (quoted_len xs) xs)
quoted_used xs some = go (ℕ_discrete (further_len (drop (quoted_len xs) xs)) 0)
  where
    go : Dec (further_len (drop (quoted_len xs) xs) ≡ 0) → form_used (form_of xs) ≡ quoted_len xs + further_len (drop (quoted_len xs) xs)
    go (yes z) =
        omega (arith, ap form_used (form_quoted xs (quoted_len xs) refl some (further_len (drop (quoted_len xs) xs)) refl z), quoted_is (quoted_has xs some))
    go (no more) = sym (ap form_used (form_listed xs (quoted_len xs) refl some (further_len (drop (quoted_len xs) xs)) refl more))

-- so the value that is then read takes all the bytes of the shorter list
bare_beyond : (value later more : List ℕ) → Unquoted (value ++ later) → (quoted_len (value ++ (later ++ more)) ≡ 0 → ⊥)
    → length value + length later ≤ form_used (form_of (value ++ (later ++ more)))
bare_beyond value later more u some =
    let far : length (value ++ later) ≤ quoted_len (value ++ (later ++ more)) =
    rw append_assoc at (beyond (value ++ later) more u (rw append_assoc some)) in
    omega (arith, length-append value later, quoted_used (value ++ (later ++ more)) some)

-- a value as it is takes its bytes at least, whatever stands behind it
bare_least : (value more : List ℕ) → Some bare value → Unquoted (value ++ []) → length value ≤ form_used (form_of (value ++ more))
bare_least value more s u = go (ℕ_discrete (quoted_len (value ++ more)) 0)
  where
    runs : run bare (value ++ more) ≡ length value + run bare more
    runs = through bare value more (every_run bare value s.every)

    go : Dec (quoted_len (value ++ more) ≡ 0) → length value ≤ form_used (form_of (value ++ more))
    go (yes z) = omega (arith, runs, ap form_used (form_bare (value ++ more) z (run bare (value ++ more)) refl (λ n. omega (arith, runs, s.some))))
    go (no some) = omega (arith, bare_beyond value [] more u some)

-- and so does a quoted part with further ones behind it
parts_least : (inside further more : List ℕ) → Inside inside → length further ≤ further_len (further ++ more)
    → length (in_quotes inside) + length further ≤ form_used (form_of (in_quotes inside ++ (further ++ more)))
parts_least inside further more i h =
    let n = quoted_size inside (further ++ more) i in
    let used = quoted_used (in_quotes inside ++ (further ++ more)) (λ z. omega arith) in
    let left : drop (quoted_len (in_quotes inside ++ (further ++ more))) (in_quotes inside ++ (further ++ more)) ≡ further ++ more =
    rw n (drop-append_seam (in_quotes inside) (further ++ more)) in
    omega (arith, ap further_len left)

-- ---- how many bytes a parameter takes

-- at least its `;`, its blanks and its key
key_used : (xs : List ℕ) → key_end xs ≤ (param_of xs).used
unfolding param_of
key_used xs = go (eqb (get_or xs (key_end xs) 0) equals)
  where
    go : (t : Bool) → key_end xs ≤ (pick t (with_form xs (form_of (drop (key_end xs + 1) xs))) (without_value xs)).used
    go true = omega arith
    go false = omega arith

-- those at the front of a line take what the first one takes, or more
first_used : (at : ℕ) (xs : List ℕ) → (param_of (semicolon ∷ xs)).used ≤ params_used (params_after at 0 (semicolon ∷ xs))
unfolding front_of params_used
first_used at xs = omega (arith, ap params_used (turn at (semicolon ∷ xs) (param_of (semicolon ∷ xs)) refl))

-- where the reading passes over all the later ones, it passes over this one and them
abbrev Reached : ℕ → List ℕ → List ℕ → List ℕ → List ℕ → List ℕ → Type 0
Reached at blanks key value later more =
    length later ≤ params_used (params_after (at + 1 + length blanks + length key + length value) 0 (later ++ more))
    → 1 + length blanks + length key + length value + length later ≤ params_used (params_after at 0 (semicolon ∷ (blanks ++ (key ++ (value ++ (later ++ more))))))

module _ (blanks key : List ℕ) (b : Every blank blanks) (k : Every key_byte key) where
  -- whatever stands behind the key
  key_least : (more : List ℕ) → 1 + length blanks + length key ≤ key_end (semicolon ∷ (blanks ++ (key ++ more)))
  key_least more = go key k
    where
      go : (key : List ℕ) → Every key_byte key → 1 + length blanks + length key ≤ key_end (semicolon ∷ (blanks ++ (key ++ more)))
      go [] k = omega (arith, through blank blanks more (every_run blank blanks b))
      go (x ∷ key) k =
          let n : 1 + run blank (blanks ++ (x ∷ key ++ more)) ≡ suc (length blanks) =
          omega (arith, through blank blanks (x ∷ key ++ more) (every_run blank blanks b), no_run blank (x ∷ key ++ more) 0 (key_no_blank x k.0)) in
          rw (n, drop-append_seam) (omega (arith, through key_byte (x ∷ key) more (every_run key_byte (x ∷ key) k)))

  -- an `=` behind the key
  with_value : (xs : List ℕ) → (param_of (semicolon ∷ (blanks ++ (key ++ equals ∷ xs)))).used ≡ 1 + length blanks + length key + 1 + form_used (form_of xs)
  with_value xs =
      let found = sym (front_with blanks key (equals ∷ xs) b k (no_gap key (equals ∷ xs) k refl) refl (form_of xs) refl refl) in
      ap (λ (p : Param). p.used) (found_is (semicolon ∷ (blanks ++ (key ++ equals ∷ xs))) found).1

  -- the last one takes its bytes at least
  last_least : {at present start len : ℕ} {value : List ℕ} (more : List ℕ) → Given at [] value present start len
      → 1 + length blanks + length key + length value ≤ (param_of (semicolon ∷ (blanks ++ (key ++ (value ++ more))))).used
  last_least more no_value = omega (arith, key_least more, key_used (semicolon ∷ (blanks ++ (key ++ more))))
  last_least more no_bytes = omega (arith, with_value more)
  last_least more (as_it_is {value = value} s u) = omega (arith, with_value (value ++ more), bare_least value more s u)
  last_least more (one_part {inside = inside} i) = omega (arith, with_value (in_quotes inside ++ more), parts_least inside [] more i (omega arith))
  last_least more (parts {inside = inside} {further = further} i f) =
      rw append_assoc
      (omega (
        arith,
        with_value (in_quotes inside ++ (further ++ more)),
        parts_least inside further more i (omega (arith, further_size f more)),
        length-append (in_quotes inside) further,
      ))

  -- one with another behind it is the same in the longer line, or a quoted part in it reaches beyond both
  module _ (number at : ℕ) (later more : List ℕ) (e : Ends (later ++ more)) where
    same_given : {present start len : ℕ} {value : List ℕ} → Given (at + 1 + length blanks + length key) (later ++ more) value present start len → Reached at blanks key value later more
    same_given {value = value} g h =
        let t = taken number at blanks key b k g e in
        omega (arith, used_turned number at blanks key value (later ++ more) t.1.shows t.1.found, t.1.shows.used)

    not_last : {present start len : ℕ} {value : List ℕ} → Given (at + 1 + length blanks + length key) later value present start len → Reached at blanks key value later more
    not_last no_value = same_given no_value
    not_last no_bytes = same_given no_bytes
    not_last (as_it_is {value = value} s u) = go (ℕ_discrete (quoted_len (value ++ (later ++ more))) 0)
      where
        go : Dec (quoted_len (value ++ (later ++ more)) ≡ 0) → Reached at blanks key (equals ∷ value) later more
        go (yes z) = same_given (as_it_is s (none_quoted (value ++ (later ++ more)) z))
        go (no some) = λ h. omega (
          arith,
          first_used at (blanks ++ (key ++ equals ∷ (value ++ (later ++ more)))),
          with_value (value ++ (later ++ more)),
          bare_beyond value later more u some,
        )
    not_last (one_part i) = same_given (one_part i)
    not_last (parts i f) = same_given (parts i f)

-- ---- how many bytes all of them take

-- where there are any, they begin with what ends a key and a parameter
some_end : {number at : ℕ} {text tail : List ℕ} {rows : List ParameterRow} → Parameters number tail at text rows → (length text ≡ 0 → ⊥) → (rest : List ℕ) → Ends (text ++ rest)
some_end no_parameter some rest = absurd (some refl)
some_end (parameter blanks key b k g ps) some rest = refl

-- however the line goes on behind them, the reading passes over all their bytes
pub reaches : {number at : ℕ} {text : List ℕ} {rows : List ParameterRow} → Parameters number [] at text rows → (later : List ℕ)
    → length text ≤ params_used (params_after at 0 (text ++ later))
reaches no_parameter more = zero-le
reaches {number} {at} (parameter blanks key {value = value} {later = later} b k g ps) more =
    let far = go later g ps (reaches ps more) in
    let regroup : (semicolon ∷ (blanks ++ (key ++ (value ++ later)))) ++ more ≡ semicolon ∷ (blanks ++ (key ++ (value ++ (later ++ more)))) = simp append_assoc in
    rw regroup (omega (arith, length-append blanks (key ++ (value ++ later)), length-append key (value ++ later), length-append value later))
  where
    go : {present start len : ℕ} {rows : List ParameterRow} (later : List ℕ) → Given (at + 1 + length blanks + length key) (later ++ []) value present start len
        → Parameters number [] (at + 1 + length blanks + length key + length value) later rows → Reached at blanks key value later more
    go [] g ps h = omega (arith, first_used at (blanks ++ (key ++ (value ++ more))), last_least blanks key b k more g)
    go (x ∷ later) g ps h = not_last blanks key b k number at (x ∷ later) more (some_end ps (λ z. omega arith) more) (shorter_given (x ∷ later) [] g) h

-- ---- a key and its parameters

-- the reading passes over all their bytes, whatever stands behind them
pub keyed_reaches : {front : List ℕ} → Keyed front → (rest : List ℕ)
    → length front ≤ run key_byte (front ++ rest) + (passed_of (drop (run key_byte (front ++ rest)) (front ++ rest))).used
keyed_reaches (key_parameters {key = key} {parameters = text} k ps) rest = rw (append_assoc key text rest) (go text ps (reaches ps rest))
  where
    go : {rows : List ParameterRow} (text : List ℕ) → Parameters 0 [] (length key) text rows → length text ≤ params_used (params_after (length key) 0 (text ++ rest))
        → length (key ++ text) ≤ run key_byte (key ++ (text ++ rest)) + (passed_of (drop (run key_byte (key ++ (text ++ rest))) (key ++ (text ++ rest)))).used
    go [] ps h = omega (arith, length-append key [], through key_byte key rest (every_run key_byte key k.every))
    go (x ∷ text) ps h =
        let off = ends_off key_byte refl refl x (some_end ps (λ z. omega arith) rest) in
        rw (key_size key (x ∷ text ++ rest) k.every off, drop-append_seam)
        (omega (arith, length-append key (x ∷ text), used_moved (length key) (x ∷ text ++ rest)))

-- and what the reading passes over is a key and its parameters, behind which no other one begins
pub record FrontOf (line : List ℕ) : Type 0 where
  pub front : List ℕ
  pub rest : List ℕ
  pub is : line ≡ front ++ rest
  pub keyed : Keyed front
  pub size : length front ≡ run key_byte line + (passed_of (drop (run key_byte line) line)).used
  pub no_more : front_of rest ≡ None

pub front_of_holds : (line : List ℕ) → (run key_byte line ≡ 0 → ⊥) → FrontOf line
front_of_holds line some =
    let s = split key_byte colon refl line in
    let f = found_all (length s.back) 0 (length s.front) s.back (omega arith) in
    let left : drop (run key_byte line) line ≡ s.back = rw (← s.size) (ap (drop (length s.front)) s.is ∙ drop-append_seam s.front s.back) in
    record {
      front = s.front ++ f.text;
      rest = f.tail;
      is = s.is ∙ ap (λ (l : List ℕ). s.front ++ l) f.is ∙ sym (append_assoc s.front f.text f.tail);
      keyed = key_parameters {key = s.front} (record { some = omega (arith, s.size); every = s.every }) (shorter_tail [] f.tail f.parameters);
      size = omega (arith, length-append s.front f.text, s.size, f.size, used_moved (length s.front) s.back, ap (λ (l : List ℕ). (passed_of l).used) left);
      no_more = f.no_more;
    }
