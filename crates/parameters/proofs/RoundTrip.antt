-- A parameter that was written is read back: its key, its value byte by byte, and nothing of what follows.
-- Assumes nothing.
use Prim.Native.Nat.{ℕ, zero, suc, ◌+◌, ◌-◌, ◌≤◌, ◌<◌}
use mathlib.Core.Path.{◌≡◌, refl, sym, ap, ◌∙◌}
use mathlib.Core.Bool.{Bool, true, false, not, ◌&&◌, ◌||◌}
use mathlib.Core.List.{List, [], ◌∷◌, ◌++◌, append_assoc}
use native.Mathlib.Omega.{arith}
use lib.ListN.{length, get_or, take, drop, length-append, length-drop, get_or-append}
use lib.Seq.{get_or-append_seam, get_or-append-add, drop-append-add, drop-append-le, take-append_seam, drop-append_seam, get_or-drop}
use lib.Dec.{eqb}
use borrow.Author.Tests.{eqb-true, eqb-false, not-true}
use Rattle.octets.specs.Choice.{pick}
use Rattle.octets.specs.Bytes.{quote, comma, colon, semicolon, blank, key_byte, other, bare}
use Rattle.octets.specs.Runs.{run}
use Rattle.octets.specs.Views.{part}
use Rattle.octets.proofs.Runs.{no_run, ends_inside, through, whole_head, whole_wider}
use Rattle.parameters.specs.declared.Form.{Form}
use Rattle.parameters.specs.declared.Form.TheVariants.{Nothing, Bare, Quoted, Listed}
use Rattle.parameters.specs.declared.Value.TheVariants.{Absent, Present}
use Rattle.std.specs.Prelude.{Some}
use Rattle.parameters.specs.Values.{inside_len, quoted_len, further_after, further_len, form_of, form_used, span, value_at, listed_all, is_list}
use Rattle.parameters.specs.Parameter.{key_offset, param, front_of}
use Rattle.parameters.proofs.Values.{QuotedAt, quoted_is, quoted_has, quoted_none, quoted_room, quoted_le, further_bare, form_bare, form_quoted, form_listed}
use Rattle.parameters.proofs.Laws.{front_bare, front_form}

-- what follows a parameter begins with `;` or `:`, or is nothing
abbrev pub Ends : List ℕ → Type 0
Ends tail = bare (get_or tail 0 colon) ≡ false

ends_key : (x : ℕ) → bare x ≡ false → (key_byte x ≡ false) × (blank x ≡ false)
ends_key x h = go (eqb x semicolon) (eqb x colon) refl refl (ap not h)
  where
    go : (s t : Bool) → eqb x semicolon ≡ s → eqb x colon ≡ t → not (not (s || t)) ≡ true → (key_byte x ≡ false) × (blank x ≡ false)
    go true t e f q = let is = eqb-true x semicolon e in (ap key_byte is, ap blank is)
    go false true e f q = let is = eqb-true x colon f in (ap key_byte is, ap blank is)
    go false false e f q = let z : ◌≡◌ {A = ℕ} 0 1 = cc in absurd (omega arith)

ends_no : (tail : List ℕ) → Ends tail → (b : ℕ) → bare (suc b) ≡ true → get_or tail 0 0 ≡ suc b → ⊥
ends_no [] e b h q = omega arith
ends_no (t ∷ tail) e b h q = let z : false ≡ true = sym e ∙ ap bare q ∙ h in let n : ◌≡◌ {A = ℕ} 0 1 = cc in omega arith

ends_further : (tail : List ℕ) → Ends tail → further_len tail ≡ 0
unfolding further_after
ends_further [] e = refl
ends_further (t ∷ tail) e = further_bare t tail (ends_no (t ∷ tail) e 43 refl)

-- ---- the key

key_no_blank : (x : ℕ) → key_byte x ≡ true → blank x ≡ false
key_no_blank x h = go (eqb x 32) (eqb x 9) refl refl
  where
    go : (s t : Bool) → eqb x 32 ≡ s → eqb x 9 ≡ t → s || t ≡ false
    go true t e f = sym h ∙ ap key_byte (eqb-true x 32 e)
    go false true e f = sym h ∙ ap key_byte (eqb-true x 9 f)
    go false false e f = refl

-- no blank stands before the key, and before what follows an empty one
key_starts : (k ys : List ℕ) → run key_byte k ≡ length k → blank (get_or ys 0 colon) ≡ false → run blank (k ++ ys) ≡ 0
key_starts [] ys keyed gap = no_run blank ys colon gap
key_starts (x ∷ k) ys keyed gap = no_run blank (x ∷ (k ++ ys)) 0 (key_no_blank x (whole_head key_byte x k keyed))

key_next : (k ys : List ℕ) (d : ℕ) → get_or (59 ∷ k ++ ys) (1 + length k) d ≡ get_or ys 0 d
key_next k ys d =
    let e : 1 + length k ≡ suc (length k + 0) = omega arith in
    rw e (get_or-append-add k ys 0 d)

key_bytes : (k ys : List ℕ) → part (59 ∷ k ++ ys) 1 (length k) ≡ k
key_bytes k ys = take-append_seam k ys

-- behind the `=` stands xs
behind : (k xs : List ℕ) (n : ℕ) → drop (1 + length k + 1 + n) (59 ∷ k ++ (61 ∷ xs)) ≡ drop n xs
behind k xs n =
    let e : 1 + length k + 1 + n ≡ suc (length k + suc n) = omega arith in
    rw e (drop-append-add k (61 ∷ xs) (suc n))

module _ (k : List ℕ) (keyed : run key_byte k ≡ length k) where
  module _ (ys : List ℕ) (off : key_byte (get_or ys 0 colon) ≡ false) (gap : blank (get_or ys 0 colon) ≡ false) where
    starts : 1 ≡ key_offset (59 ∷ k ++ ys)
    starts = omega (arith, key_starts k ys keyed gap)

    runs : length k ≡ run key_byte (k ++ ys)
    runs = omega (arith, through key_byte k ys keyed, no_run key_byte ys colon off)

  -- an absent value: the key alone is written
  pub reads_absent : (tail : List ℕ) → Ends tail → Some (param (span 1 (length k)) Absent (1 + length k)) ≡ front_of (59 ∷ k ++ tail)
  reads_absent tail e =
      let n = ends_key (get_or tail 0 colon) e in
      front_bare (59 ∷ k ++ tail) refl 1 (starts tail n.0 n.1) (length k) (runs tail n.0 n.1)
      (λ q. ends_no tail e 60 refl (sym (key_next k tail 0) ∙ q))

  reads_form : (xs : List ℕ) (form : Form) → form ≡ form_of xs
      → Some (param (span 1 (length k)) (value_at (1 + length k + 1) form) (1 + length k + 1 + form_used form)) ≡ front_of (59 ∷ k ++ (61 ∷ xs))
  reads_form xs form is =
      let z : 1 + length k + 1 + 0 ≡ 1 + length k + 1 = omega arith in
      front_form (59 ∷ k ++ (61 ∷ xs)) refl 1 (starts (61 ∷ xs) refl refl) (length k) (runs (61 ∷ xs) refl refl) (key_next k (61 ∷ xs) 0) form
      (is ∙ ap form_of (sym (rw z at (behind k xs 0))))

-- ---- the value

-- with quotes around it
abbrev pub wrapped : List ℕ → List ℕ
wrapped v = quote ∷ v ++ (quote ∷ [])

-- how a value may be written: as it is, in quotes, or as the list that it is
pub data Written (v : List ℕ) : List ℕ → Type 0 where
  plain : 0 < length v → run (other quote) v ≡ length v → run bare v ≡ length v → Written v v
  in_quotes : 0 < length v → run (other quote) v ≡ length v → Written v (wrapped v)
  list : is_list v ≡ true → Written v v

form_plain : (v tail : List ℕ) → 0 < length v → run (other quote) v ≡ length v → run bare v ≡ length v → Ends tail → Bare (length v) ≡ form_of (v ++ tail)
form_plain [] tail some clean all e = absurd (omega arith)
form_plain (x ∷ v) tail some clean all e =
    form_bare (x ∷ (v ++ tail))
    (quoted_none _ (λ q. eqb-false x quote (not-true _ (whole_head (other quote) x v clean)) q.opens))
    (length (x ∷ v))
    (omega (arith, through bare (x ∷ v) tail all, no_run bare tail colon e))
    (λ z. omega arith)

form_wrapped : (v tail : List ℕ) → 0 < length v → run (other quote) v ≡ length v → Ends tail → Quoted (length v) ≡ form_of (quote ∷ v ++ (quote ∷ tail))
form_wrapped v tail some clean e =
    let xs : List ℕ = quote ∷ (v ++ (quote ∷ tail)) in
    let inside : inside_len xs ≡ length v = omega (arith, through (other quote) v (quote ∷ tail) clean, no_run (other quote) (quote ∷ tail) 0 refl) in
    let next : 1 + length v ≡ suc (length v) = omega arith in
    let q : QuotedAt xs = record { opens = refl; inside = rw inside some; closes = rw (inside, next) (get_or-append_seam v quote tail 0) } in
    let past : length v + 2 ≡ suc (length v + 1) = omega arith in
    let rest : drop (length v + 2) xs ≡ tail = rw past (drop-append-add v (quote ∷ tail) 1) in
    let back : length v + 2 - 2 ≡ length v = omega arith in
    rw back at (form_quoted xs (length v + 2) (sym (quoted_is q ∙ rw inside)) (λ z. omega arith) 0 (rw rest (sym (ends_further tail e))) refl)

-- what it means to be a list
pub record ListOf (v : List ℕ) : Type 0 where
  pub first : quoted_len v ≡ 0 → ⊥
  pub more : further_len (drop (quoted_len v) v) ≡ 0 → ⊥
  pub whole : quoted_len v + further_len (drop (quoted_len v) v) ≡ length v

pub list_of : (v : List ℕ) → is_list v ≡ true → ListOf v
unfolding form_of
list_of v h = go (eqb (quoted_len v) 0) (eqb (run bare v) 0) (eqb (further_len (drop (quoted_len v) v)) 0) refl refl h
  where
    go : (s t u : Bool) → eqb (quoted_len v) 0 ≡ s → eqb (further_len (drop (quoted_len v) v)) 0 ≡ u
        → listed_all (pick s (pick t Nothing (Bare (run bare v))) (pick u (Quoted (quoted_len v - 2)) (Listed (quoted_len v + further_len (drop (quoted_len v) v))))) (length v) ≡ true
        → ListOf v
    go true true u e f q = let z : ◌≡◌ {A = ℕ} 0 1 = cc in absurd (omega arith)
    go true false u e f q = let z : ◌≡◌ {A = ℕ} 0 1 = cc in absurd (omega arith)
    go false t true e f q = let z : ◌≡◌ {A = ℕ} 0 1 = cc in absurd (omega arith)
    go false t false e f q = record { first = eqb-false _ _ e; more = eqb-false _ _ f; whole = eqb-true _ _ q }

quoted_append : (v tail : List ℕ) → (quoted_len v ≡ 0 → ⊥) → quoted_len (v ++ tail) ≡ quoted_len v
quoted_append [] tail some = absurd (some (omega (arith, quoted_le [])))
quoted_append (x ∷ v) tail some =
    let q = quoted_has (x ∷ v) some in
    let inside : inside_len (x ∷ (v ++ tail)) ≡ inside_len (x ∷ v) = ends_inside (other quote) v tail (omega (arith, quoted_room q)) in
    let closes : get_or (x ∷ (v ++ tail)) (1 + inside_len (x ∷ (v ++ tail))) 0 ≡ quote = rw inside (get_or-append (x ∷ v) tail 0 (1 + inside_len (x ∷ v)) (omega (arith, quoted_room q)) ∙ q.closes) in
    let long : QuotedAt (x ∷ (v ++ tail)) = record { opens = q.opens; inside = rw inside q.inside; closes = closes } in
    quoted_is long ∙ rw inside (sym (quoted_is q))

further_append : (k : ℕ) (w tail : List ℕ) → k ≤ length w → further_after k w ≡ length w → further_len tail ≡ 0 → further_after k (w ++ tail) ≡ length w
unfolding further_after
further_append zero [] tail h e none = none
further_append (suc k) [] tail h e none = absurd (omega arith)
further_append zero (x ∷ w) tail h e none = go (eqb x comma) (eqb (quoted_len w) 0) refl (further_append (quoted_len w) w tail (quoted_le w)) e
  where
    go : (s t : Bool) → eqb (quoted_len w) 0 ≡ t
        → (further_after (quoted_len w) w ≡ length w → further_len tail ≡ 0 → further_after (quoted_len w) (w ++ tail) ≡ length w)
        → pick (s && not t) (suc (further_after (quoted_len w) w)) 0 ≡ suc (length w)
        → pick (s && not (eqb (quoted_len (w ++ tail)) 0)) (suc (further_after (quoted_len (w ++ tail)) (w ++ tail))) 0 ≡ suc (length w)
    go true true f ih q = absurd (omega arith)
    go true false f ih q = rw (quoted_append w tail (eqb-false _ _ f), f) (ap suc (ih (omega arith) none))
    go false t f ih q = absurd (omega arith)
further_append (suc k) (x ∷ w) tail h e none = ap suc (further_append k w tail (omega arith) (omega arith) none)

form_list : (v tail : List ℕ) → is_list v ≡ true → Ends tail → Listed (length v) ≡ form_of (v ++ tail)
form_list v tail h e =
    let l = list_of v h in
    let rest : drop (quoted_len v) (v ++ tail) ≡ drop (quoted_len v) v ++ tail = drop-append-le (quoted_len v) v tail (quoted_le v) in
    let w = drop (quoted_len v) v in
    let all : further_len w ≡ length w = omega (arith, l.whole, length-drop (quoted_len v) v) in
    let is : length w ≡ further_len (drop (quoted_len v) (v ++ tail)) = rw rest (sym (further_append 0 w tail (omega arith) all (ends_further tail e))) in
    let back : quoted_len v + length w ≡ length v = omega (arith, length-drop (quoted_len v) v, quoted_le v) in
    rw back at (form_listed (v ++ tail) (quoted_len v) (sym (quoted_append v tail l.first)) l.first (length w) is (λ z. l.more (all ∙ z)))

-- ---- the whole parameter

-- the parameter at the front of the rest has the key k and a present value with the bytes v, and what it leaves is the tail
pub record ReadsAs (rest k v tail : List ℕ) (start used : ℕ) : Type 0 where
  pub found : front_of rest ≡ Some (param (span 1 (length k)) (Present (span start (length v))) used)
  pub key : part rest 1 (length k) ≡ k
  pub value : part rest start (length v) ≡ v
  pub left : drop used rest ≡ tail

module _ (k : List ℕ) (keyed : run key_byte k ≡ length k) (v tail : List ℕ) where
  -- a value that begins at once
  as_it_is : (form : Form) → form ≡ form_of (v ++ tail) → value_at (1 + length k + 1) form ≡ Present (span (1 + length k + 1) (length v)) → form_used form ≡ length v
      → ReadsAs (59 ∷ k ++ (61 ∷ (v ++ tail))) k v tail (1 + length k + 1) (1 + length k + 1 + length v)
  as_it_is form is at n =
      let z : 1 + length k + 1 + 0 ≡ 1 + length k + 1 = omega arith in
      record {
        found = sym (rw (at, n) at (reads_form k keyed (v ++ tail) form is));
        key = key_bytes k (61 ∷ (v ++ tail));
        value = rw (rw z at (behind k (v ++ tail) 0)) (take-append_seam v tail);
        left = behind k (v ++ tail) (length v) ∙ drop-append_seam v tail;
      }

  reads_wrapped : Quoted (length v) ≡ form_of (wrapped v ++ tail) → ReadsAs (59 ∷ k ++ (61 ∷ (wrapped v ++ tail))) k v tail (1 + length k + 1 + 1) (1 + length k + 1 + length (wrapped v))
  reads_wrapped is =
      let n : length v + 2 ≡ length (wrapped v) = omega (arith, length-append v (quote ∷ [])) in
      record {
        found = sym (rw n at (reads_form k keyed (wrapped v ++ tail) (Quoted (length v)) is));
        key = key_bytes k (61 ∷ (wrapped v ++ tail));
        value = rw (behind k (wrapped v ++ tail) 1) (ap (take (length v)) (append_assoc v (quote ∷ []) tail) ∙ take-append_seam v (quote ∷ tail));
        left = behind k (wrapped v ++ tail) (length (wrapped v)) ∙ drop-append_seam (wrapped v) tail;
      }

-- what was written is read
pub reads_written : (k : List ℕ) → run key_byte k ≡ length k → {v q : List ℕ} → Written v q → (tail : List ℕ) → Ends tail
    → (start : ℕ) × ReadsAs (59 ∷ k ++ (61 ∷ (q ++ tail))) k v tail start (1 + length k + 1 + length q)
reads_written k keyed {v} (plain some clean all) tail e = (1 + length k + 1, as_it_is k keyed v tail (Bare (length v)) (form_plain v tail some clean all e) refl refl)
reads_written k keyed {v} (in_quotes some clean) tail e =
    (1 + length k + 1 + 1, reads_wrapped k keyed v tail (form_wrapped v tail some clean e ∙ ap form_of (ap (◌∷◌ quote) (sym (append_assoc v (quote ∷ []) tail)))))
reads_written k keyed {v} (list is) tail e = (1 + length k + 1, as_it_is k keyed v tail (Listed (length v)) (form_list v tail is e) refl refl)

-- an absent value: what was written is read, and leaves the tail
pub absent_left : (k tail : List ℕ) → (part (59 ∷ k ++ tail) 1 (length k) ≡ k) × (drop (1 + length k) (59 ∷ k ++ tail) ≡ tail)
absent_left k tail =
    let e : 1 + length k ≡ suc (length k) = omega arith in
    (key_bytes k tail, rw e (drop-append_seam k tail))

-- ---- the writing rule's choice between the three

-- none of `:`, `;` and `,`
abbrev pub ordinary : ℕ → Bool
ordinary x = not (eqb x colon || (eqb x semicolon || eqb x comma))

ordinary_bare : (x : ℕ) → ordinary x ≡ true → bare x ≡ true
ordinary_bare x h = go (eqb x colon) (eqb x semicolon) (eqb x comma) h
  where
    go : (a b c : Bool) → not (a || (b || c)) ≡ true → not (b || a) ≡ true
    go true b c q = let z : ◌≡◌ {A = ℕ} 0 1 = cc in absurd (omega arith)
    go false true c q = q
    go false false c q = refl

-- in quotes if it holds `:`, `;` or `,` and is no list, else as it is
abbrev pub value_text : List ℕ → List ℕ
value_text v = pick (is_list v || eqb (run ordinary v) (length v)) v (wrapped v)

pub written : (v : List ℕ) → 0 < length v → eqb (run (other quote) v) (length v) || is_list v ≡ true → Written v (value_text v)
written v some rule = go (is_list v) (eqb (run ordinary v) (length v)) (eqb (run (other quote) v) (length v)) refl refl refl rule
  where
    go : (a b c : Bool) → is_list v ≡ a → eqb (run ordinary v) (length v) ≡ b → eqb (run (other quote) v) (length v) ≡ c → c || a ≡ true → Written v (pick (a || b) v (wrapped v))
    go true b c e f g q = list e
    go false true true e f g q = plain some (eqb-true _ _ g) (whole_wider ordinary bare ordinary_bare v (eqb-true _ _ f))
    go false false true e f g q = in_quotes some (eqb-true _ _ g)
    go false true false e f g q = let z : ◌≡◌ {A = ℕ} 0 1 = cc in absurd (omega arith)
    go false false false e f g q = let z : ◌≡◌ {A = ℕ} 0 1 = cc in absurd (omega arith)

-- ---- a list begins and ends with a quote

pub list_opens : (v : List ℕ) → is_list v ≡ true → get_or v 0 0 ≡ quote
list_opens v h = (quoted_has v (list_of v h).first).opens

-- the last byte of a list of parts that has no other bytes, where the part that has begun ends with a quote
further_closes : (k : ℕ) (w : List ℕ) (n : ℕ) → k ≤ length w → further_after k w ≡ length w → length w ≡ suc n
    → ((j : ℕ) → k ≡ suc j → get_or w j 0 ≡ quote) → get_or w n 0 ≡ quote
unfolding further_after
further_closes k [] n h e l c = absurd (omega arith)
further_closes zero (x ∷ w) n h e l c = go (eqb x comma) (eqb (quoted_len w) 0) refl (further_closes (quoted_len w) w (n - 1) (quoted_le w)) e
  where
    go : (s t : Bool) → eqb (quoted_len w) 0 ≡ t
        → (further_after (quoted_len w) w ≡ length w → length w ≡ suc (n - 1) → ((j : ℕ) → quoted_len w ≡ suc j → get_or w j 0 ≡ quote) → get_or w (n - 1) 0 ≡ quote)
        → pick (s && not t) (suc (further_after (quoted_len w) w)) 0 ≡ suc (length w) → get_or (x ∷ w) n 0 ≡ quote
    go true true f ih p = absurd (omega arith)
    go true false f ih p =
        let q = quoted_has w (eqb-false _ _ f) in
        let more : n ≡ suc (n - 1) = omega (arith, quoted_room q) in
        rw more (ih (omega arith) (omega arith) (λ j z. let m : j ≡ 1 + inside_len w = omega (arith, quoted_is q) in rw m q.closes))
    go false t f ih p = absurd (omega arith)
further_closes (suc k) (x ∷ w) zero h e l c = c 0 (omega arith)
further_closes (suc k) (x ∷ w) (suc n) h e l c = further_closes k w n (omega arith) (omega arith) (omega arith) (λ j z. c (suc j) (ap suc z))

pub list_closes : (v : List ℕ) → is_list v ≡ true → get_or v (length v - 1) 0 ≡ quote
list_closes v h =
    let l = list_of v h in
    let w = drop (quoted_len v) v in
    let size = length-drop (quoted_len v) v in
    let some : length w ≡ suc (length w - 1) = omega (arith, l.whole, l.more) in
    let last : quoted_len v + (length w - 1) ≡ length v - 1 = omega arith in
    rw (get_or-drop, last) at (further_closes 0 w (length w - 1) (omega arith) (omega (arith, l.whole)) some (λ j z. absurd (omega arith)))
