-- The lines of a text by the grammar are those that it is split into. Assumes nothing.
use mathlib.Core.Path.{◌≡◌, refl, sym, ap, subst, ◌∙◌}
use mathlib.Core.Bool.{Bool, true, false}
use mathlib.Core.List.{List, [], ◌∷◌, ◌++◌, append_assoc, append-nil}
use Prim.Native.Nat.{ℕ, zero, suc, ◌+◌, ◌-◌, ◌≤◌, ◌<◌}
use native.Mathlib.Omega.{arith}
use lib.ListN.{length, get_or, take, drop, length-append}
use lib.Seq.{take-length, take-append_seam, drop-append-add, drop-length, get_or-append_seam}
use lib.Dec.{ltb, eqb}
use borrow.Author.Tests.{eqb-true, eqb-false, eq-eqb, ne_eqb, lt-ltb, le-ltb, not-false}
use Rattle.octets.specs.Bytes.{lf, cr, other}
use Rattle.octets.proofs.Runs.{no_run, through}
use Rattle.lines.specs.Split.{Placed, to_break, content_len, line_len, lines_after}
use Rattle.lines.proofs.Split.{first_line}
use Rattle.demands.specs.LineGrammar.{Every, Some}
use Rattle.demands.specs.Grammar.{line, NoLastCr, Lines, no_bytes, last_line, lf_line, crlf_line}
use Rattle.demands.proofs.SaidWords.{every_run, every_both, every_front, Split, split}

-- ---- the last byte

data Ending : List ℕ → Type 0 where
  none : Ending []
  one : (front : List ℕ) (x : ℕ) → Ending (front ++ x ∷ [])

ending : (xs : List ℕ) → Ending xs
ending [] = none
ending (x ∷ xs) = go (ending xs)
  where
    go : {ys : List ℕ} → Ending ys → Ending (x ∷ ys)
    go none = one [] x
    go (one front y) = one (x ∷ front) y

last_of : (front : List ℕ) (x : ℕ) (rest : List ℕ) → get_or ((front ++ x ∷ []) ++ rest) (length (front ++ x ∷ []) - 1) 0 ≡ x
last_of front x rest =
    let n : length (front ++ x ∷ []) - 1 ≡ length front = omega (arith, length-append front (x ∷ [])) in
    rw (n, append_assoc front (x ∷ []) rest) (get_or-append_seam front x rest 0)

-- ---- the first line, by the grammar

-- by its bytes and those with its break
line_is : (at : ℕ) (xs : List ℕ) {content rest : List ℕ} (c n : ℕ) → 0 < length xs → content_len xs ≡ c → take c xs ≡ content → line_len xs ≡ n → drop n xs ≡ rest
    → lines_after at 0 xs ≡ line at content ∷ lines_after (at + n) 0 rest
line_is at xs {content} {rest} c n some e t f d =
    first_line xs at some
    ∙ ap (λ (k : ℕ). line at (take k xs) ∷ lines_after (at + line_len xs) 0 (drop (line_len xs) xs)) e
    ∙ ap (λ (l : List ℕ). line at l ∷ lines_after (at + line_len xs) 0 (drop (line_len xs) xs)) t
    ∙ ap (λ (k : ℕ). line at content ∷ lines_after (at + k) 0 (drop k xs)) f
    ∙ ap (λ (l : List ℕ). line at content ∷ lines_after (at + n) 0 l) d

-- the bytes before the first LF
to_lf : (content rest : List ℕ) → Every (other lf) content → to_break (content ++ lf ∷ rest) ≡ length content
to_lf content rest e = omega (arith, through (other lf) content (lf ∷ rest) (every_run (other lf) content e), no_run (other lf) (lf ∷ rest) lf refl)

-- the text ends with it
last_is : (at : ℕ) (content : List ℕ) → Some (other lf) content → lines_after at 0 content ≡ line at content ∷ []
unfolding lines_after
last_is at content s =
    let n : to_break content ≡ length content = every_run (other lf) content s.every in
    let over = le-ltb (to_break content) (length content) (omega arith) in
    line_is at content (length content) (length content) s.some (rw (over, n)) (take-length content) (rw (over, n)) (drop-length content)

module _ (at : ℕ) (content rest : List ℕ) (e : Every (other lf) content) where
  abbrev broken : List ℕ
  broken = content ++ lf ∷ rest

  size : length broken ≡ length content + 1 + length rest
  size = omega (arith, length-append content (lf ∷ rest))

  inside : ltb (to_break broken) (length broken) ≡ true
  inside = lt-ltb (to_break broken) (length broken) (omega (arith, to_lf content rest e, size))

  past_lf : drop (length content + 1) broken ≡ rest
  past_lf = drop-append-add content (lf ∷ rest) 1

  line_size : line_len broken ≡ length content + 1
  line_size = rw inside (omega (arith, to_lf content rest e))

-- an LF without a CR before it
lf_is : (at : ℕ) (content rest : List ℕ) → Every (other lf) content → NoLastCr content
    → lines_after at 0 (content ++ lf ∷ rest) ≡ line at content ∷ lines_after (at + length content + 1) 0 rest
lf_is at content rest e n =
    let there : at + (length content + 1) ≡ at + length content + 1 = omega arith in
    line_is at (content ++ lf ∷ rest) (length content) (length content + 1) (omega (arith, size at content rest e))
    (rw (inside at content rest e, to_lf content rest e, ne_eqb (get_or (content ++ lf ∷ rest) (length content - 1) 0) cr (no_cr (ending content) n)))
    (take-append_seam content (lf ∷ rest)) (line_size at content rest e) (past_lf at content rest e)
    ∙ rw there
  where
    no_cr : {content : List ℕ} → Ending content → NoLastCr content → get_or (content ++ lf ∷ rest) (length content - 1) 0 ≡ cr → ⊥
    no_cr none n q = omega arith
    no_cr (one front x) n q = n front (ap (λ (y : ℕ). front ++ y ∷ []) (sym (last_of front x (lf ∷ rest)) ∙ q))

-- an LF with a CR before it
crlf_is : (at : ℕ) (content rest : List ℕ) → Every (other lf) content
    → lines_after at 0 (content ++ cr ∷ lf ∷ rest) ≡ line at content ∷ lines_after (at + length content + 2) 0 rest
crlf_is at content rest e =
    let front : List ℕ = content ++ cr ∷ [] in
    let whole : front ++ lf ∷ rest ≡ content ++ cr ∷ lf ∷ rest = append_assoc content (cr ∷ []) (lf ∷ rest) in
    let every : Every (other lf) (content ++ cr ∷ []) = every_both (other lf) content (cr ∷ []) e (refl, tt) in
    let n : length (content ++ cr ∷ []) ≡ length content + 1 = omega (arith, length-append content (cr ∷ [])) in
    let less : length (content ++ cr ∷ []) - 1 ≡ length content = omega arith in
    let there : at + (length (content ++ cr ∷ []) + 1) ≡ at + length content + 2 = omega arith in
    subst (λ (xs : List ℕ). lines_after at 0 xs ≡ line at content ∷ lines_after (at + length content + 2) 0 rest) whole
    (line_is at (front ++ lf ∷ rest) (length content) (length front + 1) (omega (arith, size at front rest every))
    (rw (inside at front rest every, to_lf front rest every, eq-eqb (get_or (front ++ lf ∷ rest) (length front - 1) 0) cr (last_of content cr (lf ∷ rest))) less)
    (ap (take (length content)) whole ∙ take-append_seam content (cr ∷ lf ∷ rest)) (line_size at front rest every) (past_lf at front rest every)
    ∙ rw there)

-- ---- all lines

-- the lines by the grammar are those of the split
pub lines_are : {at : ℕ} {xs : List ℕ} {ls : List Placed} → Lines at xs ls → lines_after at 0 xs ≡ ls
unfolding lines_after
lines_are no_bytes = refl
lines_are {at} (last_line {content = content} s) = last_is at content s
lines_are {at} (lf_line content {rest = rest} e n ls) = lf_is at content rest e n ∙ ap (◌∷◌ (line at content)) (lines_are ls)
lines_are {at} (crlf_line content {rest = rest} e ls) = crlf_is at content rest e ∙ ap (◌∷◌ (line at content)) (lines_are ls)

-- and the lines of the split are lines by the grammar
last_byte : (front : List ℕ) (x : ℕ) → get_or (front ++ x ∷ []) (length (front ++ x ∷ []) - 1) 0 ≡ x
last_byte front x =
    let n : length (front ++ x ∷ []) - 1 ≡ length front = omega (arith, length-append front (x ∷ [])) in
    rw n (get_or-append_seam front x [] 0)

lines_on : (at : ℕ) (content rest : List ℕ) → Every (other lf) content → ((at' : ℕ) → Lines at' rest (lines_after at' 0 rest))
    → Lines at (content ++ lf ∷ rest) (lines_after at 0 (content ++ lf ∷ rest))
lines_on at content rest e ls = go (ending content) e
  where
    plain : (content : List ℕ) → Every (other lf) content → NoLastCr content → Lines at (content ++ lf ∷ rest) (lines_after at 0 (content ++ lf ∷ rest))
    plain content e n =
        subst (Lines at (content ++ lf ∷ rest)) (sym (lf_is at content rest e n)) (lf_line content e n (ls (at + length content + 1)))

    with_cr : (front : List ℕ) → Every (other lf) front → Lines at ((front ++ cr ∷ []) ++ lf ∷ rest) (lines_after at 0 ((front ++ cr ∷ []) ++ lf ∷ rest))
    with_cr front e =
        rw append_assoc
        (subst (Lines at (front ++ cr ∷ lf ∷ rest)) (sym (crlf_is at front rest e)) (crlf_line front e (ls (at + length front + 2))))

    go : {content : List ℕ} → Ending content → Every (other lf) content → Lines at (content ++ lf ∷ rest) (lines_after at 0 (content ++ lf ∷ rest))
    go none e = plain [] e (λ front q. omega (arith, ap length q, length-append front (cr ∷ [])))
    go (one front x) e = by (eqb x cr) refl
      where
        by : (t : Bool) → eqb x cr ≡ t → Lines at ((front ++ x ∷ []) ++ lf ∷ rest) (lines_after at 0 ((front ++ x ∷ []) ++ lf ∷ rest))
        by true q =
            subst (λ (y : ℕ). Lines at ((front ++ y ∷ []) ++ lf ∷ rest) (lines_after at 0 ((front ++ y ∷ []) ++ lf ∷ rest))) (sym (eqb-true x cr q))
            (with_cr front (every_front (other lf) front (x ∷ []) e))
        by false q =
            plain (front ++ x ∷ []) e
            (λ other_front r.
            eqb-false x cr q
            (sym (last_byte front x) ∙ ap (λ (l : List ℕ). get_or l (length l - 1) 0) r ∙ last_byte other_front cr))

-- by a bound of the bytes that are left
pub lines_found : (n at : ℕ) (xs : List ℕ) → length xs ≤ n → Lines at xs (lines_after at 0 xs)
unfolding lines_after
lines_found zero at [] h = no_bytes
lines_found zero at (x ∷ xs) h = absurd (omega arith)
lines_found (suc n) at [] h = no_bytes
lines_found (suc n) at (x ∷ xs) h = go (split (other lf) lf refl (x ∷ xs)) (λ at' ys l. lines_found n at' ys l)
  where
    go : Split (other lf) lf (x ∷ xs) → ((at' : ℕ) (ys : List ℕ) → length ys ≤ n → Lines at' ys (lines_after at' 0 ys))
        → Lines at (x ∷ xs) (lines_after at 0 (x ∷ xs))
    go s ih = by s.back s.is s.stops
      where
        by : (back : List ℕ) → x ∷ xs ≡ s.front ++ back → other lf (get_or back 0 lf) ≡ false → Lines at (x ∷ xs) (lines_after at 0 (x ∷ xs))
        by [] is stops =
            let whole : s.front ≡ x ∷ xs = sym (is ∙ append-nil s.front) in
            let some : Some (other lf) (x ∷ xs) = record { some = omega arith; every = subst (Every (other lf)) whole s.every } in
            subst (Lines at (x ∷ xs)) (sym (last_is at (x ∷ xs) some)) (last_line some)
        by (y ∷ rest) is stops =
            let whole : s.front ++ lf ∷ rest ≡ x ∷ xs = ap (λ (z : ℕ). s.front ++ z ∷ rest) (sym (eqb-true y lf (not-false (eqb y lf) stops))) ∙ sym is in
            let size : length (x ∷ xs) ≡ length s.front + suc (length rest) = ap length is ∙ length-append s.front (y ∷ rest) in
            let fewer : length rest ≤ n = omega arith in
            subst (λ (l : List ℕ). Lines at l (lines_after at 0 l)) whole (lines_on at s.front rest s.every (λ at'. ih at' rest fewer))
