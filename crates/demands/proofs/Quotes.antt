-- A value that was quoted is read back, for every value that the writing rule allows. Assumes nothing.
use mathlib.Core.Path.{◌≡◌, refl, sym}
use mathlib.Core.Bool.{Bool, true, false, not, ◌||◌}
use mathlib.Core.List.{List, [], ◌∷◌, ◌++◌}
use Prim.Native.Nat.{ℕ, ◌+◌}
use native.Mathlib.Omega.{arith}
use lib.ListN.{length}
use lib.Dec.{eqb, leb}
use borrow.Author.Tests.{leb-true, leb-false, eqb-true, eq-eqb, ne_eqb, not-true}
use Rattle.octets.specs.Choice.{pick}
use Rattle.octets.specs.Bytes.{quote, semicolon, equals, key_byte, other}
use Rattle.octets.specs.Runs.{run, only}
use Rattle.octets.specs.Answers.{longest, done, too_long, output, room_answer, out_after}
use Rattle.octets.specs.declared.Output.{Output}
use Rattle.octets.proofs.Runs.{within, whole_head}
use Rattle.parameters.specs.Values.{is_list}
use Rattle.parameters.proofs.RoundTrip.{Ends, ReadsAs, Written, wrapped, ordinary, value_text, written, reads_written, list_opens, list_closes}
use Rattle.quoting.specs.Quoting.{plain, enclosed, quoted}
use Rattle.quoting.specs.Answers.{quote_answer, quote_out}
use Rattle.demands.specs.Outputs.{told_bytes}
use Rattle.demands.specs.Writable.{Writable}
use Rattle.demands.proofs.Outputs.{at_front}

-- ---- quoting is the writing rule's choice

list_enclosed : (v : List ℕ) → is_list v ≡ true → enclosed v ≡ true
list_enclosed v h = rw (eq-eqb _ _ (list_opens v h), eq-eqb _ _ (list_closes v h))

clean_open : (v : List ℕ) → run (other quote) v ≡ length v → enclosed v ≡ false
clean_open [] h = refl
clean_open (x ∷ v) h = rw (not-true (eqb x quote) (whole_head (other quote) x v h))

-- every byte is of the class, or the run has another length than the list
only_is : (class : ℕ → Bool) (xs : List ℕ) → only class xs ≡ eqb (run class xs) (length xs)
only_is class xs = by (leb (length xs) (run class xs)) refl
  where
    by : (t : Bool) → leb (length xs) (run class xs) ≡ t → t ≡ eqb (run class xs) (length xs)
    by true h = sym (eq-eqb (run class xs) (length xs) (omega (arith, leb-true (length xs) (run class xs) h, within class xs)))
    by false h = sym (ne_eqb (run class xs) (length xs) (λ e. omega (arith, leb-false (length xs) (run class xs) h)))

swapped : (t : Bool) (xs ys : List ℕ) → pick (not t) xs ys ≡ pick t ys xs
swapped true xs ys = refl
swapped false xs ys = refl

module _ (v : List ℕ) (rule : eqb (run (other quote) v) (length v) || is_list v ≡ true) where
  quoted_text : quoted v ≡ value_text v
  quoted_text = by (eqb (run (other quote) v) (length v)) (is_list v) refl refl rule
    where
      by : (c a : Bool) → eqb (run (other quote) v) (length v) ≡ c → is_list v ≡ a → c || a ≡ true
          → quoted v ≡ pick (a || eqb (run ordinary v) (length v)) v (wrapped v)
      by c true f e q = rw (list_enclosed v e)
      by true false f e q = rw (clean_open v (eqb-true _ _ f), only_is plain v) (swapped (eqb (run ordinary v) (length v)) (wrapped v) v)
      by false false f e q = let z : ◌≡◌ {A = ℕ} 0 1 = cc in absurd (omega arith)

pub quoted_written : {v : List ℕ} → Writable v → Written v (quoted v)
quoted_written {v} w =
    let rule : eqb (run (other quote) v) (length v) || is_list v ≡ true = rw (only_is (other quote) v) at w.rule in
    rw (quoted_text v rule) (written v w.some rule)

-- ---- it is read back

-- what quote_special_chars lays, if it answers Done
told_quoted : (v old : List ℕ) → (quote_answer v (length old)).answer ≡ done → told_bytes (quote_answer v (length old)) (quote_out v old) ≡ quoted v
told_quoted v old e = by (leb (length v) longest) e
  where
    told : Bool → Output
    told t = pick t (room_answer (length (quoted v)) (length old)) (output too_long 0 0)

    by : (t : Bool) → (told t).answer ≡ done → told_bytes (told t) (out_after (told t) (quoted v) old) ≡ quoted v
    by true q = at_front (quoted v) old q
    by false q = absurd (omega arith)

-- behind `;`, a key and `=`, and before the `;`, the `:` or the end that follows
module _ (k : List ℕ) (keyed : run key_byte k ≡ length k) {v : List ℕ} (w : Writable v) (tail : List ℕ) (ends : Ends tail) where
  pub quoted_back : (start : ℕ) × ReadsAs (semicolon ∷ k ++ (equals ∷ (quoted v ++ tail))) k v tail start (1 + length k + 1 + length (quoted v))
  quoted_back = reads_written k keyed (quoted_written w) tail ends

  pub quote_special_chars_back : (old : List ℕ) {r : Output} {new : List ℕ} → r ≡ quote_answer v (length old) → new ≡ quote_out v old → r.answer ≡ done
      → (start : ℕ) × ReadsAs (semicolon ∷ k ++ (equals ∷ (told_bytes r new ++ tail))) k v tail start (1 + length k + 1 + length (told_bytes r new))
  quote_special_chars_back old p q e = rw (p, q, told_quoted v old (rw p at e)) quoted_back
