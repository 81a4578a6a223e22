-- Escaped text over calls: what write_text writes is read back in both modes, 16 is told at the first backslash that begins no escape, and a text is never
-- longer than its value. Assumes nothing.
use mathlib.Core.Path.{◌≡◌, refl, ap, ◌∙◌}
use mathlib.Core.Bool.{Bool, true, false}
use mathlib.Core.List.{List, [], ◌∷◌, ◌++◌}
use Prim.Native.Nat.{ℕ, suc, ◌≤◌, ◌<◌, zero-le}
use native.Mathlib.Nat.{not-suc-le-zero, le_of_suc-le-suc}
use native.Mathlib.Numerals.{add-one}
use native.Mathlib.Omega.{arith}
use lib.ListN.{length, get_or, take, drop}
use lib.Seq.{length-take-le}
use lib.Dec.{eqb, leb}
use borrow.Author.Tests.{leb-true, leb-false, le-leb, eqb-true}
use Rattle.octets.specs.Choice.{pick}
use Rattle.octets.specs.Answers.{longest, done, too_long, no_out_room, bad_escape, output, room_answer, out_after}
use Rattle.octets.specs.declared.Output.{Output}
use Rattle.octets.proofs.Laid.{whole}
use Rattle.escapes.specs.Text.{backslash, escapable, fine, escapes_fine, text_of, as_value}
use Rattle.escapes.specs.Answers.{text_answer, text_out, value_answer, value_out}
use Rattle.escapes.specs.declared.Mode.{Mode}
use Rattle.escapes.proofs.Places.{none_behind}
use Rattle.escapes.proofs.Reading.{fine_plain, text_length}
use Rattle.escapes.proofs.Returning.{returned, returned_out}
use Rattle.demands.specs.Outputs.{told_bytes}
use Rattle.demands.specs.Texts.{BadAt}
use Rattle.demands.proofs.Outputs.{at_front}

-- ---- what was written is read back

-- where write_text answers Done, the text and its value are short enough, and the bytes told are the value
told_value : (text old : List ℕ) → (value_answer text (length old)).answer ≡ done
    → (length text ≤ longest) × (length (as_value text) ≤ longest) × (told_bytes (value_answer text (length old)) (value_out text old) ≡ as_value text)
told_value text old e = by (leb (length text) longest) refl (leb (length (as_value text)) longest) refl e
  where
    told : Bool → Bool → Output
    told s t = pick s (pick t (room_answer (length (as_value text)) (length old)) (output too_long 0 0)) (output too_long 0 0)

    by : (s : Bool) → leb (length text) longest ≡ s → (t : Bool) → leb (length (as_value text)) longest ≡ t → (told s t).answer ≡ done
        → (length text ≤ longest) × (length (as_value text) ≤ longest) × (told_bytes (told s t) (out_after (told s t) (as_value text) old) ≡ as_value text)
    by true h true k q = (leb-true _ _ h, leb-true _ _ k, at_front (as_value text) old q)
    by true h false k q = absurd (omega arith)
    by false h t k q = absurd (omega arith)

-- the bytes that write_text told of, read in either mode into a buffer with room for the text: Done, with the text at its front
module _ (mode : Mode) (text old out : List ℕ) (room : length text ≤ length out) where
  pub told_back : (value_answer text (length old)).answer ≡ done
      → let value = told_bytes (value_answer text (length old)) (value_out text old) in
      (text_answer mode value (length out) ≡ output done 0 (length text)) × (text_out mode value out ≡ text ++ drop (length text) out)
  told_back e =
      let w = told_value text old e in
      rw w.2 (returned mode text (length out) w.0 w.1 room, returned_out mode text out w.0 w.1 room ∙ whole text out room)

  pub write_text_back : {r : Output} {new : List ℕ} → r ≡ value_answer text (length old) → new ≡ value_out text old → r.answer ≡ done
      → {r' : Output} {new' : List ℕ} → r' ≡ text_answer mode (told_bytes r new) (length out) → new' ≡ text_out mode (told_bytes r new) out
      → (r' ≡ output done 0 (length text)) × (new' ≡ text ++ drop (length text) out)
  write_text_back p q e p' q' = let w = told_back (rw p at e) in (p' ∙ rw (p, q) w.0, q' ∙ rw (p, q) w.1)

-- ---- the place of 16

-- the bytes before the first bad backslash, the backslash, and what is behind it
first_bad : (mode : Mode) (xs : List ℕ) → fine mode xs < length xs
    → (get_or xs (fine mode xs) 0 ≡ backslash) × (escapable mode (get_or xs (suc (fine mode xs)) 0) ≡ false) × (fine mode (take (fine mode xs) xs) ≡ fine mode xs)
unfolding fine
first_bad mode [] h = absurd (not-suc-le-zero h)
first_bad mode (x ∷ []) h = go (eqb x backslash) refl h
  where
    go : (t : Bool) → eqb x backslash ≡ t → pick t 0 1 < 1
        → (get_or (x ∷ []) (pick t 0 1) 0 ≡ backslash) × (escapable mode (get_or (x ∷ []) (suc (pick t 0 1)) 0) ≡ false)
        × (fine mode (take (pick t 0 1) (x ∷ [])) ≡ pick t 0 1)
    go true e h = (eqb-true x backslash e, none_behind mode (x ∷ []) 1 (omega arith), refl)
    go false e h = absurd (omega arith)
first_bad mode (x ∷ (y ∷ ys)) h = go (eqb x backslash) refl (escapable mode y) refl h (first_bad mode ys) (first_bad mode (y ∷ ys))
  where
    At : ℕ → List ℕ → Type 0
    At n xs = (get_or xs n 0 ≡ backslash) × (escapable mode (get_or xs (suc n) 0) ≡ false) × (fine mode (take n xs) ≡ n)

    go : (t : Bool) → eqb x backslash ≡ t → (u : Bool) → escapable mode y ≡ u
        → pick t (pick u (suc (suc (fine mode ys))) 0) (suc (fine mode (y ∷ ys))) < suc (suc (length ys))
        → (fine mode ys < length ys → At (fine mode ys) ys) → (fine mode (y ∷ ys) < suc (length ys) → At (fine mode (y ∷ ys)) (y ∷ ys))
        → At (pick t (pick u (suc (suc (fine mode ys))) 0) (suc (fine mode (y ∷ ys)))) (x ∷ (y ∷ ys))
    go true e true f h rest later = let r = rest (le_of_suc-le-suc (le_of_suc-le-suc h)) in (r.0, r.1, rw (e, f) (ap (λ (n : ℕ). suc (suc n)) r.2))
    go true e false f h rest later = (eqb-true x backslash e, f, refl)
    go false e u f h rest later =
        let r = later (le_of_suc-le-suc h) in (r.0, r.1, fine_plain mode x (take (fine mode (y ∷ ys)) (y ∷ ys)) e ∙ ap suc r.2)

bad_at : (mode : Mode) (value : List ℕ) → escapes_fine mode value ≡ false → BadAt mode value (fine mode value)
bad_at mode value e =
    let h = leb-false (length value) (fine mode value) e in
    let f = first_bad mode value h in
    record {
      inside = h;
      is_backslash = f.0;
      no_escape = rw add-one f.1;
      fine_before =
          le-leb (length (take (fine mode value) value)) (fine mode (take (fine mode value) value))
          (omega (arith, length-take-le (fine mode value) value (omega arith), f.2));
    }

-- where read_text answers 16, its place is that of a backslash which begins no escape of the mode, and all before it is fine
pub bad_escape_at : (mode : Mode) (value : List ℕ) (room : ℕ) → (text_answer mode value room).answer ≡ bad_escape → BadAt mode value (text_answer mode value room).place
bad_escape_at mode value room e = by (leb (length value) longest) (escapes_fine mode value) refl e
  where
    told : Bool → Bool → Output
    told s t = pick s (pick t (room_answer (length (text_of value)) room) (output bad_escape (fine mode value) 0)) (output too_long 0 0)

    when_no_room : (u : Bool) → (pick u (output done 0 (length (text_of value))) (output no_out_room 0 (length (text_of value)))).answer ≡ bad_escape → ⊥
    when_no_room true q = omega arith
    when_no_room false q = omega arith

    by : (s t : Bool) → escapes_fine mode value ≡ t → (told s t).answer ≡ bad_escape → BadAt mode value (told s t).place
    by true true h q = absurd (when_no_room (leb (length (text_of value)) room) q)
    by true false h q = bad_at mode value h
    by false t h q = absurd (omega arith)

-- ---- the length of a text

-- no answer of read_text tells of more bytes than the value has
pub text_no_longer : (mode : Mode) (value : List ℕ) (room : ℕ) → (text_answer mode value room).length ≤ length value
text_no_longer mode value room = by (leb (length value) longest) (escapes_fine mode value) (leb (length (text_of value)) room)
  where
    by : (s t u : Bool)
        → (pick s (pick t (pick u (output done 0 (length (text_of value))) (output no_out_room 0 (length (text_of value)))) (output bad_escape (fine mode value) 0)) (output too_long 0 0)).length
        ≤ length value
    by true true true = text_length value
    by true true false = text_length value
    by true false u = zero-le
    by false t u = zero-le
