-- Laws of what a fold answers: one for each way out, whichever fold it is. Assumes nothing.
use mathlib.Core.Path.{◌≡◌, refl, sym, ap, subst, ◌∙◌}
use mathlib.Core.Bool.{Bool, true, false}
use mathlib.Core.List.{List, ◌++◌}
use Prim.Native.Nat.{ℕ, ◌*◌, ◌≤◌}
use native.Mathlib.Nat.{min-eq_left}
use native.Mathlib.Omega.{arith}
use lib.ListN.{length, take, drop, take-append-drop, length-append}
use lib.Seq.{take-take}
use lib.Dec.{leb, eqb}
use borrow.Author.Tests.{le-leb, leb-true, eq-eqb, eqb-true, eqb-false}
use Rattle.std.specs.Prelude.{Result, Ok, Err, ⊤}
use Rattle.octets.specs.Choice.{pick}
use Rattle.octets.specs.Bytes.{lf, other, ascii}
use Rattle.octets.specs.Runs.{run, only}
use Rattle.octets.specs.Laid.{counted}
use Rattle.octets.specs.Answers.{longest, done, too_long, output, room_answer, out_after}
use Rattle.octets.specs.declared.Output.{Output}
use Rattle.octets.proofs.Answers.{kept}
use Rattle.octets.proofs.Bools.{both}
use Rattle.octets.proofs.Runs.{whole, whole_take, through, all_of, only_both}
use Rattle.characters.specs.Utf8.{is_utf8}
use Rattle.characters.specs.Quick.{common_text}
use Rattle.characters.proofs.Units.{behind_ascii}
use Rattle.characters.proofs.Utf8.{ascii_utf8, utf8_append}
use Rattle.characters.proofs.Quick.{common_utf8, common_only, shown_other}
use Rattle.folding.specs.Answers.{foldable, byte_answer, passed, line_answer, fold_answer, fold_out}

-- ---- before the fold

pub foldable_is : (line : List ℕ) → only foldable line ≡ true → (only (other lf) line ≡ true) × (only ascii line ≡ true)
foldable_is line t = both (only (other lf) line) (only ascii line) (sym (only_both (other lf) ascii line) ∙ t)

-- what is seen to be UTF-8 behind such bytes makes the whole line fine
pub behind_front : (line : List ℕ) (n : ℕ) → n ≤ run foldable line → common_text (drop n line) ≡ true → (only (other lf) line ≡ true) × (is_utf8 line ≡ true)
behind_front line n h e = subst (λ (xs : List ℕ). (only (other lf) xs ≡ true) × (is_utf8 xs ≡ true)) (take-append-drop n line) (unbroken, whole)
  where
    front : only foldable (take n line) ≡ true
    front =
        let r = run foldable line in
        let w = rw (take-take n r line h) at (whole_take foldable n (take r line) (whole foldable line)) in
        le-leb (length (take n line)) (run foldable (take n line)) (omega arith)

    f : (only (other lf) (take n line) ≡ true) × (only ascii (take n line) ≡ true)
    f = foldable_is (take n line) front

    unbroken : only (other lf) (take n line ++ drop n line) ≡ true
    unbroken =
        let a = through (other lf) (take n line) (drop n line) (all_of (other lf) (take n line) f.0) in
        let b = all_of (other lf) (drop n line) (common_only (other lf) (λ x s. shown_other lf x (omega arith) s) (drop n line) e) in
        le-leb (length (take n line ++ drop n line)) (run (other lf) (take n line ++ drop n line)) (omega (arith, length-append (take n line) (drop n line)))

    whole : is_utf8 (take n line ++ drop n line) ≡ true
    whole = utf8_append (take n line) (drop n line) (behind_ascii (take n line) (drop n line) f.1) ∙ rw (ascii_utf8 (take n line) f.1, common_utf8 (drop n line) e)

module _ (number sound : ℕ) (line : List ℕ) where
  -- nothing is wrong with a line without LF that the fold takes
  pub nothing_wrong : length line ≤ longest → only (other lf) line ≡ true → length line ≤ sound → output done 0 0 ≡ line_answer number sound line
  nothing_wrong h t takes = rw (le-leb (length line) longest h, t, le-leb (length line) sound takes)

  -- a line that is folded is no longer than the limit
  pub short_enough : (line_answer number sound line).answer ≡ done → length line ≤ longest
  short_enough e = by (leb (length line) longest) refl e
    where
      by : (t : Bool) → leb (length line) longest ≡ t → (pick t (byte_answer number sound line) (output too_long 0 0)).answer ≡ done → length line ≤ longest
      by true h e = leb-true (length line) longest h
      by false h e = omega arith

-- ---- what a check gives

pub passed_ok : (told : Output) → Ok tt ≡ passed told → told.answer ≡ done
passed_ok told e = go (eqb told.answer done) refl e
  where
    go : (t : Bool) → eqb told.answer done ≡ t → ◌≡◌ {A = Result ⊤ Output} (Ok tt) (pick t (Ok tt) (Err told)) → told.answer ≡ done
    go true t e = eqb-true told.answer done t
    go false t e = cc

pub passed_err : (told refusal : Output) → Err refusal ≡ passed told → (refusal ≡ told) × (refusal.answer ≡ done → ⊥)
passed_err told refusal e = go (eqb told.answer done) refl e
  where
    go : (t : Bool) → eqb told.answer done ≡ t → ◌≡◌ {A = Result ⊤ Output} (Err refusal) (pick t (Ok tt) (Err told))
        → (refusal ≡ told) × (refusal.answer ≡ done → ⊥)
    go true t e = cc
    go false t e = let z : refusal ≡ told = cc in (z, λ h. eqb-false told.answer done t (rw z at h))

-- ---- the fold

module _ (checked : List ℕ → Output) (fold : List ℕ → List ℕ) (line old : List ℕ) where
  -- the count is exact, since the line is not too long
  module _ (e : Ok tt ≡ passed (checked line)) (short : (checked line).answer ≡ done → length line ≤ longest) (small : length (fold line) ≤ 4 * length line)
      {n : ℕ} (c : n ≡ counted (length (fold line))) {told : Output} (r : told ≡ room_answer n (length old)) where
    folded : told ≡ fold_answer checked fold line (length old)
    folded =
        let h = passed_ok (checked line) e in
        let exact : n ≡ length (fold line) = c ∙ min-eq_left (omega (arith, short h)) in
        rw (eq-eqb (checked line).answer done h) (r ∙ ap (λ (k : ℕ). room_answer k (length old)) exact)

    pub no_room : (told.answer ≡ done → ⊥) → (told ≡ fold_answer checked fold line (length old)) × (old ≡ fold_out checked fold line old)
    no_room h = kept folded (fold line) old h

-- what is laid if there is room is the fold of a line that nothing refuses: the count is exact, since the line is not too long
pub folded_if_room : (checked : List ℕ → Output) (fold : List ℕ → List ℕ) (line old : List ℕ)
    → Ok tt ≡ passed (checked line) → ((checked line).answer ≡ done → length line ≤ longest) → length (fold line) ≤ 4 * length line
    → {told : Output} {new : List ℕ} → (told ≡ room_answer (counted (length (fold line))) (length old)) × (new ≡ out_after told (fold line) old)
    → (told ≡ fold_answer checked fold line (length old)) × (new ≡ fold_out checked fold line old)
folded_if_room checked fold line old e short small laid =
    let told : _ ≡ fold_answer checked fold line (length old) = folded checked fold line old e short small refl laid.0 in
    (told, rw told at laid.1)
