-- What is said of each byte by itself, `unfolded`, is what one pass does that passes over the bytes that go. Assumes nothing.
use mathlib.Core.Path.{◌≡◌, refl, sym, ap, ◌∙◌}
use mathlib.Core.Bool.{Bool, true, false, ◌&&◌, and-false, and_comm}
use mathlib.Core.List.{List, [], ◌∷◌}
use Prim.Native.Nat.{ℕ}
use lib.ListN.{get_or}
use lib.Dec.{eqb}
use borrow.Author.Tests.{eqb-true}
use Rattle.octets.specs.Bytes.{blank, cr, lf}
use Rattle.octets.proofs.Bools.{both}
use Rattle.unfolding.specs.Unfold.{unfolded, unfolded_after}
use Rattle.unfolding.specs.OnePass.{one_pass}
use Rattle.unfolding.proofs.Blanks.{blank_no_lf}

-- with nothing to pass over, with the blank behind an LF, and with the LF and the blank behind a CR
record Same (xs : List ℕ) : Type 0 where
  none : (p : ℕ) → blank (get_or xs 0 0) && eqb p lf ≡ false → one_pass 0 xs ≡ unfolded_after p xs
  one : blank (get_or xs 0 0) ≡ true → one_pass 1 xs ≡ unfolded_after lf xs
  two : eqb (get_or xs 0 0) lf ≡ true → blank (get_or xs 1 0) ≡ true → one_pass 2 xs ≡ unfolded_after cr xs

module _ (x : ℕ) (xs : List ℕ) (ih : Same xs) where
  at_none : (p : ℕ) (t u : Bool) → blank x && eqb p lf ≡ false → eqb x lf && blank (get_or xs 0 0) ≡ t
      → eqb x cr && (eqb (get_or xs 0 0) lf && blank (get_or xs 1 0)) ≡ u → one_pass 0 (x ∷ xs) ≡ unfolded_after p (x ∷ xs)
  unfolding one_pass unfolded_after
  at_none p true u h ht hu =
      rw ht
      (ih.one (both (eqb x lf) _ ht).1 ∙ ap (λ (y : ℕ). unfolded_after y xs) (sym (eqb-true x lf (both _ _ ht).0)))
  at_none p false true h ht hu =
      let b = (both (eqb x cr) _ hu).1 in
      rw (ht, hu, h)
      (ih.two (both _ _ b).0 (both (eqb (get_or xs 0 0) lf) _ b).1
      ∙ ap (λ (y : ℕ). unfolded_after y xs) (sym (eqb-true x cr (both _ _ hu).0)))
  at_none p false false h ht hu = rw (ht, hu, h) (ap (◌∷◌ x) (ih.none x (and_comm (blank (get_or xs 0 0)) (eqb x lf) ∙ ht)))

  at_one : blank x ≡ true → one_pass 1 (x ∷ xs) ≡ unfolded_after lf (x ∷ xs)
  unfolding one_pass unfolded_after
  at_one h = rw (h, blank_no_lf x h) (ih.none x (rw (blank_no_lf x h) (and-false (blank (get_or xs 0 0)))))

  at_two : eqb x lf ≡ true → blank (get_or xs 0 0) ≡ true → one_pass 2 (x ∷ xs) ≡ unfolded_after cr (x ∷ xs)
  unfolding one_pass unfolded_after
  at_two h k = rw (h, k) (ih.one k ∙ ap (λ (y : ℕ). unfolded_after y xs) (sym (eqb-true x lf h)))

same : (xs : List ℕ) → Same xs
unfolding one_pass unfolded_after
same [] = record { none = λ p h. refl; one = λ h. refl; two = λ h k. refl }
same (x ∷ xs) = record { none = λ p h. at_none x xs (same xs) p _ _ h refl refl; one = at_one x xs (same xs); two = at_two x xs (same xs) }

pub one_pass_holds : (feed : List ℕ) → unfolded feed ≡ one_pass 0 feed
one_pass_holds feed = sym ((same feed).none 0 (and-false (blank (get_or feed 0 0))))
