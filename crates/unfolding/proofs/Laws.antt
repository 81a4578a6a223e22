-- Laws of unfolding: lengths, seams between parts that unfold by themselves, and what becomes of bytes before a fold.
-- Assumes nothing.
use mathlib.Core.Path.{◌≡◌, refl, ap, ◌∙◌}
use mathlib.Core.Bool.{Bool, true, false, ◌&&◌, and-false, and_comm}
use mathlib.Core.List.{List, [], ◌∷◌, ◌++◌, append-nil}
use Prim.Native.Nat.{ℕ, zero, suc, ◌≤◌, zero-le}
use native.Mathlib.Omega.{arith}
use lib.ListN.{length, get_or, take, drop, drop_of_length-le}
use lib.Seq.{take_all}
use lib.Dec.{eqb}
use Rattle.octets.specs.Bytes.{blank, cr, lf, other}
use Rattle.octets.specs.Runs.{run}
use Rattle.unfolding.specs.Unfold.{goes, keep, unfolded, unfolded_after}
use Rattle.unfolding.specs.Folds.{to_fold}
use Rattle.unfolding.proofs.Blanks.{blank_no_lf}
use Rattle.unfolding.proofs.Folds.{breaks, ahead, none, before_break}

-- ---- a turn, and lengths

-- what becomes of a list, by whether its first byte goes
pub turn : (p x : ℕ) (xs : List ℕ) → unfolded_after p (x ∷ xs) ≡ keep (goes p x (get_or xs 0 0) (get_or xs 1 0)) x (unfolded_after x xs)
unfolding unfolded_after
turn p x xs = refl

pub nothing : (p : ℕ) → unfolded_after p [] ≡ []
unfolding unfolded_after
nothing p = refl

length_keep : (t : Bool) (x : ℕ) (xs : List ℕ) → length (keep t x xs) ≤ suc (length xs)
length_keep true x xs = omega arith
length_keep false x xs = omega arith

length_unfolded_after : (p : ℕ) (xs : List ℕ) → length (unfolded_after p xs) ≤ length xs
unfolding unfolded_after
length_unfolded_after p [] = zero-le
length_unfolded_after p (x ∷ xs) =
    omega (arith, length_keep (goes p x (get_or xs 0 0) (get_or xs 1 0)) x (unfolded_after x xs), length_unfolded_after x xs)

-- unfolding makes nothing longer
pub length_unfolded : (xs : List ℕ) → length (unfolded xs) ≤ length xs
length_unfolded xs = length_unfolded_after 0 xs

-- ---- a seam: before a byte that is no blank and no LF the two parts unfold by themselves

-- the last byte of xs, or p where it has none
abbrev pub last_of : ℕ → List ℕ → ℕ
last_of p [] = p
last_of p (x ∷ xs) = last_of x xs

keep_append : (t : Bool) (x : ℕ) (xs ys : List ℕ) → keep t x (xs ++ ys) ≡ keep t x xs ++ ys
keep_append true x xs ys = refl
keep_append false x xs ys = refl

-- what a byte's window shows of the bytes behind it is the same with the second part as without it
window : (p x : ℕ) (xs : List ℕ) (y : ℕ) (ys : List ℕ) → blank y ≡ false → eqb y lf ≡ false
    → goes p x (get_or (xs ++ y ∷ ys) 0 0) (get_or (xs ++ y ∷ ys) 1 0) ≡ goes p x (get_or xs 0 0) (get_or xs 1 0)
window p x [] y ys b l = simp (b, l)
window p x (w ∷ []) y ys b l = simp b
window p x (w ∷ (z ∷ xs)) y ys b l = refl

pub seam : (p : ℕ) (xs : List ℕ) (y : ℕ) (ys : List ℕ) → blank y ≡ false → eqb y lf ≡ false
    → unfolded_after p (xs ++ y ∷ ys) ≡ unfolded_after p xs ++ unfolded_after (last_of p xs) (y ∷ ys)
unfolding unfolded_after
seam p [] y ys b l = refl
seam p (x ∷ xs) y ys b l =
    ap (λ (l : List ℕ). keep (goes p x (get_or (xs ++ y ∷ ys) 0 0) (get_or (xs ++ y ∷ ys) 1 0)) x l) (seam x xs y ys b l)
    ∙ rw (window p x xs y ys b l) (keep_append (goes p x (get_or xs 0 0) (get_or xs 1 0)) x (unfolded_after x xs) (unfolded_after (last_of x xs) (y ∷ ys)))

-- which byte stands before a list matters only where it is an LF and a blank follows
pub fresh : (p : ℕ) (ys : List ℕ) → blank (get_or ys 0 0) && eqb p lf ≡ false → unfolded_after p ys ≡ unfolded ys
unfolding unfolded_after
fresh p [] h = refl
fresh p (y ∷ ys) h = rw (h, and-false (blank y))

-- ---- breaks

after_blank : (b : ℕ) (ys : List ℕ) → blank b ≡ true → unfolded_after b ys ≡ unfolded ys
after_blank b ys h = fresh b ys (rw (blank_no_lf b h) (and-false (blank (get_or ys 0 0))))

-- a break with a blank behind it goes, with a CR and without
pub break_goes : (b : ℕ) (ys : List ℕ) → blank b ≡ true → unfolded (lf ∷ b ∷ ys) ≡ unfolded ys
unfolding unfolded_after
break_goes b ys h = rw (h, blank_no_lf b h) (after_blank b ys h)

pub cr_break_goes : (p b : ℕ) (ys : List ℕ) → blank b ≡ true → unfolded_after p (cr ∷ lf ∷ b ∷ ys) ≡ unfolded ys
unfolding unfolded_after
cr_break_goes p b ys h = rw (h, blank_no_lf b h) (after_blank b ys h)

-- a line break that stays: what is before it and what is behind it unfold by themselves. Nothing is asked of xs
pub line : (xs ys : List ℕ) → blank (get_or ys 0 0) ≡ false → unfolded (xs ++ cr ∷ lf ∷ ys) ≡ unfolded xs ++ cr ∷ lf ∷ unfolded ys
unfolding unfolded_after
line xs ys h = seam 0 xs cr (lf ∷ ys) refl refl ∙ rw (h, fresh lf ys (rw h))

-- a line break that goes, with one blank: what is behind the blank may begin with any byte. Nothing is asked of xs
pub joined : (xs : List ℕ) (b : ℕ) (ys : List ℕ) → blank b ≡ true → unfolded (xs ++ cr ∷ lf ∷ b ∷ ys) ≡ unfolded xs ++ unfolded ys
joined xs b ys h = seam 0 xs cr (lf ∷ b ∷ ys) refl refl ∙ rw (cr_break_goes (last_of 0 xs) b ys h)

-- ---- bytes before the first fold

-- a CR goes only if it is the last of them
no_cr_goes : (n x : ℕ) (xs : List ℕ) → n ≤ to_fold xs → eqb (last_of x (take n xs)) cr && breaks (drop n xs) ≡ false → eqb x cr && breaks xs ≡ false
no_cr_goes zero x xs h c = c
no_cr_goes (suc n) x [] h c = and-false (eqb x cr)
no_cr_goes (suc n) x (y ∷ xs) h c = rw (ahead n y xs h).0 (and-false (eqb x cr))

stays_after : (p n : ℕ) (xs : List ℕ) → blank (get_or xs 0 0) && eqb p lf ≡ false → n ≤ to_fold xs
    → eqb (last_of p (take n xs)) cr && breaks (drop n xs) ≡ false → unfolded_after p xs ≡ take n xs ++ unfolded (drop n xs)
unfolding unfolded_after
stays_after p zero xs f h c = fresh p xs f
stays_after p (suc n) [] f h c = absurd (none n h)
stays_after p (suc n) (x ∷ xs) f h c =
    let a = ahead n x xs h in
    rw (a.0, f, no_cr_goes n x xs a.1 c) (ap (◌∷◌ x) (stays_after x n xs (and_comm (blank (get_or xs 0 0)) (eqb x lf) ∙ a.0) a.1 c))

-- they stay, be they n or all, unless their last is a CR that the fold takes along
pub stays : (n : ℕ) (xs : List ℕ) → n ≤ to_fold xs → eqb (last_of 0 (take n xs)) cr && breaks (drop n xs) ≡ false
    → unfolded xs ≡ take n xs ++ unfolded (drop n xs)
stays n xs h c = stays_after 0 n xs (and-false (blank (get_or xs 0 0))) h c

-- ---- bytes without LF

-- every byte is other than LF
abbrev pub Unbroken : List ℕ → Type 0
Unbroken xs = run (other lf) xs ≡ length xs

pub unbroken : (xs : List ℕ) → Unbroken xs → unfolded xs ≡ xs
unbroken xs w =
    let d : drop (length xs) xs ≡ [] = drop_of_length-le xs {i = length xs} (omega arith) in
    stays (length xs) xs (omega (arith, before_break xs)) (rw d (and-false (eqb (last_of 0 (take (length xs) xs)) cr)))
    ∙ rw (d, nothing 0, append-nil, take_all (length xs) xs (omega arith))

-- a fold: a piece of a line, then CR LF and a blank, then the rest of the line, folded or not
pub piece : (xs : List ℕ) (b : ℕ) (ys : List ℕ) → Unbroken xs → blank b ≡ true → unfolded (xs ++ cr ∷ lf ∷ b ∷ ys) ≡ xs ++ unfolded ys
piece xs b ys w h = joined xs b ys h ∙ rw (unbroken xs w)
