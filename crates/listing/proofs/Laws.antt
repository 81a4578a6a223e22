-- Laws of the texts of a listing: digits one by one, lines row by row, and which text stands where. Assumes nothing.
use mathlib.Core.Path.{◌≡◌, refl}
use mathlib.Core.List.{List, [], ◌∷◌, ◌++◌}
use Prim.Native.Nat.{ℕ, zero, suc, ◌+◌, ◌-◌, ◌/◌, ◌≤◌, ◌<◌}
use native.Mathlib.Numerals.{sub-one}
use native.Mathlib.Omega.{arith}
use lib.ListN.{length}
use borrow.Author.Tests.{lt-ltb, le-ltb, lt-leb, eq-eqb, ne_eqb}
use Rattle.octets.specs.Bytes.{space, lf, equals}
use Rattle.octets.specs.Views.{viewed}
use Rattle.octets.specs.Answers.{done, too_long}
use Rattle.tables.specs.Rows.{no_parent}
use Rattle.tables.specs.declared.ParameterRow.{ParameterRow}
use Rattle.reading.specs.Answers.{refusal}
use Rattle.tables.specs.Lent.{Lent}
use Rattle.reading.specs.declared.Reading.{Reading}
use Rattle.listing.specs.Texts.{field, digit, digits, decimal, parent_field}
use Rattle.listing.specs.Lines.{Components, Properties, Parameters, listed_parameter, listed_rows, section_text, refused}
use Rattle.listing.specs.Listing.{longest_listed, listed, listing, left_listed}

-- ---- digits

pub no_digits : (places n : ℕ) → places ≡ 0 → [] ≡ digits places n
unfolding digits
no_digits places n e = rw e

pub one_digit : (places n : ℕ) → (places ≡ 0 → ⊥) → n < 10 → digit n ∷ [] ≡ digits places n
unfolding digits
one_digit zero n some h = absurd (some refl)
one_digit (suc places) n some h = rw (lt-ltb n 10 h)

pub more_digits : (places n : ℕ) → (places ≡ 0 → ⊥) → 10 ≤ n → digits places n ≡ digits (places - 1) (n / 10) ++ digit n ∷ []
unfolding digits
more_digits zero n some h = absurd (some refl)
more_digits (suc places) n some h = rw (le-ltb n 10 h, sub-one)

pub no_parent_holds : (parent : ℕ) → parent ≡ no_parent → field (45 ∷ []) space ≡ parent_field parent
no_parent_holds parent e = rw (eq-eqb parent no_parent e)

-- ---- lines

module _ (text : List ℕ) (p : ParameterRow) where
  pub absent : p.present ≡ 0 → listed_parameter text p ≡ field (decimal p.property) space ++ field (viewed text p.key_start p.key_len) lf
  absent e = rw (eq-eqb p.present 0 e)

  pub present : (p.present ≡ 0 → ⊥)
      → listed_parameter text p ≡ field (decimal p.property) space ++ (field (viewed text p.key_start p.key_len) equals ++ field (viewed text p.value_start p.value_len) lf)
  present f = rw (ne_eqb p.present 0 f)

module _ (line : ℕ → List ℕ) (row count : ℕ) where
  pub next_line : row < count → listed_rows line row (count - row) ≡ line row ++ listed_rows line (row + 1) (count - (row + 1))
  unfolding listed_rows
  next_line h =
      let e : count - row ≡ suc (count - (row + 1)) = omega arith in
      rw e

  pub no_lines : count ≤ row → listed_rows line row (count - row) ≡ []
  unfolding listed_rows
  no_lines h =
      let e : count - row ≡ 0 = omega arith in
      rw e

-- ---- which text stands where

module _ (r : Reading) (b : Lent) where
  pub sections : r.answer ≡ done
      → section_text Components b.text b.components r.components
      ++ (section_text Properties b.text b.properties r.properties ++ section_text Parameters b.text b.parameters r.parameters) ≡ listed r b
  sections e = rw (eq-eqb r.answer done e)

module _ (feed : List ℕ) (b : Lent) where
  pub when_too_long : longest_listed < length feed → (refused (refusal too_long 0 0) ≡ listing feed b) × (b ≡ left_listed feed b)
  when_too_long h = let e = lt-leb (length feed) longest_listed h in (rw e, rw e)
