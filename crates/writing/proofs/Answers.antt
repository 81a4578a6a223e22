-- What the writer answers, one reason after the other. Assumes nothing.
use mathlib.Core.Path.{◌≡◌, sym, ap, ◌∙◌}
use Prim.Native.Nat.{ℕ}
use lib.ListN.{length}
use Rattle.std.specs.Prelude.{Some, None, Result, Ok, Err}
use Rattle.std.specs.Result.{MatchResult, IsErrAnd}
use Rattle.octets.specs.Answers.{done, bad_table, output}
use Rattle.octets.proofs.Answers.{told_no_done}
use Rattle.octets.specs.declared.Output.{Output}
use Rattle.tables.specs.Lent.{Lent, held, broken_in}
use Rattle.tables.specs.declared.Tables.{Tables}
use Rattle.writable.specs.WritingRule.{judged_in, number_of}
use Rattle.writable.specs.declared.Unfit.{Unfit}
use Rattle.writable.specs.declared.Fault.{Fault}
use Rattle.writing.specs.Answers.{written_in, by_length, write_answer, Judged, Refused}

-- by the rules: the first broken row, the first that cannot be written, or the length
module _ (b : Lent) (room : ℕ) where
  pub broken_row : {row : ℕ} → broken_in b ≡ Some row → output bad_table row 0 ≡ write_answer b room
  unfolding write_answer
  broken_row e = rw e

  module _ (none : broken_in b ≡ None) where
    pub unfit_row : {unfit : Unfit} → judged_in b ≡ Err unfit → output (number_of unfit.fault) unfit.row 0 ≡ write_answer b room
    unfolding write_answer
    unfit_row e = rw (none, e)

    pub fitting : judged_in b ≡ Ok tt → {r : Output} → r ≡ by_length (length (written_in b)) room → r ≡ write_answer b room
    unfolding write_answer
    fitting e p = p ∙ rw (none, e)

-- tables that are found to meet both rules
pub fits : {lent checked : Tables} → Judged lent checked → broken_in (held checked) ≡ None → (room : ℕ)
    → {r : Output} → r ≡ by_length (length (written_in (held checked))) room → r ≡ write_answer (held lent) room
fits {lent} j none room e = fitting (held lent) room (ap (λ (t : Tables). broken_in (held t)) (sym j.same) ∙ none) j.fit (e ∙ ap (λ (t : Tables). by_length (length (written_in (held t))) room) j.same)

-- ---- what refuses them

no_done : (fault : Fault) {row : ℕ} {r : Output} → r ≡ output (number_of fault) row 0 → r.answer ≡ done → ⊥
no_done Fault.Unwritable e = told_no_done e
no_done Fault.NotUtf8 e = told_no_done e

module _ (b : Lent) {refusal : Output} where
  pub row_refused : {row : ℕ} → broken_in b ≡ Some row → refusal ≡ output bad_table row 0 → Refused b refusal
  row_refused broken e = record { answers = λ room. e ∙ broken_row b room broken; refuses = told_no_done e }

  pub unfit_refused : broken_in b ≡ None → {unfit : Unfit} → judged_in b ≡ Err unfit → refusal ≡ output (number_of unfit.fault) unfit.row 0 → Refused b refusal
  unfit_refused none {unfit} judged e = record { answers = λ room. e ∙ unfit_row b room none judged; refuses = no_done unfit.fault e }

-- a result whose error another takes the place of
module _ {C E D : Type 0} (P : C → Type 0) (Q : E → Type 0) (Post : E → D → Type 0) where
  pub mapped_err : (r : Result C E) {m : Result C D} {d : D} → MatchResult r (λ x. m ≡ Ok x) (λ e. IsErrAnd m (Post e)) → MatchResult r P Q → m ≡ Err d → (e : E) × Q e × Post e d
  mapped_err (Ok x) cases k e = cc
  mapped_err (Err y) cases k e = (y, k, rw e at cases)

  pub mapped_ok : (r : Result C E) {m : Result C D} {x : C} → MatchResult r (λ x. m ≡ Ok x) (λ e. IsErrAnd m (Post e)) → MatchResult r P Q → m ≡ Ok x → P x
  mapped_ok (Ok y) {x = x} cases k e = let same : y ≡ x = cc in rw same at k
  mapped_ok (Err y) cases k e = absurd (rw e at cases)
