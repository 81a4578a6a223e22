-- What is laid over the front of two buffers is the same front in both. Assumes nothing.
use mathlib.Core.Path.{◌≡◌, refl, sym, subst, ◌∙◌}
use mathlib.Core.List.{List}
use Prim.Native.Nat.{ℕ, ◌*◌, ◌/◌, ◌≤◌, zero-le}
use native.Mathlib.Nat.{mul_comm, le-div_iff_mul-le}
use lib.ListN.{length, take, drop}
use lib.Seq.{take-append_seam, drop-append_seam}
use Rattle.octets.specs.Laid.{laid}
use Rattle.octets.proofs.Laid.{whole}
use Rattle.tables.specs.Rows.{flat}
use Rattle.tables.proofs.Laws.{Shape, length_flat}
use Rattle.demands.specs.Room.{SameFront}

pub untouched : (old old' : List ℕ) → SameFront 0 old old old' old'
untouched old old' = record { inside = zero-le; inside' = zero-le; front = refl; rest = refl; rest' = refl }

module _ (ws : List ℕ) where
  laid_front : (old : List ℕ) → length ws ≤ length old → take (length ws) (laid ws old) ≡ ws
  laid_front old h = rw (whole ws old h, take-append_seam)

  laid_rest : (old : List ℕ) → length ws ≤ length old → drop (length ws) (laid ws old) ≡ drop (length ws) old
  laid_rest old h = rw (whole ws old h, drop-append_seam)

  pub same_laid : (old old' : List ℕ) → length ws ≤ length old → length ws ≤ length old' → SameFront (length ws) old (laid ws old) old' (laid ws old')
  same_laid old old' h h' =
      record {
        inside = h;
        inside' = h';
        front = laid_front old' h' ∙ sym (laid_front old h);
        rest = laid_rest old h;
        rest' = laid_rest old' h';
      }

-- the same for rows
module _ {A : Type 0} {size : ℕ} {words : A → List ℕ} {from : List ℕ → ℕ → A} (shape : Shape size words from) (rows : List A) where
  pub rows_fit : (old : List ℕ) → length rows ≤ length old / size → size * length rows ≤ length old
  rows_fit old h = rw (mul_comm (length rows) size) at ((le-div_iff_mul-le shape.some).0 h)

  pub same_rows : (old old' : List ℕ) → length rows ≤ length old / size → length rows ≤ length old' / size
      → SameFront (size * length rows) old (laid (flat words rows) old) old' (laid (flat words rows) old')
  same_rows old old' h h' =
      let n = length_flat shape rows in
      subst (λ (k : ℕ). SameFront k old (laid (flat words rows) old) old' (laid (flat words rows) old')) n
      (same_laid (flat words rows) old old' (rw n (rows_fit old h)) (rw n (rows_fit old' h')))
