-- Laws of the key at the front of a line. Assumes nothing.
use mathlib.Core.Path.{◌≡◌, refl, sym, ap, ◌∙◌}
use mathlib.Core.Bool.{Bool, true, false}
use mathlib.Core.List.{List, [], ◌∷◌}
use Prim.Native.Nat.{ℕ, ◌+◌, ◌-◌}
use native.Mathlib.Omega.{arith}
use lib.ListN.{get_or}
use borrow.Author.Tests.{ne_eqb}
use Rattle.octets.specs.Choice.{pick}
use Rattle.octets.specs.Bytes.{key_byte, between, lowered}
use Rattle.octets.specs.Runs.{run}
use Rattle.octets.specs.Words.{starts_word, begin_word, end_word}
use Rattle.octets.specs.Keys.{opens_reserved, reserved, key_of}
use Rattle.std.specs.Prelude.{Some, None}

pub refused : (line : List ℕ) → reserved line ≡ true → key_of line ≡ None
refused line e = ap (λ (t : Bool). pick t None (Some (run key_byte line))) e

pub taken : (line : List ℕ) → reserved line ≡ false → key_of line ≡ Some (run key_byte line)
taken line e = ap (λ (t : Bool). pick t None (Some (run key_byte line))) e

-- the key that is taken is the run of key bytes
pub run_of : (line : List ℕ) (n : ℕ) → key_of line ≡ Some n → n ≡ run key_byte line
run_of line n e = go (reserved line) refl
  where
    go : (t : Bool) → reserved line ≡ t → n ≡ run key_byte line
    go true p = let q : None ≡ Some n = sym (refused line p) ∙ e in cc
    go false p = let q : Some (run key_byte line) ≡ Some n = sym (taken line p) ∙ e in cc

-- a word whose first letter, small or capital, begins BEGIN or END stands at the front of no line that begins otherwise
pub no_word : (word line : List ℕ) → opens_reserved (lowered (get_or word 0 0)) ≡ true → opens_reserved (lowered (get_or word 0 0) - 32) ≡ true
    → opens_reserved (get_or line 0 0) ≡ false → starts_word word line ≡ false
unfolding starts_word
no_word [] line small capital e = cc
no_word (w ∷ ws) [] small capital e = refl
no_word (w ∷ ws) (x ∷ xs) small capital e = rw (ne_eqb (lowered x) (lowered w) (go (between 65 90 x)))
  where
    never : (y : ℕ) → opens_reserved y ≡ true → x ≡ y → ⊥
    never y o q = let z : ◌≡◌ {A = ℕ} 0 1 = cc in omega arith

    go : (t : Bool) → pick t (x + 32) x ≡ lowered w → ⊥
    go true q = never (lowered w - 32) capital (omega arith)
    go false q = never (lowered w) small q

pub not_reserved : (line : List ℕ) → opens_reserved (get_or line 0 0) ≡ false → reserved line ≡ false
not_reserved line e = rw (no_word begin_word line refl refl e, no_word end_word line refl refl e)
