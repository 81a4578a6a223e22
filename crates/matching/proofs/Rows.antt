-- Two property rows compared in key and value. Assumes nothing.
use Prim.Native.Nat.{ℕ}
use mathlib.Core.Path.{◌≡◌}
use mathlib.Core.Bool.{Bool, ◌&&◌}
use mathlib.Core.List.{List}
use Rattle.octets.specs.Views.{viewed}
use Rattle.tables.specs.declared.PropertyRow.{PropertyRow}
use Rattle.comparing.specs.Pieces.{same_key}

module _ (values : List ℕ → List ℕ → Bool) (text : List ℕ) where
  abbrev pub alike_rows : PropertyRow → PropertyRow → Bool
  alike_rows p q =
      same_key (viewed text p.key_start p.key_len) (viewed text q.key_start q.key_len)
      && values (viewed text p.value_start p.value_len) (viewed text q.value_start q.value_len)

  -- the rows as they are read
  pub rows_read : {same : Bool} {p q p' q' : PropertyRow} → same ≡ alike_rows p q → p ≡ p' → q ≡ q' → alike_rows p' q' ≡ same
  rows_read t e f = cc
