-- Serves laws only. Unfolding once more, in the words of document 01: a pass that looks at what stands at the front, and passes over the bytes that go.
-- A law of proofs/OnePass.antt shows that it is `unfolded`.
-- Assumes nothing.
use Rattle.std.specs.Prelude.{ℕ, zero, suc, ◌&&◌, List, [], ◌∷◌, get_or, eqb}
use Rattle.octets.specs.Choice.{pick}
use Rattle.octets.specs.Bytes.{blank, cr, lf}

-- k bytes are passed over. Then an LF and a blank go, or a CR, an LF and a blank; any other byte stays
unfoldable pub one_pass : ℕ → List ℕ → List ℕ
one_pass k [] = []
one_pass zero (x ∷ xs) =
    pick (eqb x lf && blank (get_or xs 0 0)) (one_pass 1 xs)
    (pick (eqb x cr && (eqb (get_or xs 0 0) lf && blank (get_or xs 1 0))) (one_pass 2 xs) (x ∷ one_pass zero xs))
one_pass (suc k) (x ∷ xs) = one_pass k xs
