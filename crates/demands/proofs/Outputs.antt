-- An output that is answered Done stands at the front of its buffer. Assumes nothing.
use mathlib.Core.Path.{◌≡◌, refl}
use mathlib.Core.Bool.{Bool, true, false}
use mathlib.Core.List.{List}
use Prim.Native.Nat.{ℕ}
use native.Mathlib.Omega.{arith}
use lib.ListN.{length, drop}
use lib.Seq.{take-append_seam}
use lib.Dec.{leb}
use borrow.Author.Tests.{leb-true}
use Rattle.octets.specs.Choice.{pick}
use Rattle.octets.specs.Answers.{done, no_out_room, output, room_answer, out_after}
use Rattle.octets.specs.declared.Output.{Output}
use Rattle.octets.proofs.Laid.{whole}
use Rattle.demands.specs.Outputs.{told_bytes}

pub at_front : (bytes old : List ℕ) → (room_answer (length bytes) (length old)).answer ≡ done
    → told_bytes (room_answer (length bytes) (length old)) (out_after (room_answer (length bytes) (length old)) bytes old) ≡ bytes
at_front bytes old e = by (leb (length bytes) (length old)) refl e
  where
    told : Bool → Output
    told t = pick t (output done 0 (length bytes)) (output no_out_room 0 (length bytes))

    by : (t : Bool) → leb (length bytes) (length old) ≡ t → (told t).answer ≡ done → told_bytes (told t) (out_after (told t) bytes old) ≡ bytes
    by true h q = rw (whole bytes old (leb-true _ _ h)) (take-append_seam bytes (drop (length bytes) old))
    by false h q = absurd (omega arith)
