-- A text as long as its value is the value.
use Rattle.std.proofs.Common.{arith, sym, ◌∙◌, ap, List, ℕ}
use Rattle.octets.specs.Laid.{laid}
use Rattle.escapes.proofs.Places.{scanned_fine}
use Rattle.escapes.proofs.Reading.{text_itself}
use Rattle.escapes.proofs.lay_text.Goals as goal

pub returns-then-needed-value : goal.returns-then-needed-value
returns-then-needed-value c =
    let value = c.args.value.now in
    let s = scanned_fine c.args.mode value c.args.needed c.requires.0 in
    c.put.ensures ∙ ap (λ (xs : List ℕ). laid xs c.args.out.now) (sym (text_itself value (omega arith)))

pub lay_units-requires : goal.lay_units-requires
lay_units-requires c =
    let s = scanned_fine c.args.mode c.args.value.now c.args.needed c.requires.0 in
    (s.0, omega arith)
