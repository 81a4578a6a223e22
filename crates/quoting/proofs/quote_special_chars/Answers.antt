-- A value that is not too long is quoted if there is room.
use Rattle.std.proofs.Common.{length, refl, rules}
use Rattle.quoting.specs.Quoting.{quoted}
use Rattle.quoting.proofs.Laws.{counts}
use Rattle.quoting.proofs.quote_special_chars.Goals as goal

pub returns : goal.returns
returns c =
    let value = c.args.value.now in
    let old = c.args.out.now in
    let by_room = c.lay_if_room.ensures (quoted value) (λ lent back n e. search rules) in
    let told = counts value (length old) c.if-value-gt-LONGEST.false refl by_room.0 in
    (told, rw told at by_room.1)
