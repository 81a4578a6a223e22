-- `writable::View::value_verdict`: each way out by its law.
use native.Mathlib.Omega.{arith}
use mathlib.Core.Path.{◌≡◌, sym, ap, ◌∙◌}
use mathlib.Core.Bool.{true}
use lib.ListN.{length}
use Rattle.octets.specs.Bytes.{cr, lf, other}
use Rattle.octets.specs.Runs.{only}
use Rattle.characters.specs.Utf8.{utf8_run}
use Rattle.characters.specs.Quick.{common_text}
use Rattle.writable.specs.Views.{bytes_of}
use Rattle.writable.proofs.Laws.{common_view, fine_value, common_value, has_break_holds, not_utf8, all_utf8}
use Rattle.writable.proofs.View.value_verdict.Goals as goal

pub returns-then-is_seen : goal.returns-then-is_seen
returns-then-is_seen c = fine_value _ (common_view (bytes_of c.args.self.now) (c.is_seen.ensures c.if-is_seen.true))

pub returns-then-is_common_text : goal.returns-then-is_common_text
returns-then-is_common_text c =
    let e : common_text (bytes_of c.args.self.now) ≡ true = sym (ap common_text c.bytes-value.ensures) ∙ cc in
    common_value _ e

pub returns-then-not-lacks : goal.returns-then-not-lacks
returns-then-not-lacks c =
    has_break_holds (bytes_of c.args.self.now) (c.lacks.ensures ∙ ap (only (other cr)) c.bytes-value.ensures) (c.lacks-2.ensures ∙ ap (only (other lf)) c.bytes-value.ensures) c.if-not-lacks.true

pub returns-then-utf8_run-value : goal.returns-then-utf8_run-value
returns-then-utf8_run-value c =
    not_utf8 (bytes_of c.args.self.now) (c.lacks.ensures ∙ ap (only (other cr)) c.bytes-value.ensures) (c.lacks-2.ensures ∙ ap (only (other lf)) c.bytes-value.ensures)
    c.if-not-lacks.false (c.utf8_run.ensures ∙ ap utf8_run c.bytes-value.ensures) (omega (arith, c.if-utf8_run-value.true, ap length c.bytes-value.ensures))

pub returns : goal.returns
returns c =
    all_utf8 (bytes_of c.args.self.now) (c.lacks.ensures ∙ ap (only (other cr)) c.bytes-value.ensures) (c.lacks-2.ensures ∙ ap (only (other lf)) c.bytes-value.ensures)
    c.if-not-lacks.false (c.utf8_run.ensures ∙ ap utf8_run c.bytes-value.ensures) (omega (arith, c.if-utf8_run-value.false, ap length c.bytes-value.ensures))
