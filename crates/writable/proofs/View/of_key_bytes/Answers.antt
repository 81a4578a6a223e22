-- `writable::View::of_key_bytes`: capital letters are key bytes.
use mathlib.Core.Path.{sym}
use Rattle.writable.specs.Views.{bytes_of}
use Rattle.writable.proofs.Laws.{capital_view}
use Rattle.writable.proofs.View.of_key_bytes.Goals as goal

pub returns-then-is_seen : goal.returns-then-is_seen
returns-then-is_seen c = sym (capital_view (bytes_of c.args.self.now) (c.is_seen.ensures c.if-is_seen.true))
