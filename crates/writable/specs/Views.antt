-- Serves inner contracts only. A part of the text as a row names it.
-- Assumes nothing.
use Rattle.std.specs.Prelude.{ℕ, List}
use Rattle.octets.specs.Views.{viewed}
use Rattle.writable.specs.declared.View.{View}

abbrev pub bytes_of : View → List ℕ
bytes_of v = viewed v.text.now v.start v.len
