-- `writing::name_of`: the row is there, and its name is viewed.
use mathlib.Core.Path.{◌∙◌}
use Rattle.walking.proofs.Rows.{row_there, name_is}
use Rattle.writing.proofs.name_of.Goals as goal

pub at-c-requires : goal.at-c-requires
at-c-requires c = row_there c.args.tables.now.components.now c.args.row c.requires

pub returns : goal.returns
returns c =
    let t = c.args.tables.now in
    c.view.ensures.bytes_value ∙ name_is t.text.now t.components.now c.args.row c.requires c.at-c.ensures
