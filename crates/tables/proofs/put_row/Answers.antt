-- `tables::put_row`: without room for the row the table stays, and with room the words lie in their place.
use Rattle.std.proofs.Common.{arith}
use Rattle.tables.proofs.Laws.{put_laid}
use Rattle.tables.proofs.put_row.Goals as goal

pub returns : goal.returns
returns c =
    put_laid c.args.row _ c.args.words.now c.args.table.now c.copy_from_slice.new.self c.requires c.if-table-size.false (omega arith)
    c.copy_from_slice.ensures.after
