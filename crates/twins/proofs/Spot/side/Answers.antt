-- `Spot::side`: the row is there.
use Rattle.walking.proofs.Rows.{row_there}
use Rattle.twins.proofs.Spot.side.Goals as goal

pub window-requires-clause-row_in_bounds : goal.window-requires-clause-row_in_bounds
window-requires-clause-row_in_bounds c = row_there c.args.walk.now.tables.components.now c.args.self.row c.requires.there
