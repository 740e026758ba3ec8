-- The rows from the first that is moved on. Assumes nothing.
use Rattle.moved.proofs.RowByRow.{first_scatters, rows_added}
use Rattle.moved.proofs.Piece.by_rows.Goals as goal

pub scatter-requires : goal.scatter-requires
scatter-requires c = first_scatters c.args.self.now c.requires c.skip_of.ensures c.before-early.ensures c.saturating_sub-from.ensures

pub returns : goal.returns
returns c = rows_added c.args.self.now c.requires c.skip_of.ensures c.before-early.ensures c.saturating_sub-from.ensures c.scatter.ensures
