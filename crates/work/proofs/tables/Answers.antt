-- `work::tables` meets its contract. Assumes nothing.
use Rattle.work.proofs.Weights.{apart}
use Rattle.work.proofs.tables.Goals as goal

pub returns : goal.returns
returns c = apart _ _ c.requires _ c.rows.ensures c.split_at.ensures.front c.split_at.ensures.back
