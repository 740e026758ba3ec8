-- By halves alone, or with a scale of one. Assumes nothing.
use Rattle.weigh.proofs.Weighing.{unscaled}
use Rattle.weigh.proofs.value.Goals as goal

pub returns-else-point-le-BLOCK : goal.returns-else-point-le-BLOCK
returns-else-point-le-BLOCK g c = unscaled _ _ c.one.ensures c.weigh.ensures
