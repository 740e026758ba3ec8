-- `lowering::product` meets its contract: word by word. Assumes nothing.
use Rattle.std.proofs.Common.{rules}
use Rattle.field.proofs.Laws.{scaled}
use Rattle.lowering.proofs.product.Goals as goal

pub returns : goal.returns
returns c = scaled _ _ (search rules) (record { each = search rules })
