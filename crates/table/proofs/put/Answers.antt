-- Four words copied are an element put. Assumes nothing.
use Rattle.std.proofs.Common.{arith, append_assoc, drop-drop}
use Rattle.table.proofs.Parts.{put_parts}
use Rattle.table.proofs.put.Goals as goal

pub returns : goal.returns
returns c = grind (arith, put_parts, append_assoc, drop-drop)
