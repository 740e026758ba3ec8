-- Zeros behind the words that are copied. Assumes nothing.
use Rattle.std.proofs.Common.{◌++◌, ap₂}
use Rattle.std.proofs.lemmas.List.{drop-replicate}
use Rattle.plan.proofs.padded.Goals as goal

pub returns : goal.returns
returns c = ap₂ ◌++◌ c.copy_from_slice.ensures.after (drop-replicate _ _ _)
