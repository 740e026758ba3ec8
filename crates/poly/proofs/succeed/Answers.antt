-- Every value of the body, in one lemma. Assumes nothing.
use Rattle.std.proofs.Common.{rules}
use Rattle.poly.proofs.Succeeding.{kept, succeeded}
use Rattle.poly.proofs.succeed.Goals as goal

pub add-requires : goal.add-requires
add-requires c = ((kept _ _ _ c.requires.own c.shift-last.ensures.moved c.get-kept.ensures).below, search rules)

pub returns : goal.returns
returns c =
    let s = c.shift-last.ensures in
    succeeded _ _ _ c.requires.own s.moved _ _ _ s.last c.get-kept.ensures c.add.ensures c.put.ensures
