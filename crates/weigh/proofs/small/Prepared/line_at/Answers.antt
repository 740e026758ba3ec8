-- The coordinate and its product by X⁴. Assumes nothing.
use Rattle.weigh.proofs.FewVariables.{factor_raised, on_line}
use Rattle.weigh.proofs.small.Prepared.line_at.Goals as goal

pub plus_by-requires : goal.plus_by-requires
plus_by-requires c = (
  (c.sub.ensures.below, c.read-r.ensures.below),
  factor_raised c.args.self.point c.args.self.raised_is c.requires.1 c.read-r.ensures c.get-t.ensures,
)

pub returns : goal.returns
returns c = on_line _ _ c.read-r.ensures c.sub.ensures c.plus_by.ensures
