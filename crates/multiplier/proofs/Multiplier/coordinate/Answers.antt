-- `multiplier::Multiplier::coordinate` meets its contract: the row's sum, divided by 2³². Assumes nothing.
use Rattle.multiplier.proofs.Rows.{row_word}
use Rattle.multiplier.proofs.Multiplier.coordinate.Goals as goal

pub returns : goal.returns
returns g c = rw (c.lower.ensures, c.lines-s.ensures.once_is, c.lines-s.ensures.back_is) (row_word c.args.self _ _ c.requires.0)
