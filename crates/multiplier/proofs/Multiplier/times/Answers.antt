-- `multiplier::Multiplier::times` meets its contract: its words are the four coordinates. Assumes nothing.
use Rattle.field.proofs.Laws.{four_words_lem}
use Rattle.multiplier.proofs.Multiplier.times.Goals as goal

pub returns : goal.returns
returns c = four_words_lem _ c.coordinate.ensures c.coordinate-2.ensures c.coordinate-3.ensures c.coordinate-4.ensures
