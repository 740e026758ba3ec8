-- One place alone, or the first, those between and the last. Assumes nothing.
use Rattle.moved.proofs.PlaceByPlace.{one_place, all_places}
use Rattle.moved.proofs.places.Blocks.add_places.Goals as goal

pub returns-then-first-last : goal.returns-then-first-last
returns-then-first-last g c =
    all_places c.args.self.now.piece c.rows-rows.ensures c.requires.1 c.requires.0 c.if-first-last.true c.add_range.ensures
    c.add_whole.ensures c.add_range-then-first-last.ensures

pub returns-else-first-last : goal.returns-else-first-last
returns-else-first-last g c =
    one_place c.args.self.now.piece c.rows-rows.ensures c.requires.1 c.requires.0 c.if-first-last.false c.add_range.ensures
