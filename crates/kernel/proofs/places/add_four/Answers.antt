-- A place more. Assumes nothing.
use Rattle.kernel.proofs.Placing.{column_there, still_open}
use Rattle.kernel.proofs.places.add_four.Goals as goal

pub add_place-requires-clause-words : goal.add_place-requires-clause-words
add_place-requires-clause-words c = column_there c.requires.words c.loop-i-test.true

pub add_place-requires-clause-room : goal.add_place-requires-clause-room
add_place-requires-clause-room c = still_open c.loop-i.invariant.1 c.requires.room c.loop-i-test.true
