-- A word for each row: none is missing. Assumes nothing.
use Rattle.weigh.proofs.WordTables.{nearly}
use Rattle.weigh.proofs.entries.WordsEntries.weigh.Goals as goal

pub weigh-requires : goal.weigh-requires
weigh-requires c = (c.requires.0, nearly c.requires.1)
