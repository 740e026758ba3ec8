-- What is said of the end. Assumes nothing.
use Rattle.program.proofs.Ending.{finished}
use Rattle.program.proofs.Program.end.Goals as goal

pub returns-clause-text : goal.returns-clause-text
returns-clause-text c = finished _ c.clear_text.ensures c.end_last_line.ensures c.close.ensures.text
