-- Nothing is missing on the suffix side. Assumes nothing.
use Rattle.padding.proofs.Missing.{unpadded, on_suffix}
use Rattle.padding.proofs.pad.Goals as goal

pub returns-in-Suffix : goal.returns-in-Suffix
returns-in-Suffix c =
    unpadded c.args.plan c.args.taken c.args.last.now (on_suffix c.args.plan c.args.taken c.in-Suffix.is) c.requires.room
    c.requires.out_below
