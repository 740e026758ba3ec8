-- All words at once, into places of zero. Assumes nothing.
use Rattle.std.proofs.Common.{ap, ◌∙◌}
use Rattle.plan.specs.Plan.{gained_by}
use Rattle.plan.proofs.Joining.{begins, whole}
use Rattle.piece.proofs.fold_whole.Goals as goal

pub add-requires : goal.add-requires
add-requires c = begins c.requires c.clear.ensures

pub returns : goal.returns
returns c =
    whole c.args.plan.now c.args.table.now c.args.out.now c.requires.room
    (c.add.ensures ∙ ap (gained_by c.args.plan.now 0 c.args.table.now) c.clear.ensures)
