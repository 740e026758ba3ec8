-- The own row's weight. Assumes nothing.
use Rattle.std.proofs.Common.{sym, ◌∙◌, arith}
use Rattle.piece.proofs.own.Owning.{own_there}
use Rattle.piece.proofs.FewRows.{with_own}
use Rattle.piece.proofs.few_rows.weights_of.Goals as goal

pub returns-in-Some : goal.returns-in-Some
returns-in-Some g c =
    let q = sym c.own_row.ensures ∙ c.in-Some.is in
    let there = own_there c.args.weight (omega (arith, c.requires.few)) q in
    with_own (rw c.skip_of.ensures at c.weights_of-weights.ensures) q there c.read.ensures c.add.ensures
