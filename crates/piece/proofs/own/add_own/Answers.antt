-- No row of its own, or the words of one. Assumes nothing.
use Rattle.std.proofs.Common.{◌<◌, ◌∙◌, sym, arith}
use lib.Pow.{pow_pos}
use Rattle.piece.proofs.own.Owning.{own_there, none_own, stands, row_own}
use Rattle.piece.proofs.own.add_own.Goals as goal

pub add_row-requires : goal.add_row-requires
add_row-requires c =
    let some : 0 < c.rows-rows.result = omega (arith, c.rows-rows.ensures, pow_pos c.args.piece.now.point.count) in
    let there = own_there c.args.piece.now.weight some (sym c.own_row.ensures ∙ c.in-Some.is) in
    (c.requires, rw c.of.ensures (stands c.args.piece.now there c.rows-rows.ensures c.args.side))

pub returns-in-Some : goal.returns-in-Some
returns-in-Some c =
    row_own c.args.piece.now c.args.side c.rows-rows.ensures (sym c.own_row.ensures ∙ c.in-Some.is) c.of.ensures c.add_row.ensures

pub returns-in_default : goal.returns-in_default
returns-in_default c =
    none_own c.args.piece.now c.args.side c.requires c.rows-rows.ensures (sym c.own_row.ensures ∙ c.in_default.is)
