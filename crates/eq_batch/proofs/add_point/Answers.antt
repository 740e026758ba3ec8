-- A point of one block; a block more. Assumes nothing.
use Rattle.std.proofs.Common.{◌≡◌, ◌-◌, ◌≤◌, arith}
use Rattle.eq_batch.proofs.BlockByBlock.{cut_of, start, reaches, reduced, turn, finish}
use Rattle.eq_batch.proofs.OneBlock.{placed, gained}
use Rattle.eq_batch.proofs.add_point.Goals as goal

pub add_table-requires : goal.add_table-requires
add_table-requires c =
    let few : c.min-low.result ≤ c.args.point.count = omega (arith, c.min-low.ensures) in
    let none : c.args.point.count - c.min-low.result ≡ 0 = omega (arith, c.first-first.ensures.count, c.if-first-eq0.true) in
    placed few none c.rows-rows.ensures _ c.block_of-room.ensures c.requires.1

pub returns-then-first-eq0 : goal.returns-then-first-eq0
returns-then-first-eq0 c =
    let few : c.min-low.result ≤ c.args.point.count = omega (arith, c.min-low.ensures) in
    let none : c.args.point.count - c.min-low.result ≡ 0 = omega (arith, c.first-first.ensures.count, c.if-first-eq0.true) in
    gained few none c.rows-rows.ensures _ c.block_of-room.ensures c.add_table.ensures

pub loop-h-init : goal.loop-h-init
loop-h-init c = start _ _ _ _ _

pub gain-requires : goal.gain-requires
gain-requires c =
    let end = rw c.first-first.ensures.count at c.rows-h-end.ensures in
    let cut = cut_of _ _ _ _ _ c.min-low.ensures c.rows-rows.ensures end in
    record {
      reaches = reaches _ _ _ cut _ _ _ c.loop-h.invariant c.loop-h-test.true c.block_of-room.ensures c.requires.1;
      reduced = reduced _ _ _ cut _ _ _ c.loop-h.invariant c.loop-h-test.true c.block_of-room.ensures c.requires.1;
    }

pub loop-h-preserved : goal.loop-h-preserved
loop-h-preserved c =
    let end = rw c.first-first.ensures.count at c.rows-h-end.ensures in
    let cut = cut_of _ _ _ _ _ c.min-low.ensures c.rows-rows.ensures end in
    let row = rw (c.first-first.ensures.words, c.first-first.ensures.count) at c.at_row-seed.ensures in
    turn _ _ _ cut _ _ _ c.loop-h.invariant c.loop-h-test.true c.block_of-room.ensures _ row (rw c.new.ensures at c.gain.ensures)

pub returns : goal.returns
returns c =
    let end = rw c.first-first.ensures.count at c.rows-h-end.ensures in
    let cut = cut_of _ _ _ _ _ c.min-low.ensures c.rows-rows.ensures end in
    let q : c.loop-h.h ≡ c.rows-h-end.result = omega arith in
    finish _ _ _ cut _ c.loop-h.invariant q
