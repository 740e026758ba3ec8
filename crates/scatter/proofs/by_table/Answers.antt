-- Four rows more. Assumes nothing.
use Rattle.std.proofs.Common.{rules, ◌+◌, ◌*◌, ◌/◌, ◌≤◌, length, arith}
use Rattle.table.proofs.Parts.{after_length, after_below}
use Rattle.scatter.proofs.WholeRows.{four_within, no_rows, four_more}
use Rattle.scatter.proofs.by_table.Goals as goal

pub loop-j-init : goal.loop-j-init
loop-j-init c = (omega arith, no_rows _ _ _ _ c.requires.out_below)

pub gain_rows-requires : goal.gain_rows-requires
gain_rows-requires c =
    let start = 4 * c.loop-j.j * (length c.args.out.now / 4) in
    let within : start + 4 * (length c.args.out.now / 4) ≤ length c.args.words.now =
    four_within _ _ _ c.loop-j-test.true c.requires.rows_are.there in (
      omega arith,
      (
        record {
          room = omega (arith, c.loop-j.invariant.1.len, c.requires.rows_are.room);
          there = omega (arith, within, after_length start c.args.words.now);
          words_below = after_below start c.args.words.now c.requires.rows_are.words_below;
        },
        search rules,
      ),
    )

pub loop-j-preserved : goal.loop-j-preserved
loop-j-preserved c = (
  omega arith,
  four_more _ _ _ _ c.loop-j.invariant.1 c.read.ensures c.read-in-loop-j.ensures c.read-in-loop-j-2.ensures c.read-in-loop-j-3.ensures
      c.gain_rows.ensures,
)
