-- A block more. Assumes nothing.
use Rattle.std.proofs.Common.{◌≡◌, ◌+◌, ◌/◌, length, ap, arith}
use Rattle.kernel.specs.Kernel.{row_sum}
use Rattle.kernel.proofs.Placing.{next_block}
use Rattle.kernel.proofs.places.gain_table.Goals as goal

pub loop-from-preserved : goal.loop-from-preserved
loop-from-preserved c =
    let size : length c.loop-from.out / 4 ≡ length c.args.out.now / 4 = ap (λ n. n / 4) c.loop-from.invariant.1.len in (
      omega (arith, c.min-end.ensures),
      next_block (omega (arith, c.min-end.ensures)) c.loop-from.invariant.1 c.gain_places.ensures (λ y h.
          ap (λ n. row_sum c.args.table.now n c.args.words.now (c.loop-from.from + y)) size),
    )
