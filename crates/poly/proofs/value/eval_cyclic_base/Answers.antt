-- What the tests say of the table and of the point. Assumes nothing.
use Prim.Native.Nat.{◌^◌, ◌<◌}
use native.Mathlib.Omega.{arith}
use mathlib.Core.Path.{◌∙◌}
use lib.ListN.{length}
use Rattle.table.specs.Table.{entries}
use Rattle.weigh.specs.Entries.{WholeTable}
use Rattle.table.proofs.Says.{accepted}
use Rattle.point.proofs.Coordinates.{point-says}
use Rattle.weigh.proofs.WordTables.{some, words_whole}
use Rattle.poly.proofs.Widths.{by_words, accepted_words}
use Rattle.poly.specs.Values.{eval_cyclic_base_answer}
use Rattle.poly.proofs.NextValue.{as_cyclic}
use Rattle.poly.proofs.value.eval_cyclic_base.Goals as goal

pub of-requires : goal.of-requires
of-requires c =
    let h = accepted _ tt (c.in_ok-test_table.ensures ∙ by_words _ _) in
    search point-says

pub successor_value-requires : goal.successor_value-requires
successor_value-requires c =
    let fits : length c.args.table.now < 2 ^ 64 = omega arith in
    let h = accepted _ tt (c.in_ok-test_table.ensures ∙ by_words _ _) in
    let w : WholeTable 1 (entries c.args.point.now) c.args.table.now = search (point-says, words_whole) in
    record { whole = rw c.of.ensures.count w; own = some w }

pub returns : goal.returns
unfolding eval_cyclic_base_answer
returns c =
    accepted_words _ _ c.in_ok-test_table.ensures _ _
    (as_cyclic _ _ (rw (c.of.ensures.words, c.of.ensures.count) at c.successor_value.ensures))
