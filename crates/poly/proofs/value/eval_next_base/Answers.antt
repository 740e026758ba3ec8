-- What the tests say of the table and of the point. Assumes nothing.
use Prim.Native.Nat.{◌^◌, ◌<◌}
use native.Mathlib.Omega.{arith}
use mathlib.Core.Path.{◌∙◌}
use lib.ListN.{length}
use Rattle.table.specs.Table.{entries}
use Rattle.weigh.specs.Entries.{WholeTable}
use Rattle.table.proofs.Laws.{elements_length}
use Rattle.table.proofs.Says.{accepted}
use Rattle.point.proofs.Coordinates.{point-says}
use Rattle.weigh.proofs.WordTables.{some, words_whole}
use Rattle.poly.proofs.Widths.{by_words, accepted_words}
use Rattle.poly.specs.Values.{eval_next_base_answer}
use Rattle.poly.proofs.NextValue.{as_next}
use Rattle.poly.proofs.value.eval_next_base.Goals as goal

pub of-requires : goal.of-requires
of-requires c =
    let h = accepted _ tt (c.in_ok-test_table.ensures ∙ by_words _ _) in
    search point-says

pub overflow_sub-table : goal.overflow_sub-table
overflow_sub-table c =
    let fits : length c.args.table.now < 2 ^ 64 = omega arith in
    let h = accepted _ tt (c.in_ok-test_table.ensures ∙ by_words _ _) in
    let w : WholeTable 1 (entries c.args.point.now) c.args.table.now = search (point-says, words_whole) in
    omega (arith, some w)

pub successor_value-requires : goal.successor_value-requires
successor_value-requires c =
    let fits : length c.args.table.now < 2 ^ 64 = omega arith in
    let h = accepted _ tt (c.in_ok-test_table.ensures ∙ by_words _ _) in
    let w : WholeTable 1 (entries c.args.point.now) c.args.table.now = search (point-says, words_whole) in
    record { whole = rw c.of.ensures.count w; own = omega (arith, some w) }

pub returns : goal.returns
unfolding eval_next_base_answer
returns c =
    let fits : length c.args.table.now < 2 ^ 64 = omega arith in
    let h = accepted _ tt (c.in_ok-test_table.ensures ∙ by_words _ _) in
    let w : WholeTable 1 (entries c.args.point.now) c.args.table.now = search (point-says, words_whole) in
    accepted_words _ _ c.in_ok-test_table.ensures _ _
    (as_next (entries c.args.point.now) _ _ (elements_length _ _ _) w
    (rw (c.of.ensures.words, c.of.ensures.count) at c.successor_value.ensures))
