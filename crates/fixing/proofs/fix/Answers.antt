-- `fixing::fix` meets its contract: by the tests' answer. Assumes nothing.
use Rattle.std.proofs.Common.{sym, ◌∙◌, ◌/◌, ◌^◌, ◌<◌, length, rules, arith}
use Rattle.field.specs.Field.{from_words}
use Rattle.table.specs.Table.{element_at}
use Rattle.table.proofs.Says.{accepted, says}
use Rattle.table.proofs.Outcomes.{accepted_leaves}
use Rattle.fixing.specs.Fixing.{fixed_at, fix_out}
use Rattle.fixing.specs.Inner.{Halves}
use Rattle.fixing.proofs.FixingOutcomes.{two_halves}
use Rattle.fixing.proofs.Making.{made_table}
use Rattle.fixing.proofs.fix.Goals as goal

pub new-requires : goal.new-requires
new-requires g c = let h = accepted _ tt c.in_ok-test_fix.ensures in search rules

pub fix-requires : goal.fix-requires
fix-requires g c =
    let fits : length c.args.entries.now < 2 ^ 64 = omega arith in
    let h = accepted _ tt c.in_ok-test_fix.ensures in
    search (says, two_halves)

pub returns-clause-entries_after : goal.returns-clause-entries_after
unfolding fix_out
returns-clause-entries_after g c =
    let fits : length c.args.entries.now < 2 ^ 64 = omega arith in
    let h = accepted _ tt c.in_ok-test_fix.ensures in
    let t : Halves (length c.args.entries.now / 4 / 2) c.args.entries.now = search (says, two_halves) in
    made_table _ (fixed_at g.S.Step.rule (length c.args.entries.now / 4 / 2) (element_at c.args.entries.now) (from_words c.args.r)) _ _
    (rw c.new.ensures at c.fix.ensures) (omega (arith, t.table.count))
    ∙ sym (accepted_leaves _ c.in_ok-test_fix.ensures _ _)
