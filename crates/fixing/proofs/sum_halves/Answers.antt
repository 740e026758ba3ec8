-- `fixing::sum_halves` meets its contract: a part's test decides whether it is summed, or the sums are taken back. Assumes nothing.
use Rattle.std.proofs.Common.{◌≡◌, ◌+◌, ◌≤◌, sym, ◌∙◌, arith}
use Rattle.fixing.proofs.Summing.{start, pairs, turn, summed_pairs, refused, finish}
use Rattle.fixing.proofs.sum_halves.Goals as goal

pub loop-at-init : goal.loop-at-init
loop-at-init c = start _ _

pub take_back-requires : goal.take_back-requires
take_back-requires c = summed_pairs c.requires c.loop-at.invariant _ (omega arith)

pub returns-then-is_unreduced : goal.returns-then-is_unreduced
returns-then-is_unreduced c =
    let within : c.loop-at.at + c.min-n.result ≤ c.args.h = omega (arith, c.min-n.ensures) in
    let told = refused c.requires c.loop-at.invariant _ within (sym c.is_unreduced.ensures ∙ c.if-is_unreduced.true)
    c.take_back.ensures in
    record { result_value = told.0; entries_after = told.1 }

pub add_part-requires : goal.add_part-requires
add_part-requires c =
    let within : c.loop-at.at + c.min-n.result ≤ c.args.h = omega (arith, c.min-n.ensures) in
    pairs c.requires c.loop-at.invariant _ within (sym c.is_unreduced.ensures ∙ c.if-is_unreduced.false)

pub loop-at-preserved : goal.loop-at-preserved
loop-at-preserved c =
    let whole : c.min-n.result ≡ 128 = omega (arith, c.min-n.ensures) in
    let within : c.loop-at.at + c.min-n.result ≤ c.args.h = omega (arith, c.min-n.ensures) in
    rw whole at
    (turn c.requires c.loop-at.invariant _ within (sym c.is_unreduced.ensures ∙ c.if-is_unreduced.false)
    c.add_part.ensures)

-- the last part ends the halves
pub returns-else-is_unreduced : goal.returns-else-is_unreduced
returns-else-is_unreduced c =
    let within : c.loop-at.at + c.min-n.result ≤ c.args.h = omega (arith, c.min-n.ensures) in
    let q : c.loop-at.at + c.min-n.result ≡ c.args.h = omega (arith, c.min-n.ensures) in
    let all =
    turn c.requires c.loop-at.invariant _ within (sym c.is_unreduced.ensures ∙ c.if-is_unreduced.false) c.add_part.ensures in
    let told = finish c.requires all q in
    record { result_value = told.0; entries_after = told.1 }

pub returns : goal.returns
returns c =
    let q : c.loop-at.at ≡ c.args.h = omega arith in
    let told = finish c.requires c.loop-at.invariant q in
    record { result_value = told.0; entries_after = told.1 }
