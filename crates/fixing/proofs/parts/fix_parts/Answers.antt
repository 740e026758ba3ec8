-- `fixing::parts::fix_parts` meets its contract: a part more. Assumes nothing.
use Rattle.std.proofs.Common.{◌≡◌, refl, ◌∙◌, ◌+◌, ◌*◌, ◌≤◌, length, arith}
use Rattle.field.specs.Field.{from_words}
use Rattle.fixing.proofs.Halving.{pairs_by, reaches, room_length, summands, part_made}
use Rattle.fixing.proofs.parts.fix_parts.Goals as goal

pub take-requires-clause-pairs : goal.take-requires-clause-pairs
take-requires-clause-pairs g c =
    let within : c.loop-at.at + c.min-n.result ≤ c.args.h = omega (arith, c.min-n.ensures, c.loop-at-test.true) in
    pairs_by g.S.Step.rule _ _ c.requires c.loop-at.invariant.0 c.min-n.result within

pub set-requires : goal.set-requires
set-requires g c = reaches c.min-n.result _ c.take.ensures (omega (arith, c.min-n.ensures, c.loop-at.invariant.2))

pub add-requires-clause-pairs : goal.add-requires-clause-pairs
add-requires-clause-pairs g c =
    let within : c.loop-at.at + c.min-n.result ≤ c.args.h = omega (arith, c.min-n.ensures, c.loop-at-test.true) in
    pairs_by g.S.Step.rule _ _ c.requires c.loop-at.invariant.0 c.min-n.result within

pub add-requires-clause-summands : goal.add-requires-clause-summands
add-requires-clause-summands g c =
    let within : c.loop-at.at + c.min-n.result ≤ c.args.h = omega (arith, c.min-n.ensures, c.loop-at-test.true) in
    summands g.S.Step.rule _ _ c.requires c.loop-at.invariant.0 c.min-n.result within (from_words c.args.m.r) c.take.ensures c.set.ensures
    (omega (arith, c.min-n.ensures, c.loop-at.invariant.2))

pub loop-at-preserved : goal.loop-at-preserved
loop-at-preserved g c =
    let whole : c.min-n.result ≡ 32 = omega (arith, c.min-n.ensures) in
    let within : c.loop-at.at + c.min-n.result ≤ c.args.h = omega (arith, c.min-n.ensures, c.loop-at-test.true) in
    let fits : 4 * c.min-n.result ≤ length c.loop-at.room = omega (arith, whole, c.loop-at.invariant.2) in (
      rw whole at
          (part_made g.S.Step.rule _ _ c.requires c.loop-at.invariant.0 c.min-n.result within (from_words c.args.m.r) c.take.ensures c.set.ensures
          g.met.S.Step.makes (λ y. refl) c.add.ensures),
      rw whole at within,
      room_length c.min-n.result _ c.loop-at.room c.take.ensures fits ∙ c.loop-at.invariant.2,
      c.set.ensures.len ∙ c.loop-at.invariant.3,
    )

-- the last part ends the halves
pub returns-2 : goal.returns-2
returns-2 g c =
    let within : c.loop-at.at + c.min-n.result ≤ c.args.h = omega (arith, c.min-n.ensures, c.loop-at-test.true) in
    let q : c.loop-at.at + c.min-n.result ≡ c.args.h = omega (arith, c.min-n.ensures) in
    rw q at
    (part_made g.S.Step.rule _ _ c.requires c.loop-at.invariant.0 c.min-n.result within (from_words c.args.m.r) c.take.ensures c.set.ensures
    g.met.S.Step.makes (λ y. refl) c.add.ensures)
