-- `dots::dot_few` meets its contract. Assumes nothing.
use Rattle.std.proofs.Common.{rules, ◌≡◌, ◌+◌, ◌%◌, length, get_or, ◌∷◌, [], arith}
use Rattle.std.proofs.lemmas.Grind.{common_steps}
use Rattle.field.specs.Field.{p}
use Rattle.field.proofs.Mapping.{serves_index, each_given}
use Rattle.dots.proofs.FewWords.{start, turn, fits, few_holds}
use Rattle.dots.proofs.dot_few.Goals as goal

pub loop-i-init : goal.loop-i-init
loop-i-init c = start _ _

pub from_fn-more-requires : goal.from_fn-more-requires
from_fn-more-requires c = (
  search rules,
  serves_index (λ x q r. search rules)
      (λ x l. (l, fits _ _ c.loop-i.invariant c.loop-i-test.true c.requires.0 c.requires.1 c.gains-gains.ensures x l)),
)

pub loop-i-preserved : goal.loop-i-preserved
loop-i-preserved c =
    turn _ _ c.loop-i.invariant c.loop-i-test.true c.gains-gains.ensures
    (each_given _ (λ k x. x ≡ get_or c.loop-i.sums k 0 + get_or c.gains-gains.result k 0) _ _ (λ i y q l j. search rules) _
    c.from_fn-more.ensures.items)

pub returns : goal.returns
returns c =
    let s = c.loop-i.sums in
    let e : c.from_fn.result ≡ get_or s 0 0 % p ∷ get_or s 1 0 % p ∷ get_or s 2 0 % p ∷ get_or s 3 0 % p ∷ [] =
    grind (arith, common_steps) in
    let q : c.loop-i.i ≡ length c.args.words.now = omega arith in
    rw e (few_holds _ _ (rw q at c.loop-i.invariant))
