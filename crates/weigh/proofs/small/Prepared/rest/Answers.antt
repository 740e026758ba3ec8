-- What is left of both. Assumes nothing.
use Rattle.weigh.specs.Weigh.{Rest}
use Rattle.weigh.proofs.FewVariables.{rest_raised}
use Rattle.weigh.proofs.small.Prepared.rest.Goals as goal

pub invariant_of-result : goal.invariant_of-result
invariant_of-result c =
    let s = c.args.self.now in
    let is : Rest 1 s.point c.after.result = record { words = c.after.ensures.words; count = c.after.ensures.count } in
    record { raised_is = rest_raised s.point s.raised_is {rest_is = c.after.result} is c.requires }
