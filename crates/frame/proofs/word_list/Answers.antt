-- A word more. Assumes nothing.
use Rattle.std.proofs.Common.{◌<◌, length, rules, arith}
use Rattle.frame.proofs.Reading.{none_yet, room, one_more, all_there}
use Rattle.frame.proofs.word_list.Goals as goal

pub loop-four-init : goal.loop-four-init
loop-four-init c = none_yet _ _ c.requires.1 (search rules) c.new-words.ensures (search rules)

pub push-requires : goal.push-requires
push-requires c =
    let l : length c.loop-four.words < c.args.count =
    room c.loop-four.invariant c.in-Some.four.now c.next.new.self.rest.now (search rules) (search rules) in
    omega (arith, c.requires)

pub loop-four-preserved : goal.loop-four-preserved
loop-four-preserved c =
    one_more c.loop-four.invariant c.in-Some.four.now c.next.new.self.rest.now (search rules) (search rules) c.word.ensures c.push.ensures
    (search rules)

pub returns : goal.returns
returns c = all_there c.loop-four.invariant (search rules)
