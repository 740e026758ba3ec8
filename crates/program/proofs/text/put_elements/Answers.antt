-- An element's line more. Assumes nothing.
use Rattle.std.proofs.Common.{rules}
use Rattle.program.proofs.Texts.{none_yet, line_more, line_fits, all_there}
use Rattle.program.proofs.text.put_elements.Goals as goal

pub loop-element-init : goal.loop-element-init
loop-element-init c = none_yet c.requires.there (search rules) (search rules)

pub extend-requires : goal.extend-requires
extend-requires c = (
  search rules,
  line_fits c.requires.there c.loop-element.invariant c.in-Some.element.now c.next.new.self.rest.now (search rules) (search rules) (search rules) c.requires.room,
)

pub loop-element-preserved : goal.loop-element-preserved
loop-element-preserved c =
    line_more c.requires.there c.loop-element.invariant c.in-Some.element.now _ (search rules) (search rules) (search rules)
    c.extend.ensures (search rules)

pub returns : goal.returns
returns c = all_there c.requires.there c.loop-element.invariant (search rules)
