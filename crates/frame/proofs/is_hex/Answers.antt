-- The characters of a line of even length decide. Assumes nothing.
use Rattle.std.proofs.Common.{◌∙◌, sym, rules, tests}
use Rattle.std.proofs.lemmas.Iterator.{YieldsList-from_slice}
use Rattle.std.proofs.lemmas.Iterator.Search.{all_from_yields_List}
use Rattle.std.proofs.lemmas.Bool.{ne_eqb}
use Rattle.frame.specs.Hex.{is_digit}
use Rattle.frame.proofs.Scanning.{even, odd}
use Rattle.frame.proofs.is_hex.Goals as goal

pub returns-then-line-eq0 : goal.returns-then-line-eq0
returns-then-line-eq0 c =
    let line = c.args.line.now in
    all_from_yields_List is_digit _ _ _ c.all.ensures.ran (YieldsList-from_slice line cc) (λ x b q k. search (rules, tests))
    ∙ sym (even line c.if-line-eq0.true)

pub returns-else-line-eq0 : goal.returns-else-line-eq0
returns-else-line-eq0 c = ne_eqb _ 0 c.if-line-eq0.false ∙ sym (odd c.args.line.now c.if-line-eq0.false)
