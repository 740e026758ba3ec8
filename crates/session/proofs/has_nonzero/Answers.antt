-- By the search that goes through the words. Assumes nothing.
use Rattle.std.proofs.Common.{◌∙◌, rules}
use Rattle.std.specs.Prelude.{not, nat_eq}
use Rattle.std.proofs.lemmas.Iterator.{YieldsList-from_slice}
use Rattle.std.proofs.lemmas.Iterator.Search.{any_from_yields_List}
use borrow.Author.Tests.{tests}
use Rattle.session.proofs.Scanning.{any_nonzero}
use Rattle.session.proofs.has_nonzero.Goals as goal

pub returns : goal.returns
returns c =
    any_from_yields_List (λ w. not (nat_eq w 0)) _ _ _ c.any.ensures.ran (YieldsList-from_slice c.args.ws.now cc)
    (λ x b q k. search (rules, tests))
    ∙ any_nonzero c.args.ws.now
