-- What is given, with the words that were lent. Assumes nothing.
use Rattle.host.proofs.Applying.{applied}
use Rattle.host.proofs.elements.apply.Goals as goal

pub returns : goal.returns
returns c =
    let r = applied c.args.x.now c.args.y.now c.args.operation c.args.out.now c.operate.ensures c.give_words.ensures in
    record { value = r.0; out_after = r.1 }
