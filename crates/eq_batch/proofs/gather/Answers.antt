-- A row more; the coordinate that is read stands in it. Assumes nothing.
use Rattle.std.proofs.Common.{refl, rules, arith}
use Rattle.eq_batch.proofs.Rows.{begin, room, next, ended}
use Rattle.eq_batch.proofs.gather.Goals as goal

pub loop-i-init : goal.loop-i-init
loop-i-init c = begin c.requires refl (search rules) (search rules) (search rules) (search rules)

pub read-requires : goal.read-requires
read-requires c =
    let r = room c.requires c.loop-i.invariant c.in-Some.row.now c.next.new.self.iter.iter.rest.now (search rules) (search rules) in
    (omega (arith, r.0), r.1)

pub loop-i-preserved : goal.loop-i-preserved
loop-i-preserved c =
    next c.requires c.loop-i.invariant c.in-Some.row.now c.next.new.self.iter.iter.rest.now (search rules) (search rules)
    c.next.new.self.iter.n (search rules) c.read.ensures (search rules) c.put.ensures (search rules) (search rules)

pub returns : goal.returns
returns c = ended c.requires c.loop-i.invariant (λ h. search rules)
